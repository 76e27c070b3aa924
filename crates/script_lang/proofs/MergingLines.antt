-- The lines of commands that bring packages into a workspace or take them out. What stands after the first word is read as the
-- command, and is the command's words where it is read.
use Rattle.std.proofs.Common.{ap, ◌≡◌, ◌∙◌, ℕ, List, [], ◌∷◌, refl, Option, Some, Result, Ok, Err, codes, arith}
use Rattle.std.specs.Fmt.{decimal}
use Rattle.hex.specs.Hex.{decode_of}
use Rattle.hex.specs.declared.error.FromHexError.{FromHexError}
use Rattle.hex.proofs.HexLemmas.{decode_of-ok}
use Rattle.script_lang.specs.declared.command.Command.{Command}
use Rattle.script_lang.specs.declared.command.Command.TheVariants as commands
use Rattle.script_lang.specs.Left.{Left}
use Rattle.script_lang.specs.Words.{◌>>=◌, optional_at}
use Rattle.script_lang.specs.Command.{tidy_at, if_decoded, bytes_at, apply_at, update_at, merge_at, revert_at}
use Rattle.script_lang.specs.Spelling.{IsWord, IsCommand, IsWorkspace, IsSomeBytes, optional_word}
use Rattle.script_lang.proofs.Readings.{reads, tells, reached, found, word_kind, joined, Front, Tells, told_as}
use Rattle.script_lang.proofs.FieldLemmas.{number_kind, index_kind, end_tells, optional_in, optional_out}
use Rattle.script_lang.proofs.SpecLemmas.{name_kind}

pub tidy_read : (ws : ℕ) → IsCommand (commands.Tidy ws) → (column : ℕ)
    → tidy_at (record { rest = joined (decimal ws ∷ []); column = column }) ≡ Ok (commands.Tidy ws)
unfolding tidy_at
tidy_read ws is column = reads (number_kind 1) ws is [] column _ _ (λ a. refl)

pub tidy_spelled : (left : Left) (command : Command) → tidy_at left ≡ Ok command → Tells (codes "tidy") left command
unfolding tidy_at
tidy_spelled left command e =
    tells (number_kind 1) left _ command e (λ ws a is_ws at_ws e1.
    let end = end_tells a _ command e1 in
    told_as (codes "tidy") left (commands.Tidy ws) command (decimal ws ∷ []) is_ws (at_ws [] end.0) (λ l e. e) end.1)

-- a word of digits is read as its bytes
bytes_in : {B : Type 0} (digits bytes : List ℕ) → IsWord digits → decode_of digits ≡ Ok bytes → (column : ℕ) (f : List ℕ × Left → Result B ℕ) (y : B)
    → ((past : ℕ) → f (bytes, record { rest = joined []; column = past }) ≡ Ok y)
    → (bytes_at (record { rest = joined (digits ∷ []); column = column }) >>= f) ≡ Ok y
unfolding bytes_at
bytes_in digits bytes is decoded column f y on =
    let k = word_kind.read digits is (joined []) column in
    rw (k.1, decoded) (on k.0)

decoded_is : (r : Result (List ℕ) FromHexError) (bytes : List ℕ) → if_decoded r ≡ Some bytes → r ≡ Ok bytes
decoded_is (Ok xs) bytes e = cc
decoded_is (Err x) bytes e = cc

-- bytes that a word spells are some, and bytes
some_bytes : (digits bytes : List ℕ) → IsWord digits → decode_of digits ≡ Ok bytes → IsSomeBytes bytes
some_bytes digits bytes is decoded =
    let ok = decode_of-ok digits bytes decoded in
    (omega (arith, is.0, ok.2), ok.3)

-- where bytes were read a word of their digits stands first
bytes_tell : {B G : Type 0} (left : Left) (f : List ℕ × Left → Result B ℕ) (y : B) → (bytes_at left >>= f) ≡ Ok y
    → ((digits bytes : List ℕ) (next : Left) → IsWord digits → decode_of digits ≡ Ok bytes → Front left digits next → f (bytes, next) ≡ Ok y → G) → G
unfolding bytes_at
bytes_tell left f y e on =
    let k = reached (bytes_at left) f y e in
    tells word_kind left _ k.0 k.1 (λ digits a is_word at_word e1.
    let there = found left.column (if_decoded (decode_of digits)) a k.0.0 k.0.1 e1 in
    on digits k.0.0 k.0.1 is_word (decoded_is (decode_of digits) k.0.0 there.0) (λ words more. at_word words (ap (λ l. l.rest) there.1 ∙ more)) k.2)

pub apply_read : (ws : ℕ) (digits bytes : List ℕ) → IsWorkspace ws → IsWord digits → decode_of digits ≡ Ok bytes → (column : ℕ)
    → apply_at (record { rest = joined (decimal ws ∷ digits ∷ []); column = column }) ≡ Ok (commands.Apply ws bytes)
unfolding apply_at
apply_read ws digits bytes is_ws is decoded column =
    reads (number_kind 1) ws is_ws (digits ∷ []) column _ _
    (λ a. bytes_in digits bytes is decoded a _ _
    (λ b. refl))

pub apply_spelled : (left : Left) (command : Command) → apply_at left ≡ Ok command → Tells (codes "apply") left command
unfolding apply_at
apply_spelled left command e =
    tells (number_kind 1) left _ command e (λ ws a is_ws at_ws e1.
    bytes_tell a _ command e1 (λ digits bytes b is_word decoded at_word e2.
    let end = end_tells b _ command e2 in
    told_as (codes "apply") left (commands.Apply ws bytes) command (decimal ws ∷ digits ∷ []) (is_ws, some_bytes digits bytes is_word decoded)
    (at_ws (digits ∷ []) (at_word [] end.0)) (λ l e. (digits, is_word, decoded, e)) end.1))

pub update_read : (ws : ℕ) (choices : Option (List ℕ)) → IsCommand (commands.Update ws choices) → (column : ℕ)
    → update_at (record { rest = joined (decimal ws ∷ optional_word choices); column = column }) ≡ Ok (commands.Update ws choices)
unfolding update_at
update_read ws choices is column =
    reads (number_kind 1) ws is.0 (optional_word choices) column _ _
    (λ a. let o = optional_in choices is.1 a in rw (o.1, o.2) refl)

pub update_spelled : (left : Left) (command : Command) → update_at left ≡ Ok command → Tells (codes "update") left command
unfolding update_at
update_spelled left command e =
    tells (number_kind 1) left _ command e (λ ws a is_ws at_ws e1.
    let o = reached (optional_at a) _ command e1 in
    let end = end_tells o.0.1 _ command o.2 in
    let t = optional_out a o.0.0 o.0.1 o.1 end.0 in
    told_as (codes "update") left (commands.Update ws o.0.0) command (decimal ws ∷ optional_word o.0.0) (is_ws, t.0) (at_ws (optional_word o.0.0) t.1)
    (λ l e. e) end.1)

pub merge_read : (ws : ℕ) (branch : List ℕ) (choices : Option (List ℕ)) → IsCommand (commands.Merge ws branch choices) → (column : ℕ)
    → merge_at (record { rest = joined (decimal ws ∷ branch ∷ optional_word choices); column = column }) ≡ Ok (commands.Merge ws branch choices)
unfolding merge_at
merge_read ws branch choices is column =
    reads (number_kind 1) ws is.0 (branch ∷ optional_word choices) column _ _
    (λ a. reads name_kind branch is.1 (optional_word choices) a _ _
    (λ b. let o = optional_in choices is.2 b in rw (o.1, o.2) refl))

pub merge_spelled : (left : Left) (command : Command) → merge_at left ≡ Ok command → Tells (codes "merge") left command
unfolding merge_at
merge_spelled left command e =
    tells (number_kind 1) left _ command e (λ ws a is_ws at_ws e1.
    tells name_kind a _ command e1 (λ branch b is_branch at_branch e2.
    let o = reached (optional_at b) _ command e2 in
    let end = end_tells o.0.1 _ command o.2 in
    let t = optional_out b o.0.0 o.0.1 o.1 end.0 in
    told_as (codes "merge") left (commands.Merge ws branch o.0.0) command (decimal ws ∷ branch ∷ optional_word o.0.0) (is_ws, is_branch, t.0)
    (at_ws (branch ∷ optional_word o.0.0) (at_branch (optional_word o.0.0) t.1)) (λ l e. e) end.1))

pub revert_read : (ws version : ℕ) → IsCommand (commands.Revert ws version) → (column : ℕ)
    → revert_at (record { rest = joined (decimal ws ∷ decimal version ∷ []); column = column }) ≡ Ok (commands.Revert ws version)
unfolding revert_at
revert_read ws version is column =
    reads (number_kind 1) ws is.0 (decimal version ∷ []) column _ _
    (λ a. reads index_kind version is.1 [] a _ _
    (λ b. refl))

pub revert_spelled : (left : Left) (command : Command) → revert_at left ≡ Ok command → Tells (codes "revert") left command
unfolding revert_at
revert_spelled left command e =
    tells (number_kind 1) left _ command e (λ ws a is_ws at_ws e1.
    tells index_kind a _ command e1 (λ version b is_version at_version e2.
    let end = end_tells b _ command e2 in
    told_as (codes "revert") left (commands.Revert ws version) command (decimal ws ∷ decimal version ∷ []) (is_ws, is_version)
    (at_ws (decimal version ∷ []) (at_version [] end.0)) (λ l e. e) end.1))
