-- A line and the command that it spells.
use Rattle.std.proofs.Common.{◌≡◌, ℕ, suc, List, [], ◌∷◌, refl, sym, ap, subst, ◌∙◌, true, false, Bool, cond, Some, Result, Ok, arith, codes}
use Rattle.std.specs.Prelude.{map}
use Rattle.std.specs.List.{AllPass, list_any}
use Rattle.std.proofs.lemmas.Bool.{eqb-true}
use Rattle.hex.specs.Hex.{encode_lower, is_hex_digit}
use Rattle.hex.proofs.HexLemmas.{decode_of-encode_lower, decode_of-ok}
use Rattle.std.specs.Fmt.{decimal}
use Rattle.script_lang.specs.declared.command.Command.{Command}
use Rattle.script_lang.specs.declared.command.Command.TheVariants as commands
use Rattle.edits.specs.declared.edit.Edit.{Edit}
use Rattle.edits.specs.declared.edit.Edit.TheVariants.{Create, Delete, Set, Unset, Add, Remove, Shift, Link, Unlink, Reorder, Move}
use Rattle.script_lang.specs.Left.{Left}
use Rattle.script_lang.specs.Words.{is_space, word_at}
use Rattle.finite_maps.specs.Equal.{text_eq}
use Rattle.script_lang.specs.Command.{init_at, evolve_at, import_at, load_at, checkout_at, create_at, delete_at, move_at, set_at, unset_at, add_at}
use Rattle.script_lang.specs.Command.{remove_at, shift_at, link_at, unlink_at, reorder_at, begin_at, end_line_at, undo_at, discard_at, tidy_at}
use Rattle.script_lang.specs.Command.{apply_at, changes_at, show_at, cat_at, validate_at, commit_at, signed_at, branch_at, tag_at, log_at, package_at}
use Rattle.script_lang.specs.Command.{update_at, merge_at, revert_at, drop_at, upgrade_at, command_of_word, feature_commands, work_commands, version_commands}
use Rattle.script_lang.specs.Command.{command_of}
use Rattle.script_lang.specs.Spelling.{IsWord, IsCommand, IsLineOf, CommandsHaveLines, LinesAreSpelled, edit_word, edit_fields, spec_word}
use Rattle.script_lang.specs.Spelling.{optional_word, spaced, Spells}
use Rattle.script_lang.proofs.WordLemmas.{word_back}
use Rattle.script_lang.proofs.Readings.{reads, reached, word_kind, joined, spaced_joined, Tells}
use Rattle.script_lang.proofs.FieldLemmas.{same_word}
use Rattle.script_lang.proofs.ElementLines.{create_read, create_spelled, delete_read, delete_spelled, move_read, move_spelled}
use Rattle.script_lang.proofs.EditLines.{set_read, set_spelled, unset_read, unset_spelled, add_read, add_spelled, remove_read, remove_spelled}
use Rattle.script_lang.proofs.EditLines.{shift_read, shift_spelled}
use Rattle.script_lang.proofs.ReferenceLines.{link_read, link_spelled, unlink_read, unlink_spelled, reorder_read, reorder_spelled}
use Rattle.script_lang.proofs.WorkspaceLines.{init_read, init_spelled, evolve_read, evolve_spelled, import_read, import_spelled, load_read}
use Rattle.script_lang.proofs.WorkspaceLines.{load_spelled, checkout_read, checkout_spelled, begin_read, begin_spelled, end_read, end_spelled}
use Rattle.script_lang.proofs.WorkspaceLines.{undo_read, undo_spelled, discard_read, discard_spelled, changes_read, changes_spelled, show_read}
use Rattle.script_lang.proofs.WorkspaceLines.{show_spelled, cat_read, cat_spelled, validate_read, validate_spelled}
use Rattle.script_lang.proofs.MergingLines.{tidy_read, tidy_spelled, apply_read, apply_spelled, update_read, update_spelled, merge_read}
use Rattle.script_lang.proofs.MergingLines.{merge_spelled, revert_read, revert_spelled}
use Rattle.script_lang.proofs.VersionLines.{commit_read, commit_spelled, signed_read, signed_spelled, branch_read, branch_spelled, tag_read}
use Rattle.script_lang.proofs.VersionLines.{tag_spelled, log_read, log_spelled, package_read, package_spelled, drop_read, drop_spelled, upgrade_read}
use Rattle.script_lang.proofs.VersionLines.{upgrade_spelled}

-- a line is what is left of it before its first word
pub line_joined : (line first : List ℕ) (words : List (List ℕ)) → line ≡ spaced (first ∷ words) → Some line ≡ joined (first ∷ words)
line_joined line first words is = ap Some is ∙ spaced_joined first words

edit_read : (line : List ℕ) (ws : ℕ) (edit : Edit) → IsCommand (commands.Edit ws edit) → Some line ≡ joined (edit_word edit ∷ decimal ws ∷ edit_fields edit)
    → command_of line ≡ Ok (commands.Edit ws edit)
unfolding command_of feature_commands work_commands version_commands
edit_read line ws (Create class destination id) is words =
    rw words (reads word_kind (codes "create") (omega arith, refl) (decimal ws ∷ edit_fields (Create class destination id)) 1 _ _
    (create_read ws class destination id is))
edit_read line ws (Delete id) is words =
    rw words (reads word_kind (codes "delete") (omega arith, refl) (decimal ws ∷ edit_fields (Delete id)) 1 _ _ (delete_read ws id is))
edit_read line ws (Move id destination index) is words =
    rw words (reads word_kind (codes "move") (omega arith, refl) (decimal ws ∷ edit_fields (Move id destination index)) 1 _ _
    (move_read ws id destination index is))
edit_read line ws (Set id feature value) is words =
    rw words (reads word_kind (codes "set") (omega arith, refl) (decimal ws ∷ edit_fields (Set id feature value)) 1 _ _ (set_read ws id feature value is))
edit_read line ws (Unset id feature) is words =
    rw words (reads word_kind (codes "unset") (omega arith, refl) (decimal ws ∷ edit_fields (Unset id feature)) 1 _ _ (unset_read ws id feature is))
edit_read line ws (Add id feature at value) is words =
    rw words (reads word_kind (codes "add") (omega arith, refl) (decimal ws ∷ edit_fields (Add id feature at value)) 1 _ _ (add_read ws id feature at value is))
edit_read line ws (Remove id feature index) is words =
    rw words (reads word_kind (codes "remove") (omega arith, refl) (decimal ws ∷ edit_fields (Remove id feature index)) 1 _ _
    (remove_read ws id feature index is))
edit_read line ws (Shift id feature from to) is words =
    rw words (reads word_kind (codes "shift") (omega arith, refl) (decimal ws ∷ edit_fields (Shift id feature from to)) 1 _ _
    (shift_read ws id feature from to is))
edit_read line ws (Link id feature target index) is words =
    rw words (reads word_kind (codes "link") (omega arith, refl) (decimal ws ∷ edit_fields (Link id feature target index)) 1 _ _
    (link_read ws id feature target index is))
edit_read line ws (Unlink id feature target) is words =
    rw words (reads word_kind (codes "unlink") (omega arith, refl) (decimal ws ∷ edit_fields (Unlink id feature target)) 1 _ _
    (unlink_read ws id feature target is))
edit_read line ws (Reorder id feature target index) is words =
    rw words (reads word_kind (codes "reorder") (omega arith, refl) (decimal ws ∷ edit_fields (Reorder id feature target index)) 1 _ _
    (reorder_read ws id feature target index is))

-- a line that spells a command is read as that one
pub line_read : (line : List ℕ) (command : Command) → Spells line command → command_of line ≡ Ok command
unfolding command_of feature_commands work_commands version_commands
line_read line commands.Init spells =
    rw (line_joined line (codes "init") [] spells.words) (reads word_kind (codes "init") (omega arith, refl) [] 1 _ _ init_read)
line_read line commands.Evolve spells =
    rw (line_joined line (codes "evolve") [] spells.words) (reads word_kind (codes "evolve") (omega arith, refl) [] 1 _ _ evolve_read)
line_read line (commands.Import ws) spells =
    rw (line_joined line (codes "import") (decimal ws ∷ []) spells.words)
    (reads word_kind (codes "import") (omega arith, refl) (decimal ws ∷ []) 1 _ _ (import_read ws spells.form))
line_read line (commands.Load ws) spells =
    rw (line_joined line (codes "load") (decimal ws ∷ []) spells.words)
    (reads word_kind (codes "load") (omega arith, refl) (decimal ws ∷ []) 1 _ _ (load_read ws spells.form))
line_read line (commands.Checkout spec) spells =
    rw (line_joined line (codes "checkout") (spec_word spec ∷ []) spells.words)
    (reads word_kind (codes "checkout") (omega arith, refl) (spec_word spec ∷ []) 1 _ _ (checkout_read spec spells.form))
line_read line (commands.Edit ws edit) spells =
    edit_read line ws edit spells.form (line_joined line (edit_word edit) (decimal ws ∷ edit_fields edit) spells.words)
line_read line (commands.Begin ws name) spells =
    rw (line_joined line (codes "begin") (decimal ws ∷ name ∷ []) spells.words)
    (reads word_kind (codes "begin") (omega arith, refl) (decimal ws ∷ name ∷ []) 1 _ _ (begin_read ws name spells.form))
line_read line (commands.End ws) spells =
    rw (line_joined line (codes "end") (decimal ws ∷ []) spells.words)
    (reads word_kind (codes "end") (omega arith, refl) (decimal ws ∷ []) 1 _ _ (end_read ws spells.form))
line_read line (commands.Undo ws) spells =
    rw (line_joined line (codes "undo") (decimal ws ∷ []) spells.words)
    (reads word_kind (codes "undo") (omega arith, refl) (decimal ws ∷ []) 1 _ _ (undo_read ws spells.form))
line_read line (commands.Discard ws) spells =
    rw (line_joined line (codes "discard") (decimal ws ∷ []) spells.words)
    (reads word_kind (codes "discard") (omega arith, refl) (decimal ws ∷ []) 1 _ _ (discard_read ws spells.form))
line_read line (commands.Tidy ws) spells =
    rw (line_joined line (codes "tidy") (decimal ws ∷ []) spells.words)
    (reads word_kind (codes "tidy") (omega arith, refl) (decimal ws ∷ []) 1 _ _ (tidy_read ws spells.form))
line_read line (commands.Apply ws bytes) spells =
    let digits = spells.words.0 in
    rw (line_joined line (codes "apply") (decimal ws ∷ digits ∷ []) spells.words.3)
    (reads word_kind (codes "apply") (omega arith, refl) (decimal ws ∷ digits ∷ []) 1 _ _
    (apply_read ws digits bytes spells.form.0 spells.words.1 spells.words.2))
line_read line (commands.Changes ws) spells =
    rw (line_joined line (codes "changes") (decimal ws ∷ []) spells.words)
    (reads word_kind (codes "changes") (omega arith, refl) (decimal ws ∷ []) 1 _ _ (changes_read ws spells.form))
line_read line (commands.Show ws) spells =
    rw (line_joined line (codes "show") (decimal ws ∷ []) spells.words)
    (reads word_kind (codes "show") (omega arith, refl) (decimal ws ∷ []) 1 _ _ (show_read ws spells.form))
line_read line (commands.Cat spec) spells =
    rw (line_joined line (codes "cat") (spec_word spec ∷ []) spells.words)
    (reads word_kind (codes "cat") (omega arith, refl) (spec_word spec ∷ []) 1 _ _ (cat_read spec spells.form))
line_read line (commands.Validate ws) spells =
    rw (line_joined line (codes "validate") (decimal ws ∷ []) spells.words)
    (reads word_kind (codes "validate") (omega arith, refl) (decimal ws ∷ []) 1 _ _ (validate_read ws spells.form))
line_read line (commands.Commit ws message) spells =
    rw (line_joined line (codes "commit") (decimal ws ∷ optional_word message) spells.words)
    (reads word_kind (codes "commit") (omega arith, refl) (decimal ws ∷ optional_word message) 1 _ _ (commit_read ws message spells.form))
line_read line (commands.Signed ws author moment message) spells =
    rw (line_joined line (codes "signed") (decimal ws ∷ author ∷ decimal moment ∷ optional_word message) spells.words)
    (reads word_kind (codes "signed") (omega arith, refl) (decimal ws ∷ author ∷ decimal moment ∷ optional_word message) 1 _ _
    (signed_read ws author moment message spells.form))
line_read line (commands.Branch ws name) spells =
    rw (line_joined line (codes "branch") (decimal ws ∷ name ∷ []) spells.words)
    (reads word_kind (codes "branch") (omega arith, refl) (decimal ws ∷ name ∷ []) 1 _ _ (branch_read ws name spells.form))
line_read line (commands.Tag name spec) spells =
    rw (line_joined line (codes "tag") (name ∷ spec_word spec ∷ []) spells.words)
    (reads word_kind (codes "tag") (omega arith, refl) (name ∷ spec_word spec ∷ []) 1 _ _ (tag_read name spec spells.form))
line_read line commands.Log spells = rw (line_joined line (codes "log") [] spells.words) (reads word_kind (codes "log") (omega arith, refl) [] 1 _ _ log_read)
line_read line (commands.Package spec) spells =
    rw (line_joined line (codes "package") (spec_word spec ∷ []) spells.words)
    (reads word_kind (codes "package") (omega arith, refl) (spec_word spec ∷ []) 1 _ _ (package_read spec spells.form))
line_read line (commands.Update ws choices) spells =
    rw (line_joined line (codes "update") (decimal ws ∷ optional_word choices) spells.words)
    (reads word_kind (codes "update") (omega arith, refl) (decimal ws ∷ optional_word choices) 1 _ _ (update_read ws choices spells.form))
line_read line (commands.Merge ws branch choices) spells =
    rw (line_joined line (codes "merge") (decimal ws ∷ branch ∷ optional_word choices) spells.words)
    (reads word_kind (codes "merge") (omega arith, refl) (decimal ws ∷ branch ∷ optional_word choices) 1 _ _ (merge_read ws branch choices spells.form))
line_read line (commands.Revert ws version) spells =
    rw (line_joined line (codes "revert") (decimal ws ∷ decimal version ∷ []) spells.words)
    (reads word_kind (codes "revert") (omega arith, refl) (decimal ws ∷ decimal version ∷ []) 1 _ _ (revert_read ws version spells.form))
line_read line (commands.Drop ws) spells =
    rw (line_joined line (codes "drop") (decimal ws ∷ []) spells.words)
    (reads word_kind (codes "drop") (omega arith, refl) (decimal ws ∷ []) 1 _ _ (drop_read ws spells.form))
line_read line commands.Upgrade spells =
    rw (line_joined line (codes "upgrade") [] spells.words) (reads word_kind (codes "upgrade") (omega arith, refl) [] 1 _ _ upgrade_read)

-- a first word is the one that was looked for, or reading went on to the next
chosen_or : (first word : List ℕ) (left : Left) (command : Command) (read next : Result Command ℕ) (b : Bool) → text_eq first word ≡ b
    → (read ≡ Ok command → Tells word left command) → (next ≡ Ok command → Tells first left command) → cond b read next ≡ Ok command → Tells first left command
chosen_or first word left command read next true is this other e = subst (λ w. Tells w left command) (sym (same_word first word is)) (this e)
chosen_or first word left command read next false is this other e = other e

-- a word, how what stands after it is read, and that what is read so is spelled after the word
record Row : Type 0 where
  word : List ℕ
  read : Left → Result Command ℕ
  spelled : (left : Left) (command : Command) → read left ≡ Ok command → Tells word left command

abbrev known : (word : List ℕ) (read : Left → Result Command ℕ) → ((left : Left) (command : Command) → read left ≡ Ok command → Tells word left command) → Row
known word read spelled = record { word = word; read = read; spelled = spelled }

abbrev plain : Row → List ℕ × (Left → Result Command ℕ)
plain row = (row.word, row.read)

-- what the first word chooses is spelled after it
chosen_spelled : (rows : List Row) (first : List ℕ) (left : Left) (command : Command) → command_of_word (map plain rows) first left ≡ Ok command
    → Tells first left command
chosen_spelled [] first left command e = cc
chosen_spelled (row ∷ rows) first left command e =
    chosen_or first row.word left command (row.read left) (command_of_word (map plain rows) first left) (text_eq first row.word) refl
    (row.spelled left command) (chosen_spelled rows first left command) e

abbrev all_rows : List Row
all_rows =
    known (codes "init") init_at init_spelled ∷
    known (codes "evolve") evolve_at evolve_spelled ∷
    known (codes "import") import_at import_spelled ∷
    known (codes "load") load_at load_spelled ∷
    known (codes "checkout") checkout_at checkout_spelled ∷
    known (codes "create") create_at create_spelled ∷
    known (codes "delete") delete_at delete_spelled ∷
    known (codes "move") move_at move_spelled ∷
    known (codes "set") set_at set_spelled ∷
    known (codes "unset") unset_at unset_spelled ∷
    known (codes "add") add_at add_spelled ∷
    known (codes "remove") remove_at remove_spelled ∷
    known (codes "shift") shift_at shift_spelled ∷
    known (codes "link") link_at link_spelled ∷
    known (codes "unlink") unlink_at unlink_spelled ∷
    known (codes "reorder") reorder_at reorder_spelled ∷
    known (codes "begin") begin_at begin_spelled ∷
    known (codes "end") end_line_at end_spelled ∷
    known (codes "undo") undo_at undo_spelled ∷
    known (codes "discard") discard_at discard_spelled ∷
    known (codes "tidy") tidy_at tidy_spelled ∷
    known (codes "apply") apply_at apply_spelled ∷
    known (codes "changes") changes_at changes_spelled ∷
    known (codes "show") show_at show_spelled ∷
    known (codes "cat") cat_at cat_spelled ∷
    known (codes "validate") validate_at validate_spelled ∷
    known (codes "commit") commit_at commit_spelled ∷
    known (codes "signed") signed_at signed_spelled ∷
    known (codes "branch") branch_at branch_spelled ∷
    known (codes "tag") tag_at tag_spelled ∷
    known (codes "log") log_at log_spelled ∷
    known (codes "package") package_at package_spelled ∷
    known (codes "update") update_at update_spelled ∷
    known (codes "merge") merge_at merge_spelled ∷
    known (codes "revert") revert_at revert_spelled ∷
    known (codes "drop") drop_at drop_spelled ∷
    known (codes "upgrade") upgrade_at upgrade_spelled ∷ []

-- a line that is read as a command has its words
pub line_tells : (line : List ℕ) (command : Command) → command_of line ≡ Ok command → IsCommand command × IsLineOf line command
unfolding command_of feature_commands work_commands version_commands
line_tells line command e =
    let k = reached (word_at (record { rest = Some line; column = 1 })) _ command e in
    let w = word_back (record { rest = Some line; column = 1 }) k.0.0 k.0.1 k.1 in
    let t = chosen_spelled all_rows k.0.0 k.0.1 command k.2 in
    (t.0, t.1 line w.1)

pub line_spelled : LinesAreSpelled
line_spelled line command is e = let t = line_tells line command e in record { is_line = is; form = t.0; words = t.1 }

-- no digit is a space
no_space : (c : ℕ) (b : Bool) → is_space c ≡ b → is_hex_digit c ≡ true → b ≡ false
no_space c true space digit =
    let IsDigit : ℕ → Type 0 = λ n. is_hex_digit n ≡ true in
    let other : is_hex_digit 32 ≡ true = subst IsDigit (eqb-true c 32 space) digit in
    cc
no_space c false space digit = refl

no_spaces : (digits : List ℕ) → AllPass is_hex_digit digits → list_any is_space digits ≡ false
no_spaces [] all = refl
no_spaces (c ∷ cs) all =
    rw (no_space c (is_space c) refl (all 0 c (omega arith))) (no_spaces cs (λ k d lt. all (suc k) d (omega (arith, lt))))

-- the line of a command's words spells it
pub commands_have_lines : CommandsHaveLines
commands_have_lines (commands.Apply ws bytes) is is_line =
    let digits = encode_lower bytes in
    let decoded = decode_of-encode_lower bytes is.1.1 in
    let ok = decode_of-ok digits bytes decoded in
    let word : IsWord digits = (omega (arith, ok.2, is.1.0), no_spaces digits ok.1) in
    record { is_line = is_line; form = is; words = (digits, word, decoded, refl) }
commands_have_lines command is is_line = record { is_line = is_line; form = is; words = refl }
