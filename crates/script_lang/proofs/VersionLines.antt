-- The lines of versions, branches and tags. What stands after the first word is read as the command, and is the command's words
-- where it is read.
use Rattle.std.proofs.Common.{◌≡◌, ℕ, List, [], ◌∷◌, refl, Option, Ok, codes}
use Rattle.std.specs.Fmt.{decimal}
use Rattle.script_lang.specs.declared.command.Spec.{Spec}
use Rattle.script_lang.specs.declared.command.Command.{Command}
use Rattle.script_lang.specs.declared.command.Command.TheVariants as commands
use Rattle.script_lang.specs.Left.{Left}
use Rattle.script_lang.specs.Command.{commit_at, signed_at, branch_at, tag_at, log_at, package_at, drop_at, upgrade_at}
use Rattle.script_lang.specs.Spelling.{IsCommand, spec_word, optional_word}
use Rattle.script_lang.proofs.Readings.{reads, tells, joined, Tells, told_as}
use Rattle.script_lang.proofs.FieldLemmas.{number_kind, moment_kind, end_tells, optional_text_in, optional_text_tells}
use Rattle.script_lang.proofs.SpecLemmas.{spec_kind, name_kind}

pub commit_read : (ws : ℕ) (message : Option (List ℕ)) → IsCommand (commands.Commit ws message) → (column : ℕ)
    → commit_at (record { rest = joined (decimal ws ∷ optional_word message); column = column }) ≡ Ok (commands.Commit ws message)
unfolding commit_at
commit_read ws message is column =
    reads (number_kind 1) ws is.0 (optional_word message) column _ _
    (λ a. rw (optional_text_in message is.1 a) refl)

pub commit_spelled : (left : Left) (command : Command) → commit_at left ≡ Ok command → Tells (codes "commit") left command
unfolding commit_at
commit_spelled left command e =
    tells (number_kind 1) left _ command e (λ ws a is_ws at_ws e1.
    optional_text_tells a _ command e1 (λ message is_message at_message e2.
    told_as (codes "commit") left (commands.Commit ws message) command (decimal ws ∷ optional_word message) (is_ws, is_message)
    (at_ws (optional_word message) at_message) (λ l e. e) e2))

pub signed_read : (ws : ℕ) (author : List ℕ) (moment : ℕ) (message : Option (List ℕ)) → IsCommand (commands.Signed ws author moment message) → (column : ℕ)
    → signed_at (record { rest = joined (decimal ws ∷ author ∷ decimal moment ∷ optional_word message); column = column }) ≡ Ok
    (commands.Signed ws author moment message)
unfolding signed_at
signed_read ws author moment message is column =
    reads (number_kind 1) ws is.0 (author ∷ decimal moment ∷ optional_word message) column _ _
    (λ a. reads name_kind author is.1 (decimal moment ∷ optional_word message) a _ _
    (λ b. reads moment_kind moment is.2 (optional_word message) b _ _
    (λ c. rw (optional_text_in message is.3 c) refl)))

pub signed_spelled : (left : Left) (command : Command) → signed_at left ≡ Ok command → Tells (codes "signed") left command
unfolding signed_at
signed_spelled left command e =
    tells (number_kind 1) left _ command e (λ ws a is_ws at_ws e1.
    tells name_kind a _ command e1 (λ author b is_author at_author e2.
    tells moment_kind b _ command e2 (λ moment c is_moment at_moment e3.
    optional_text_tells c _ command e3 (λ message is_message at_message e4.
    told_as (codes "signed") left (commands.Signed ws author moment message) command (decimal ws ∷ author ∷ decimal moment ∷ optional_word message)
    (is_ws, is_author, is_moment, is_message)
    (at_ws (author ∷ decimal moment ∷ optional_word message)
    (at_author (decimal moment ∷ optional_word message) (at_moment (optional_word message) at_message))) (λ l e. e) e4))))

pub branch_read : (ws : ℕ) (name : List ℕ) → IsCommand (commands.Branch ws name) → (column : ℕ)
    → branch_at (record { rest = joined (decimal ws ∷ name ∷ []); column = column }) ≡ Ok (commands.Branch ws name)
unfolding branch_at
branch_read ws name is column =
    reads (number_kind 1) ws is.0 (name ∷ []) column _ _
    (λ a. reads name_kind name is.1 [] a _ _
    (λ b. refl))

pub branch_spelled : (left : Left) (command : Command) → branch_at left ≡ Ok command → Tells (codes "branch") left command
unfolding branch_at
branch_spelled left command e =
    tells (number_kind 1) left _ command e (λ ws a is_ws at_ws e1.
    tells name_kind a _ command e1 (λ name b is_name at_name e2.
    let end = end_tells b _ command e2 in
    told_as (codes "branch") left (commands.Branch ws name) command (decimal ws ∷ name ∷ []) (is_ws, is_name) (at_ws (name ∷ []) (at_name [] end.0))
    (λ l e. e) end.1))

pub tag_read : (name : List ℕ) (spec : Spec) → IsCommand (commands.Tag name spec) → (column : ℕ)
    → tag_at (record { rest = joined (name ∷ spec_word spec ∷ []); column = column }) ≡ Ok (commands.Tag name spec)
unfolding tag_at
tag_read name spec is column =
    reads name_kind name is.0 (spec_word spec ∷ []) column _ _
    (λ a. reads spec_kind spec is.1 [] a _ _
    (λ b. refl))

pub tag_spelled : (left : Left) (command : Command) → tag_at left ≡ Ok command → Tells (codes "tag") left command
unfolding tag_at
tag_spelled left command e =
    tells name_kind left _ command e (λ name a is_name at_name e1.
    tells spec_kind a _ command e1 (λ spec b is_spec at_spec e2.
    let end = end_tells b _ command e2 in
    told_as (codes "tag") left (commands.Tag name spec) command (name ∷ spec_word spec ∷ []) (is_name, is_spec)
    (at_name (spec_word spec ∷ []) (at_spec [] end.0)) (λ l e. e) end.1))

pub log_read : (column : ℕ) → log_at (record { rest = joined []; column = column }) ≡ Ok commands.Log
unfolding log_at
log_read column = refl

pub log_spelled : (left : Left) (command : Command) → log_at left ≡ Ok command → Tells (codes "log") left command
unfolding log_at
log_spelled left command e =
    let end = end_tells left _ command e in
    told_as (codes "log") left commands.Log command [] tt end.0 (λ l e. e) end.1

pub package_read : (spec : Spec) → IsCommand (commands.Package spec) → (column : ℕ)
    → package_at (record { rest = joined (spec_word spec ∷ []); column = column }) ≡ Ok (commands.Package spec)
unfolding package_at
package_read spec is column = reads spec_kind spec is [] column _ _ (λ a. refl)

pub package_spelled : (left : Left) (command : Command) → package_at left ≡ Ok command → Tells (codes "package") left command
unfolding package_at
package_spelled left command e =
    tells spec_kind left _ command e (λ spec a is_spec at_spec e1.
    let end = end_tells a _ command e1 in
    told_as (codes "package") left (commands.Package spec) command (spec_word spec ∷ []) is_spec (at_spec [] end.0) (λ l e. e) end.1)

pub drop_read : (ws : ℕ) → IsCommand (commands.Drop ws) → (column : ℕ)
    → drop_at (record { rest = joined (decimal ws ∷ []); column = column }) ≡ Ok (commands.Drop ws)
unfolding drop_at
drop_read ws is column = reads (number_kind 1) ws is [] column _ _ (λ a. refl)

pub drop_spelled : (left : Left) (command : Command) → drop_at left ≡ Ok command → Tells (codes "drop") left command
unfolding drop_at
drop_spelled left command e =
    tells (number_kind 1) left _ command e (λ ws a is_ws at_ws e1.
    let end = end_tells a _ command e1 in
    told_as (codes "drop") left (commands.Drop ws) command (decimal ws ∷ []) is_ws (at_ws [] end.0) (λ l e. e) end.1)

pub upgrade_read : (column : ℕ) → upgrade_at (record { rest = joined []; column = column }) ≡ Ok commands.Upgrade
unfolding upgrade_at
upgrade_read column = refl

pub upgrade_spelled : (left : Left) (command : Command) → upgrade_at left ≡ Ok command → Tells (codes "upgrade") left command
unfolding upgrade_at
upgrade_spelled left command e =
    let end = end_tells left _ command e in
    told_as (codes "upgrade") left commands.Upgrade command [] tt end.0 (λ l e. e) end.1
