-- The lines of the other commands. What stands after the first word is read as the command, and is the command's words where it
-- is read.
use Rattle.std.proofs.Common.{◌≡◌, ℕ, List, [], ◌∷◌, refl, Ok, codes}
use Rattle.std.specs.Fmt.{decimal}
use Rattle.script_lang.specs.declared.command.Spec.{Spec}
use Rattle.script_lang.specs.declared.command.Command.{Command}
use Rattle.script_lang.specs.declared.command.Command.TheVariants as commands
use Rattle.script_lang.specs.Left.{Left}
use Rattle.script_lang.specs.Command.{init_at, evolve_at, import_at, load_at, checkout_at, begin_at, end_line_at, undo_at, discard_at, changes_at}
use Rattle.script_lang.specs.Command.{show_at, cat_at, validate_at}
use Rattle.script_lang.specs.Spelling.{IsCommand, spec_word}
use Rattle.script_lang.proofs.Readings.{reads, tells, joined, Tells, told_as}
use Rattle.script_lang.proofs.FieldLemmas.{number_kind, end_tells}
use Rattle.script_lang.proofs.SpecLemmas.{spec_kind, name_kind}

pub init_read : (column : ℕ) → init_at (record { rest = joined []; column = column }) ≡ Ok commands.Init
unfolding init_at
init_read column = refl

pub init_spelled : (left : Left) (command : Command) → init_at left ≡ Ok command → Tells (codes "init") left command
unfolding init_at
init_spelled left command e =
    let end = end_tells left _ command e in
    told_as (codes "init") left commands.Init command [] tt end.0 (λ l e. e) end.1

pub evolve_read : (column : ℕ) → evolve_at (record { rest = joined []; column = column }) ≡ Ok commands.Evolve
unfolding evolve_at
evolve_read column = refl

pub evolve_spelled : (left : Left) (command : Command) → evolve_at left ≡ Ok command → Tells (codes "evolve") left command
unfolding evolve_at
evolve_spelled left command e =
    let end = end_tells left _ command e in
    told_as (codes "evolve") left commands.Evolve command [] tt end.0 (λ l e. e) end.1

pub checkout_read : (spec : Spec) → IsCommand (commands.Checkout spec) → (column : ℕ)
    → checkout_at (record { rest = joined (spec_word spec ∷ []); column = column }) ≡ Ok (commands.Checkout spec)
unfolding checkout_at
checkout_read spec is column = reads spec_kind spec is [] column _ _ (λ a. refl)

pub checkout_spelled : (left : Left) (command : Command) → checkout_at left ≡ Ok command → Tells (codes "checkout") left command
unfolding checkout_at
checkout_spelled left command e =
    tells spec_kind left _ command e (λ spec a is_spec at_spec e1.
    let end = end_tells a _ command e1 in
    told_as (codes "checkout") left (commands.Checkout spec) command (spec_word spec ∷ []) is_spec (at_spec [] end.0) (λ l e. e) end.1)

pub begin_read : (ws : ℕ) (name : List ℕ) → IsCommand (commands.Begin ws name) → (column : ℕ)
    → begin_at (record { rest = joined (decimal ws ∷ name ∷ []); column = column }) ≡ Ok (commands.Begin ws name)
unfolding begin_at
begin_read ws name is column =
    reads (number_kind 1) ws is.0 (name ∷ []) column _ _
    (λ a. reads name_kind name is.1 [] a _ _
    (λ b. refl))

pub begin_spelled : (left : Left) (command : Command) → begin_at left ≡ Ok command → Tells (codes "begin") left command
unfolding begin_at
begin_spelled left command e =
    tells (number_kind 1) left _ command e (λ ws a is_ws at_ws e1.
    tells name_kind a _ command e1 (λ name b is_name at_name e2.
    let end = end_tells b _ command e2 in
    told_as (codes "begin") left (commands.Begin ws name) command (decimal ws ∷ name ∷ []) (is_ws, is_name) (at_ws (name ∷ []) (at_name [] end.0))
    (λ l e. e) end.1))

pub end_read : (ws : ℕ) → IsCommand (commands.End ws) → (column : ℕ)
    → end_line_at (record { rest = joined (decimal ws ∷ []); column = column }) ≡ Ok (commands.End ws)
unfolding end_line_at
end_read ws is column = reads (number_kind 1) ws is [] column _ _ (λ a. refl)

pub end_spelled : (left : Left) (command : Command) → end_line_at left ≡ Ok command → Tells (codes "end") left command
unfolding end_line_at
end_spelled left command e =
    tells (number_kind 1) left _ command e (λ ws a is_ws at_ws e1.
    let end = end_tells a _ command e1 in
    told_as (codes "end") left (commands.End ws) command (decimal ws ∷ []) is_ws (at_ws [] end.0) (λ l e. e) end.1)

pub import_read : (ws : ℕ) → IsCommand (commands.Import ws) → (column : ℕ)
    → import_at (record { rest = joined (decimal ws ∷ []); column = column }) ≡ Ok (commands.Import ws)
unfolding import_at
import_read ws is column = reads (number_kind 1) ws is [] column _ _ (λ a. refl)

pub import_spelled : (left : Left) (command : Command) → import_at left ≡ Ok command → Tells (codes "import") left command
unfolding import_at
import_spelled left command e =
    tells (number_kind 1) left _ command e (λ ws a is_ws at_ws e1.
    let end = end_tells a _ command e1 in
    told_as (codes "import") left (commands.Import ws) command (decimal ws ∷ []) is_ws (at_ws [] end.0) (λ l e. e) end.1)

pub load_read : (ws : ℕ) → IsCommand (commands.Load ws) → (column : ℕ)
    → load_at (record { rest = joined (decimal ws ∷ []); column = column }) ≡ Ok (commands.Load ws)
unfolding load_at
load_read ws is column = reads (number_kind 1) ws is [] column _ _ (λ a. refl)

pub load_spelled : (left : Left) (command : Command) → load_at left ≡ Ok command → Tells (codes "load") left command
unfolding load_at
load_spelled left command e =
    tells (number_kind 1) left _ command e (λ ws a is_ws at_ws e1.
    let end = end_tells a _ command e1 in
    told_as (codes "load") left (commands.Load ws) command (decimal ws ∷ []) is_ws (at_ws [] end.0) (λ l e. e) end.1)

pub undo_read : (ws : ℕ) → IsCommand (commands.Undo ws) → (column : ℕ)
    → undo_at (record { rest = joined (decimal ws ∷ []); column = column }) ≡ Ok (commands.Undo ws)
unfolding undo_at
undo_read ws is column = reads (number_kind 1) ws is [] column _ _ (λ a. refl)

pub undo_spelled : (left : Left) (command : Command) → undo_at left ≡ Ok command → Tells (codes "undo") left command
unfolding undo_at
undo_spelled left command e =
    tells (number_kind 1) left _ command e (λ ws a is_ws at_ws e1.
    let end = end_tells a _ command e1 in
    told_as (codes "undo") left (commands.Undo ws) command (decimal ws ∷ []) is_ws (at_ws [] end.0) (λ l e. e) end.1)

pub discard_read : (ws : ℕ) → IsCommand (commands.Discard ws) → (column : ℕ)
    → discard_at (record { rest = joined (decimal ws ∷ []); column = column }) ≡ Ok (commands.Discard ws)
unfolding discard_at
discard_read ws is column = reads (number_kind 1) ws is [] column _ _ (λ a. refl)

pub discard_spelled : (left : Left) (command : Command) → discard_at left ≡ Ok command → Tells (codes "discard") left command
unfolding discard_at
discard_spelled left command e =
    tells (number_kind 1) left _ command e (λ ws a is_ws at_ws e1.
    let end = end_tells a _ command e1 in
    told_as (codes "discard") left (commands.Discard ws) command (decimal ws ∷ []) is_ws (at_ws [] end.0) (λ l e. e) end.1)

pub changes_read : (ws : ℕ) → IsCommand (commands.Changes ws) → (column : ℕ)
    → changes_at (record { rest = joined (decimal ws ∷ []); column = column }) ≡ Ok (commands.Changes ws)
unfolding changes_at
changes_read ws is column = reads (number_kind 1) ws is [] column _ _ (λ a. refl)

pub changes_spelled : (left : Left) (command : Command) → changes_at left ≡ Ok command → Tells (codes "changes") left command
unfolding changes_at
changes_spelled left command e =
    tells (number_kind 1) left _ command e (λ ws a is_ws at_ws e1.
    let end = end_tells a _ command e1 in
    told_as (codes "changes") left (commands.Changes ws) command (decimal ws ∷ []) is_ws (at_ws [] end.0) (λ l e. e) end.1)

pub show_read : (ws : ℕ) → IsCommand (commands.Show ws) → (column : ℕ)
    → show_at (record { rest = joined (decimal ws ∷ []); column = column }) ≡ Ok (commands.Show ws)
unfolding show_at
show_read ws is column = reads (number_kind 1) ws is [] column _ _ (λ a. refl)

pub show_spelled : (left : Left) (command : Command) → show_at left ≡ Ok command → Tells (codes "show") left command
unfolding show_at
show_spelled left command e =
    tells (number_kind 1) left _ command e (λ ws a is_ws at_ws e1.
    let end = end_tells a _ command e1 in
    told_as (codes "show") left (commands.Show ws) command (decimal ws ∷ []) is_ws (at_ws [] end.0) (λ l e. e) end.1)

pub validate_read : (ws : ℕ) → IsCommand (commands.Validate ws) → (column : ℕ)
    → validate_at (record { rest = joined (decimal ws ∷ []); column = column }) ≡ Ok (commands.Validate ws)
unfolding validate_at
validate_read ws is column = reads (number_kind 1) ws is [] column _ _ (λ a. refl)

pub validate_spelled : (left : Left) (command : Command) → validate_at left ≡ Ok command → Tells (codes "validate") left command
unfolding validate_at
validate_spelled left command e =
    tells (number_kind 1) left _ command e (λ ws a is_ws at_ws e1.
    let end = end_tells a _ command e1 in
    told_as (codes "validate") left (commands.Validate ws) command (decimal ws ∷ []) is_ws (at_ws [] end.0) (λ l e. e) end.1)

pub cat_read : (spec : Spec) → IsCommand (commands.Cat spec) → (column : ℕ)
    → cat_at (record { rest = joined (spec_word spec ∷ []); column = column }) ≡ Ok (commands.Cat spec)
unfolding cat_at
cat_read spec is column = reads spec_kind spec is [] column _ _ (λ a. refl)

pub cat_spelled : (left : Left) (command : Command) → cat_at left ≡ Ok command → Tells (codes "cat") left command
unfolding cat_at
cat_spelled left command e =
    tells spec_kind left _ command e (λ spec a is_spec at_spec e1.
    let end = end_tells a _ command e1 in
    told_as (codes "cat") left (commands.Cat spec) command (spec_word spec ∷ []) is_spec (at_spec [] end.0) (λ l e. e) end.1)
