-- The lines of edits of attributes. What stands after the first word is read as the edit, and is the edit's words where it is
-- read.
use Rattle.std.proofs.Common.{◌≡◌, ℕ, List, [], ◌∷◌, refl, Option, Ok, codes}
use Rattle.std.specs.Fmt.{decimal}
use Rattle.script_lang.specs.declared.command.Command.{Command}
use Rattle.script_lang.specs.declared.command.Command.TheVariants as commands
use Rattle.edits.specs.declared.edit.Edit.TheVariants.{Set, Unset, Add, Remove, Shift}
use Rattle.script_lang.specs.Left.{Left}
use Rattle.script_lang.specs.Command.{set_at, unset_at, add_at, remove_at, shift_at}
use Rattle.script_lang.specs.Spelling.{IsCommand, index_word}
use Rattle.script_lang.proofs.Readings.{reads, tells, joined, word_kind, Tells, told_as}
use Rattle.script_lang.proofs.FieldLemmas.{number_kind, index_kind, index_or_end_kind, end_tells, text_in, text_tells}

pub set_read : (ws : ℕ) (id feature value : List ℕ) → IsCommand (commands.Edit ws (Set id feature value)) → (column : ℕ)
    → set_at (record { rest = joined (decimal ws ∷ id ∷ feature ∷ value ∷ []); column = column }) ≡ Ok (commands.Edit ws (Set id feature value))
unfolding set_at
set_read ws id feature value is column =
    reads (number_kind 1) ws is.0 (id ∷ feature ∷ value ∷ []) column _ _
    (λ a. reads word_kind id is.1.0 (feature ∷ value ∷ []) a _ _
    (λ b. reads word_kind feature is.1.1 (value ∷ []) b _ _
    (λ c. rw (text_in value is.1.2 c) refl)))

pub set_spelled : (left : Left) (command : Command) → set_at left ≡ Ok command → Tells (codes "set") left command
unfolding set_at
set_spelled left command e =
    tells (number_kind 1) left _ command e (λ ws a is_ws at_ws e1.
    tells word_kind a _ command e1 (λ id b is_id at_id e2.
    tells word_kind b _ command e2 (λ feature c is_feature at_feature e3.
    text_tells c _ command e3 (λ value is_value at_value e4.
    told_as (codes "set") left (commands.Edit ws (Set id feature value)) command (decimal ws ∷ id ∷ feature ∷ value ∷ []) (is_ws, (is_id, is_feature, is_value))
    (at_ws (id ∷ feature ∷ value ∷ []) (at_id (feature ∷ value ∷ []) (at_feature (value ∷ []) at_value))) (λ l e. e) e4))))

pub unset_read : (ws : ℕ) (id feature : List ℕ) → IsCommand (commands.Edit ws (Unset id feature)) → (column : ℕ)
    → unset_at (record { rest = joined (decimal ws ∷ id ∷ feature ∷ []); column = column }) ≡ Ok (commands.Edit ws (Unset id feature))
unfolding unset_at
unset_read ws id feature is column =
    reads (number_kind 1) ws is.0 (id ∷ feature ∷ []) column _ _
    (λ a. reads word_kind id is.1.0 (feature ∷ []) a _ _
    (λ b. reads word_kind feature is.1.1 [] b _ _
    (λ c. refl)))

pub unset_spelled : (left : Left) (command : Command) → unset_at left ≡ Ok command → Tells (codes "unset") left command
unfolding unset_at
unset_spelled left command e =
    tells (number_kind 1) left _ command e (λ ws a is_ws at_ws e1.
    tells word_kind a _ command e1 (λ id b is_id at_id e2.
    tells word_kind b _ command e2 (λ feature c is_feature at_feature e3.
    let end = end_tells c _ command e3 in
    told_as (codes "unset") left (commands.Edit ws (Unset id feature)) command (decimal ws ∷ id ∷ feature ∷ []) (is_ws, (is_id, is_feature))
    (at_ws (id ∷ feature ∷ []) (at_id (feature ∷ []) (at_feature [] end.0))) (λ l e. e) end.1)))

pub add_read : (ws : ℕ) (id feature : List ℕ) (at : Option ℕ) (value : List ℕ) → IsCommand (commands.Edit ws (Add id feature at value)) → (column : ℕ)
    → add_at (record { rest = joined (decimal ws ∷ id ∷ feature ∷ index_word at ∷ value ∷ []); column = column }) ≡ Ok
    (commands.Edit ws (Add id feature at value))
unfolding add_at
add_read ws id feature at value is column =
    reads (number_kind 1) ws is.0 (id ∷ feature ∷ index_word at ∷ value ∷ []) column _ _
    (λ a. reads word_kind id is.1.0 (feature ∷ index_word at ∷ value ∷ []) a _ _
    (λ b. reads word_kind feature is.1.1 (index_word at ∷ value ∷ []) b _ _
    (λ c. reads index_or_end_kind at is.1.2 (value ∷ []) c _ _
    (λ d. rw (text_in value is.1.3 d) refl))))

pub add_spelled : (left : Left) (command : Command) → add_at left ≡ Ok command → Tells (codes "add") left command
unfolding add_at
add_spelled left command e =
    tells (number_kind 1) left _ command e (λ ws a is_ws at_ws e1.
    tells word_kind a _ command e1 (λ id b is_id at_id e2.
    tells word_kind b _ command e2 (λ feature c is_feature at_feature e3.
    tells index_or_end_kind c _ command e3 (λ at d is_at at_at e4.
    text_tells d _ command e4 (λ value is_value at_value e5.
    told_as (codes "add") left (commands.Edit ws (Add id feature at value)) command (decimal ws ∷ id ∷ feature ∷ index_word at ∷ value ∷ [])
    (is_ws, (is_id, is_feature, is_at, is_value))
    (at_ws (id ∷ feature ∷ index_word at ∷ value ∷ [])
    (at_id (feature ∷ index_word at ∷ value ∷ []) (at_feature (index_word at ∷ value ∷ []) (at_at (value ∷ []) at_value)))) (λ l e. e) e5)))))

pub remove_read : (ws : ℕ) (id feature : List ℕ) (index : ℕ) → IsCommand (commands.Edit ws (Remove id feature index)) → (column : ℕ)
    → remove_at (record { rest = joined (decimal ws ∷ id ∷ feature ∷ decimal index ∷ []); column = column }) ≡ Ok (commands.Edit ws (Remove id feature index))
unfolding remove_at
remove_read ws id feature index is column =
    reads (number_kind 1) ws is.0 (id ∷ feature ∷ decimal index ∷ []) column _ _
    (λ a. reads word_kind id is.1.0 (feature ∷ decimal index ∷ []) a _ _
    (λ b. reads word_kind feature is.1.1 (decimal index ∷ []) b _ _
    (λ c. reads index_kind index is.1.2 [] c _ _
    (λ d. refl))))

pub remove_spelled : (left : Left) (command : Command) → remove_at left ≡ Ok command → Tells (codes "remove") left command
unfolding remove_at
remove_spelled left command e =
    tells (number_kind 1) left _ command e (λ ws a is_ws at_ws e1.
    tells word_kind a _ command e1 (λ id b is_id at_id e2.
    tells word_kind b _ command e2 (λ feature c is_feature at_feature e3.
    tells index_kind c _ command e3 (λ index d is_index at_index e4.
    let end = end_tells d _ command e4 in
    told_as (codes "remove") left (commands.Edit ws (Remove id feature index)) command (decimal ws ∷ id ∷ feature ∷ decimal index ∷ [])
    (is_ws, (is_id, is_feature, is_index))
    (at_ws (id ∷ feature ∷ decimal index ∷ []) (at_id (feature ∷ decimal index ∷ []) (at_feature (decimal index ∷ []) (at_index [] end.0))))
    (λ l e. e) end.1))))

pub shift_read : (ws : ℕ) (id feature : List ℕ) (from to : ℕ) → IsCommand (commands.Edit ws (Shift id feature from to)) → (column : ℕ)
    → shift_at (record { rest = joined (decimal ws ∷ id ∷ feature ∷ decimal from ∷ decimal to ∷ []); column = column }) ≡ Ok
    (commands.Edit ws (Shift id feature from to))
unfolding shift_at
shift_read ws id feature from to is column =
    reads (number_kind 1) ws is.0 (id ∷ feature ∷ decimal from ∷ decimal to ∷ []) column _ _
    (λ a. reads word_kind id is.1.0 (feature ∷ decimal from ∷ decimal to ∷ []) a _ _
    (λ b. reads word_kind feature is.1.1 (decimal from ∷ decimal to ∷ []) b _ _
    (λ c. reads index_kind from is.1.2 (decimal to ∷ []) c _ _
    (λ d. reads index_kind to is.1.3 [] d _ _
    (λ e. refl)))))

pub shift_spelled : (left : Left) (command : Command) → shift_at left ≡ Ok command → Tells (codes "shift") left command
unfolding shift_at
shift_spelled left command e =
    tells (number_kind 1) left _ command e (λ ws a is_ws at_ws e1.
    tells word_kind a _ command e1 (λ id b is_id at_id e2.
    tells word_kind b _ command e2 (λ feature c is_feature at_feature e3.
    tells index_kind c _ command e3 (λ from d is_from at_from e4.
    tells index_kind d _ command e4 (λ to e is_to at_to e5.
    let end = end_tells e _ command e5 in
    told_as (codes "shift") left (commands.Edit ws (Shift id feature from to)) command (decimal ws ∷ id ∷ feature ∷ decimal from ∷ decimal to ∷ [])
    (is_ws, (is_id, is_feature, is_from, is_to))
    (at_ws (id ∷ feature ∷ decimal from ∷ decimal to ∷ [])
    (at_id (feature ∷ decimal from ∷ decimal to ∷ []) (at_feature (decimal from ∷ decimal to ∷ []) (at_from (decimal to ∷ []) (at_to [] end.0)))))
    (λ l e. e) end.1)))))
