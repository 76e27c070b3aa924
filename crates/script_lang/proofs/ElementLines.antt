-- The lines of edits of elements. What stands after the first word is read as the edit, and is the edit's words where it is read.
use Rattle.std.proofs.Common.{◌≡◌, ℕ, List, [], ◌∷◌, ◌++◌, refl, Option, Ok, codes}
use Rattle.std.specs.Fmt.{decimal}
use Rattle.script_lang.specs.declared.command.Command.{Command}
use Rattle.script_lang.specs.declared.command.Command.TheVariants as commands
use Rattle.edits.specs.declared.edit.Destination.{Destination}
use Rattle.edits.specs.declared.edit.Edit.TheVariants.{Create, Delete, Move}
use Rattle.script_lang.specs.Left.{Left}
use Rattle.script_lang.specs.Words.{optional_at, optional_number_at}
use Rattle.script_lang.specs.Command.{create_at, delete_at, move_at}
use Rattle.script_lang.specs.Spelling.{IsCommand, destination_words, optional_word, index_if_any}
use Rattle.script_lang.proofs.Readings.{reads, tells, joined, reached, word_kind, Tells, told_as}
use Rattle.script_lang.proofs.FieldLemmas.{number_kind, end_tells, optional_in, optional_out, last_index_in, last_index_out}
use Rattle.script_lang.proofs.Destinations.{destination_reads, destination_tells}

pub create_read : (ws : ℕ) (class : List ℕ) (place : Destination) (id : Option (List ℕ)) → IsCommand (commands.Edit ws (Create class place id)) → (column : ℕ)
    → create_at (record { rest = joined (decimal ws ∷ class ∷ (destination_words place ++ optional_word id)); column = column }) ≡ Ok
    (commands.Edit ws (Create class place id))
unfolding create_at
create_read ws class place id is column =
    reads (number_kind 1) ws is.0 (class ∷ (destination_words place ++ optional_word id)) column _ _
    (λ a. reads word_kind class is.1.0 (destination_words place ++ optional_word id) a _ _
    (λ b. destination_reads place is.1.1 (optional_word id) b _ _
    (λ c. let o = optional_in id is.1.2 c in rw o.1 (rw o.2 refl))))

pub create_spelled : (left : Left) (command : Command) → create_at left ≡ Ok command → Tells (codes "create") left command
unfolding create_at
create_spelled left command e =
    tells (number_kind 1) left _ command e (λ ws a is_ws at_ws e1.
    tells word_kind a _ command e1 (λ class b is_class at_class e2.
    destination_tells b _ command e2 (λ place c is_place at_place e3.
    let o = reached (optional_at c) _ command e3 in
    let end = end_tells o.0.1 _ command o.2 in
    let t = optional_out c o.0.0 o.0.1 o.1 end.0 in
    told_as (codes "create") left (commands.Edit ws (Create class place o.0.0)) command
    (decimal ws ∷ class ∷ (destination_words place ++ optional_word o.0.0)) (is_ws, (is_class, is_place, t.0))
    (at_ws (class ∷ (destination_words place ++ optional_word o.0.0))
    (at_class (destination_words place ++ optional_word o.0.0) (at_place (optional_word o.0.0) t.1))) (λ l e. e) end.1)))

pub delete_read : (ws : ℕ) (id : List ℕ) → IsCommand (commands.Edit ws (Delete id)) → (column : ℕ)
    → delete_at (record { rest = joined (decimal ws ∷ id ∷ []); column = column }) ≡ Ok (commands.Edit ws (Delete id))
unfolding delete_at
delete_read ws id is column =
    reads (number_kind 1) ws is.0 (id ∷ []) column _ _
    (λ a. reads word_kind id is.1 [] a _ _
    (λ b. refl))

pub delete_spelled : (left : Left) (command : Command) → delete_at left ≡ Ok command → Tells (codes "delete") left command
unfolding delete_at
delete_spelled left command e =
    tells (number_kind 1) left _ command e (λ ws a is_ws at_ws e1.
    tells word_kind a _ command e1 (λ id b is_id at_id e2.
    let end = end_tells b _ command e2 in
    told_as (codes "delete") left (commands.Edit ws (Delete id)) command (decimal ws ∷ id ∷ []) (is_ws, is_id)
    (at_ws (id ∷ []) (at_id [] end.0)) (λ l e. e) end.1))

pub move_read : (ws : ℕ) (id : List ℕ) (place : Destination) (index : Option ℕ) → IsCommand (commands.Edit ws (Move id place index)) → (column : ℕ)
    → move_at (record { rest = joined (decimal ws ∷ id ∷ (destination_words place ++ index_if_any index)); column = column }) ≡ Ok
    (commands.Edit ws (Move id place index))
unfolding move_at
move_read ws id place index is column =
    reads (number_kind 1) ws is.0 (id ∷ (destination_words place ++ index_if_any index)) column _ _
    (λ a. reads word_kind id is.1.0 (destination_words place ++ index_if_any index) a _ _
    (λ b. destination_reads place is.1.1 (index_if_any index) b _ _
    (λ c. let i = last_index_in index is.1.2 c in rw i.1 (rw i.2 refl))))

pub move_spelled : (left : Left) (command : Command) → move_at left ≡ Ok command → Tells (codes "move") left command
unfolding move_at
move_spelled left command e =
    tells (number_kind 1) left _ command e (λ ws a is_ws at_ws e1.
    tells word_kind a _ command e1 (λ id b is_id at_id e2.
    destination_tells b _ command e2 (λ place c is_place at_place e3.
    let o = reached (optional_number_at c) _ command e3 in
    let end = end_tells o.0.1 _ command o.2 in
    let t = last_index_out c o.0.0 o.0.1 o.1 end.0 in
    told_as (codes "move") left (commands.Edit ws (Move id place o.0.0)) command (decimal ws ∷ id ∷ (destination_words place ++ index_if_any o.0.0))
    (is_ws, (is_id, is_place, t.0))
    (at_ws (id ∷ (destination_words place ++ index_if_any o.0.0))
    (at_id (destination_words place ++ index_if_any o.0.0) (at_place (index_if_any o.0.0) t.1))) (λ l e. e) end.1)))
