-- The lines of edits of references. What stands after the first word is read as the edit, and is the edit's words where it is
-- read.
use Rattle.std.proofs.Common.{◌≡◌, ℕ, List, [], ◌∷◌, refl, Option, Ok, codes}
use Rattle.std.specs.Fmt.{decimal}
use Rattle.script_lang.specs.declared.command.Command.{Command}
use Rattle.script_lang.specs.declared.command.Command.TheVariants as commands
use Rattle.edits.specs.declared.edit.Edit.TheVariants.{Link, Unlink, Reorder}
use Rattle.script_lang.specs.Left.{Left}
use Rattle.script_lang.specs.Words.{optional_number_at}
use Rattle.script_lang.specs.Command.{link_at, unlink_at, reorder_at}
use Rattle.script_lang.specs.Spelling.{IsCommand, index_if_any}
use Rattle.script_lang.proofs.Readings.{reads, tells, joined, reached, word_kind, Tells, told_as}
use Rattle.script_lang.proofs.FieldLemmas.{number_kind, index_kind, end_tells, last_index_in, last_index_out}

pub link_read : (ws : ℕ) (id feature target : List ℕ) (index : Option ℕ) → IsCommand (commands.Edit ws (Link id feature target index)) → (column : ℕ)
    → link_at (record { rest = joined (decimal ws ∷ id ∷ feature ∷ target ∷ index_if_any index); column = column }) ≡ Ok
    (commands.Edit ws (Link id feature target index))
unfolding link_at
link_read ws id feature target index is column =
    reads (number_kind 1) ws is.0 (id ∷ feature ∷ target ∷ index_if_any index) column _ _
    (λ a. reads word_kind id is.1.0 (feature ∷ target ∷ index_if_any index) a _ _
    (λ b. reads word_kind feature is.1.1 (target ∷ index_if_any index) b _ _
    (λ c. reads word_kind target is.1.2 (index_if_any index) c _ _
    (λ d. let i = last_index_in index is.1.3 d in rw i.1 (rw i.2 refl)))))

pub link_spelled : (left : Left) (command : Command) → link_at left ≡ Ok command → Tells (codes "link") left command
unfolding link_at
link_spelled left command e =
    tells (number_kind 1) left _ command e (λ ws a is_ws at_ws e1.
    tells word_kind a _ command e1 (λ id b is_id at_id e2.
    tells word_kind b _ command e2 (λ feature c is_feature at_feature e3.
    tells word_kind c _ command e3 (λ target d is_target at_target e4.
    let o = reached (optional_number_at d) _ command e4 in
    let end = end_tells o.0.1 _ command o.2 in
    let t = last_index_out d o.0.0 o.0.1 o.1 end.0 in
    told_as (codes "link") left (commands.Edit ws (Link id feature target o.0.0)) command (decimal ws ∷ id ∷ feature ∷ target ∷ index_if_any o.0.0)
    (is_ws, (is_id, is_feature, is_target, t.0))
    (at_ws (id ∷ feature ∷ target ∷ index_if_any o.0.0)
    (at_id (feature ∷ target ∷ index_if_any o.0.0) (at_feature (target ∷ index_if_any o.0.0) (at_target (index_if_any o.0.0) t.1))))
    (λ l e. e) end.1))))

pub unlink_read : (ws : ℕ) (id feature target : List ℕ) → IsCommand (commands.Edit ws (Unlink id feature target)) → (column : ℕ)
    → unlink_at (record { rest = joined (decimal ws ∷ id ∷ feature ∷ target ∷ []); column = column }) ≡ Ok (commands.Edit ws (Unlink id feature target))
unfolding unlink_at
unlink_read ws id feature target is column =
    reads (number_kind 1) ws is.0 (id ∷ feature ∷ target ∷ []) column _ _
    (λ a. reads word_kind id is.1.0 (feature ∷ target ∷ []) a _ _
    (λ b. reads word_kind feature is.1.1 (target ∷ []) b _ _
    (λ c. reads word_kind target is.1.2 [] c _ _
    (λ d. refl))))

pub unlink_spelled : (left : Left) (command : Command) → unlink_at left ≡ Ok command → Tells (codes "unlink") left command
unfolding unlink_at
unlink_spelled left command e =
    tells (number_kind 1) left _ command e (λ ws a is_ws at_ws e1.
    tells word_kind a _ command e1 (λ id b is_id at_id e2.
    tells word_kind b _ command e2 (λ feature c is_feature at_feature e3.
    tells word_kind c _ command e3 (λ target d is_target at_target e4.
    let end = end_tells d _ command e4 in
    told_as (codes "unlink") left (commands.Edit ws (Unlink id feature target)) command (decimal ws ∷ id ∷ feature ∷ target ∷ [])
    (is_ws, (is_id, is_feature, is_target))
    (at_ws (id ∷ feature ∷ target ∷ []) (at_id (feature ∷ target ∷ []) (at_feature (target ∷ []) (at_target [] end.0)))) (λ l e. e) end.1))))

pub reorder_read : (ws : ℕ) (id feature target : List ℕ) (index : ℕ) → IsCommand (commands.Edit ws (Reorder id feature target index)) → (column : ℕ)
    → reorder_at (record { rest = joined (decimal ws ∷ id ∷ feature ∷ target ∷ decimal index ∷ []); column = column }) ≡ Ok
    (commands.Edit ws (Reorder id feature target index))
unfolding reorder_at
reorder_read ws id feature target index is column =
    reads (number_kind 1) ws is.0 (id ∷ feature ∷ target ∷ decimal index ∷ []) column _ _
    (λ a. reads word_kind id is.1.0 (feature ∷ target ∷ decimal index ∷ []) a _ _
    (λ b. reads word_kind feature is.1.1 (target ∷ decimal index ∷ []) b _ _
    (λ c. reads word_kind target is.1.2 (decimal index ∷ []) c _ _
    (λ d. reads index_kind index is.1.3 [] d _ _
    (λ e. refl)))))

pub reorder_spelled : (left : Left) (command : Command) → reorder_at left ≡ Ok command → Tells (codes "reorder") left command
unfolding reorder_at
reorder_spelled left command e =
    tells (number_kind 1) left _ command e (λ ws a is_ws at_ws e1.
    tells word_kind a _ command e1 (λ id b is_id at_id e2.
    tells word_kind b _ command e2 (λ feature c is_feature at_feature e3.
    tells word_kind c _ command e3 (λ target d is_target at_target e4.
    tells index_kind d _ command e4 (λ index e is_index at_index e5.
    let end = end_tells e _ command e5 in
    told_as (codes "reorder") left (commands.Edit ws (Reorder id feature target index)) command
    (decimal ws ∷ id ∷ feature ∷ target ∷ decimal index ∷ []) (is_ws, (is_id, is_feature, is_target, is_index))
    (at_ws (id ∷ feature ∷ target ∷ decimal index ∷ [])
    (at_id (feature ∷ target ∷ decimal index ∷ [])
    (at_feature (target ∷ decimal index ∷ []) (at_target (decimal index ∷ []) (at_index [] end.0))))) (λ l e. e) end.1)))))
