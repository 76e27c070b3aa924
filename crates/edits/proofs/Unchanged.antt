-- No step is made for an edit exactly where it changes nothing.
use Rattle.std.proofs.lemmas.Bool.Decides.{nat_tests}
use Rattle.std.proofs.lemmas.List.Edits.{length-insert, length-remove}
use Rattle.std.proofs.Common.{◌≡◌, ℕ, ◌<◌, ◌≤◌, true, cond, List, [], ◌∷◌, length, refl, sym, ap, ◌∙◌, arith, nat_le, nat_lt}
use Rattle.std.specs.Prelude.{Option, None, Some}
use Rattle.std.specs.List.{insert, remove}
use Rattle.std.specs.FinMap.{get}
use Rattle.finite_maps.specs.Equal.{option_eq, list_eq}
use Rattle.finite_maps.proofs.Cases.{no_some, some_none}
use Rattle.finite_maps.proofs.MapLaws.{get-set_same}
use Rattle.ecore_meta.specs.Meta.{Meta}
use Rattle.ecore_meta.specs.declared.meta.Value.{Value}
use Rattle.model_state.specs.declared.step.Step.{Step}
use Rattle.model_state.specs.declared.step.Step.TheVariants.{Put, Shift}
use Rattle.model_state.specs.Keys.{IdBytes}
use Rattle.model_state.specs.Lists.{shifted}
use Rattle.model_state.specs.State.{State}
use Rattle.model_state.specs.Steps.{fold, single}
use Rattle.model_state.specs.Good.{Good, Sound}
use Rattle.model_state.specs.Typing.{value_eq}
use Rattle.model_state.proofs.Orders.{id_order, attr_order}
use Rattle.model_laws.proofs.Runs.{same_state}
use Rattle.edit_steps.specs.Attributes.{single_value}
use Rattle.edit_steps.specs.Rows.{Rows}
use Rattle.edit_steps.specs.References.{set_ref_after, link_after, unlink_after, unset_after, reorder_after}
use Rattle.edit_steps.specs.ManyValues.{with_values, dels}
use Rattle.edits.specs.Edits.{Effect, Creates, Moves, Deletes, Puts, Clears, Inserts, Removes, Shifts, Refers, Forgets, Links, Unlinks, Reorders}
use Rattle.edits.specs.Edits.{effect_steps, after_effect}
use Rattle.edits.specs.Laws.{EditsIdle}
use Rattle.edit_steps.proofs.Idle.{set_ref_still, link_still, unlink_still, unset_still, reorder_still}
use Rattle.edit_steps.proofs.ManyEdits.{value_test, values_test, values_now}
use Rattle.edit_steps.specs.MoveRefusals.{place_of}
use Rattle.edit_steps.specs.Containers.{containers_of}
use Rattle.edits.proofs.Allowed.{Allowed}
use Rattle.edits.proofs.Stays.{move_still, deleted}
use Rattle.edits.proofs.Taken.{allowed, made_leads}
use Rattle.model_state.specs.Listing.{values_at}

-- a run of no step changes nothing
nothing_made : (meta : Meta) (m n : State) (ss : List Step) → fold meta m ss ≡ Some n → ss ≡ [] → n ≡ m
nothing_made meta m n ss run none = same_state n m (sym run ∙ ap (fold meta m) none)

held_single : (v : Option Value) → single_value (single v) ≡ v
held_single None = refl
held_single (Some v) = refl

-- values that change nothing are those that are there
same_values : (m : State) (e : IdBytes) (f : ℕ) (vs : List Value) → with_values m e f vs ≡ m → vs ≡ values_at m e f
same_values m e f vs same = sym (values_now m e f vs) ∙ ap (λ (x : State). values_at x e f) same

longer : (vs : List Value) (k : ℕ) (v : Value) → nat_le k (length vs) ≡ true → insert vs k v ≡ vs → ⊥
longer vs k v within same = omega (arith, length-insert vs k v (le k (length vs) within), ap length same)
  where
    le : (k n : ℕ) → nat_le k n ≡ true → k ≤ n
    le k n h = grind (arith, nat_tests)

shorter : (vs : List Value) (k : ℕ) → nat_lt k (length vs) ≡ true → remove vs k ≡ vs → ⊥
shorter vs k within same = omega (arith, length-remove vs k (lt k (length vs) within), ap length same)
  where
    lt : (k n : ℕ) → nat_lt k n ≡ true → k < n
    lt k n h = grind (arith, nat_tests)

-- rows that change nothing
same_rows : (m : State) (row : Rows) → ◌≡◌ {A = State} (record m { row = row }) m → row ≡ m.row
same_rows m row same = ap (λ (x : State). x.row) same

still : (meta : Meta) → Sound meta → (m : State) → Good meta m → (effect : Effect) → Allowed meta m effect → after_effect meta m effect ≡ m
    → effect_steps meta m effect ≡ []
still meta sound m good (Creates e class place) may same =
    absurd (some_none (get m.kind e) class
    (ap (λ (x : State). get x.kind e) (sym same) ∙ get-set_same id_order m.kind e (Some class))
    (no_some (get m.kind e) may.fresh))
still meta sound m good (Moves e place at) may same = move_still meta sound m good e place at (containers_of m (place_of m e)) (containers_of m place) may same
still meta sound m good (Deletes e) may same = absurd (deleted meta m e may same)
still meta sound m good (Puts e f v) may same =
    let here : get m.attr (e, f) ≡ single v = ap (λ (x : State). get x.attr (e, f)) (sym same) ∙ get-set_same attr_order m.attr (e, f) (single v) in
    let equal : option_eq value_eq (single_value (get m.attr (e, f))) v ≡ true =
    ap (λ o. option_eq value_eq (single_value o) v) here ∙ ap (λ o. option_eq value_eq o v) (held_single v) ∙ value_test.own v in
    ap (λ b. cond {A = List Step} b [] (Put e f (single_value (get m.attr (e, f))) v ∷ [])) equal
still meta sound m good (Clears e f) may same = ap (dels e f 0) (sym (same_values m e f [] same))
still meta sound m good (Inserts e f k v) may same = absurd (longer (values_at m e f) k v may.within (same_values m e f (insert (values_at m e f) k v) same))
still meta sound m good (Removes e f k) may same = absurd (shorter (values_at m e f) k may.1 (same_values m e f (remove (values_at m e f) k) same))
still meta sound m good (Shifts e f from to) may same =
    let vs = values_at m e f in
    let equal : list_eq value_eq (shifted vs from to) vs ≡ true =
    ap (λ ws. list_eq value_eq ws vs) (same_values m e f (shifted vs from to) same) ∙ values_test.own vs in
    ap (λ b. cond {A = List Step} b [] (Shift e f from to ∷ [])) equal
still meta sound m good (Refers a f b) may same = set_ref_still meta sound m a f b (same_rows m (set_ref_after meta a f b m.row) same)
still meta sound m good (Forgets a f) may same = unset_still meta sound m good a f (same_rows m (unset_after meta a f m.row) same)
still meta sound m good (Links a f b k) may same = link_still meta sound m good a f b k may.0 (same_rows m (link_after meta a f b k m.row) same)
still meta sound m good (Unlinks a f b) may same = unlink_still meta sound m good a f b may (same_rows m (unlink_after meta a f b m.row) same)
still meta sound m good (Reorders a f b k) may same = reorder_still meta sound m good a f b k may.0 (same_rows m (reorder_after a f b k m.row) same)

pub edits_idle : EditsIdle
edits_idle meta sound m good reading typed ws edit effect comes =
    let may = allowed meta m good reading typed ws edit effect comes in (
      nothing_made meta m (after_effect meta m effect) (effect_steps meta m effect) (made_leads meta sound m good effect may),
      still meta sound m good effect may,
    )
