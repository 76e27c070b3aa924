-- What is live stays so where no step deletes it.
use Rattle.std.proofs.Common.{◌≡◌, ◌||◌, ◌<◌, ◌≤◌, ℕ, Bool, true, false, List, [], ◌∷◌, None, Some, refl, sym, ap, ◌∙◌, arith}
use Rattle.std.specs.Prelude.{is_some, cond}
use Rattle.std.specs.List.{list_any}
use Rattle.std.specs.FinMap.{FinMap, get}
use Rattle.std.specs.Cmp.Lexicographic.{texts_ties}
use Rattle.std.specs.Ordering.{eq_by_cmp}
use Rattle.finite_maps.specs.Equal.{text_eq}
use Rattle.finite_maps.specs.Maps.{set}
use Rattle.finite_maps.proofs.MapLaws.{get-set}
use Rattle.ecore_meta.specs.Meta.{Meta}
use Rattle.model_state.proofs.Orders.{id_order}
use Rattle.model_state.specs.Keys.{IdBytes, id_cmp}
use Rattle.model_state.specs.State.{State, is_live}
use Rattle.model_state.specs.Steps.{apply, fold}
use Rattle.model_state.specs.declared.step.Step.{Step}
use Rattle.model_state.specs.declared.step.Step.TheVariants.{Put, Ins, Del, Shift, Link, Unlink, RerankRow, New, Gone, Move, RerankPlace}
use Rattle.model_laws.proofs.Runs.{fold_first, same_state}
use Rattle.edits.specs.FreshIds.{numbered}
use Rattle.working_model.specs.Taken.{AreTaken, deletes}

-- an element that is created leaves those that are live
made : (kind : FinMap id_cmp ℕ) (x : IdBytes) (class : ℕ) (e : IdBytes) → is_some (get kind e) ≡ true → is_some (get (set kind x (Some class)) e) ≡ true
made kind x class e live = ap is_some (get-set id_order kind x (Some class) e) ∙ either (eq_by_cmp id_cmp e x) live
  where
    either : (b : Bool) → is_some (get kind e) ≡ true → is_some (cond b (Some class) (get kind e)) ≡ true
    either true live = refl
    either false live = live

-- so does one that another is deleted beside
gone : (kind : FinMap id_cmp ℕ) (x e : IdBytes) → text_eq e x ≡ false → is_some (get kind e) ≡ true → is_some (get (set kind x None) e) ≡ true
gone kind x e other live = ap is_some (get-set id_order kind x None e ∙ ap (λ b. cond b None (get kind e)) (sym (texts_ties e x) ∙ other)) ∙ live

-- so does a step that does not delete it
step_keeps : (meta : Meta) (m : State) (s : Step) (e : IdBytes) → deletes e s ≡ false → is_live m e ≡ true → is_live (apply meta m s) e ≡ true
step_keeps meta m (New x class place rank) e kept live = made m.kind x class e live
step_keeps meta m (Gone x class place rank) e kept live = gone m.kind x e kept live
step_keeps meta m (Put x f old new) e kept live = live
step_keeps meta m (Ins x f at v) e kept live = live
step_keeps meta m (Del x f at v) e kept live = live
step_keeps meta m (Shift x f from to) e kept live = live
step_keeps meta m (Link a f ra b rb) e kept live = live
step_keeps meta m (Unlink a f ra b rb) e kept live = live
step_keeps meta m (RerankRow a f b old new) e kept live = live
step_keeps meta m (Move x from from_rank to to_rank above_from above_to) e kept live = live
step_keeps meta m (RerankPlace x old new) e kept live = live

either_false : (a b : Bool) → (a || b) ≡ false → (a ≡ false) × (b ≡ false)
either_false true b h = cc
either_false false b h = (refl, h)

-- so do all that are taken one by one
pub steps_keep : (meta : Meta) (m n : State) (steps : List Step) (e : IdBytes) → list_any (deletes e) steps ≡ false → fold meta m steps ≡ Some n
    → is_live m e ≡ true → is_live n e ≡ true
steps_keep meta m n [] e none run live = ap (λ (x : State). is_live x e) (sym (same_state m n run)) ∙ live
steps_keep meta m n (s ∷ ss) e none run live =
    let here = either_false (deletes e s) (list_any (deletes e) ss) none in
    let on = fold_first meta m n s ss run in
    steps_keep meta (apply meta m s) n ss e here.1 on.1 (step_keeps meta m s e here.0 live)

-- so the ids that are taken stay so, up to the least that is deleted
pub still_taken : (meta : Meta) (m n : State) (steps : List Step) (ws next least : ℕ) → 1 ≤ least → least ≤ next
    → ((j : ℕ) → 1 ≤ j → j < least → list_any (deletes (numbered ws j)) steps ≡ false)
    → fold meta m steps ≡ Some n → AreTaken m ws next → AreTaken n ws least
still_taken meta m n steps ws next least from below kept run are = record {
  from = from;
  taken = λ j low high. steps_keep meta m n steps (numbered ws j) (kept j low high) run (are.taken j low (omega (arith, below, high)));
}

-- below the number 1 there is none
pub none_taken : (m : State) (ws : ℕ) → AreTaken m ws 1
none_taken m ws = record { from = omega arith; taken = λ j low high. absurd (omega arith) }
