-- Refusals at a place.
use Rattle.std.proofs.lemmas.Bool.Decides.{nat_tests}
use Rattle.std.proofs.Common.{◌≡◌, ℕ, Bool, true, false, cond, not, List, [], refl, ap, ◌∙◌, arith, nat_le, length}
use Rattle.std.specs.Prelude.{Option, None, Some, is_some}
use Rattle.std.specs.FinMap.{get}
use Rattle.ecore_meta.specs.Meta.{Meta}
use Rattle.model_state.specs.declared.entry.Entry.{Entry}
use Rattle.model_state.specs.declared.step.Place.{Place}
use Rattle.model_state.specs.Keys.{IdBytes}
use Rattle.model_state.specs.Listing.{children}
use Rattle.model_state.specs.State.{State, place_eq}
use Rattle.model_state.specs.Steps.{may_move}
use Rattle.edit_steps.specs.Spot.{end_spot, rank_for, ranks_of, spot_by}
use Rattle.edit_steps.specs.Places.{rerank_places}
use Rattle.edit_steps.proofs.Reranks.{no_reranks}
use Rattle.edit_steps.specs.declared.move_fault.MoveFault.{MoveFault}
use Rattle.edit_steps.specs.declared.move_fault.MoveFault.TheVariants.{Bound, NoEntry, WrongType, WouldCycle}
use Rattle.edit_steps.specs.Subtree.{is_among}
use Rattle.edit_steps.specs.MoveRefusals.{first_place_refusal, spot_refusal, within_tests, arrival_tests, move_refusal, place_of}

-- the end is an index
own_le : (n : ℕ) → nat_le n n ≡ true
own_le n = grind (arith, nat_tests)

-- at the end only the rank is asked for
pub end_refused : (xs : List Entry) → spot_refusal xs None ≡ cond (is_some (end_spot xs).rank) None (Some Bound)
end_refused xs = ap (λ b. cond b (cond (is_some (end_spot xs).rank) None (Some Bound)) (Some NoEntry)) (own_le (length xs))

-- where there is a rank after the last entry, the others keep theirs
pub end_kept : (xs : List Entry) (r : ℕ) → rank_for (ranks_of xs) (length xs) ≡ Some r
    → (rerank_places xs (end_spot xs).ranks ≡ []) × ((end_spot xs).rank ≡ Some r) × (spot_refusal xs None ≡ None)
end_kept xs r is =
    let rank : (end_spot xs).rank ≡ Some r = ap (λ o. (spot_by o xs (length xs)).rank) is in (
      ap (λ o. rerank_places xs (spot_by o xs (length xs)).ranks) is ∙ no_reranks xs,
      rank,
      end_refused xs ∙ ap (λ o. cond (is_some o) None (Some Bound)) rank,
    )

-- ---- the three tests of an arrival, by those of its spot
pub arrival_refused : (a b c : Bool) (e : MoveFault) → cond a (cond c None (Some Bound)) (Some NoEntry) ≡ Some e
    → cond a (cond b (cond c None (Some Bound)) (Some Bound)) (Some NoEntry) ≡ Some e
arrival_refused true true c e h = h
arrival_refused true false true e h = cc
arrival_refused true false false e h = h
arrival_refused false b c e h = h

pub arrival_full : (a b c : Bool) → b ≡ false → cond a (cond c None (Some Bound)) (Some NoEntry) ≡ None
    → cond a (cond b (cond c None (Some Bound)) (Some Bound)) (Some NoEntry) ≡ Some Bound
arrival_full true true c f h = cc
arrival_full true false c f h = refl
arrival_full false b c f h = cc

pub arrival_open : (a b c : Bool) → b ≡ true → cond a (cond c None (Some Bound)) (Some NoEntry) ≡ None
    → cond a (cond b (cond c None (Some Bound)) (Some Bound)) (Some NoEntry) ≡ None
arrival_open true true c f h = h
arrival_open true false c f h = cc
arrival_open false b c f h = cc

-- ---- a move whose element may stand there and is no container
pub move_first : (meta : Meta) (m : State) (e : IdBytes) (to : Place) (above : List IdBytes) (at : Option ℕ) (same : Bool)
    → may_move meta m (get m.kind e) to ≡ true → is_among above e ≡ false → place_eq (place_of m e) to ≡ same
    → let xs = children m.place m.prank to
    in move_refusal meta m e to above at ≡ first_place_refusal (cond same (within_tests e xs at) (arrival_tests meta m to xs at))
move_first meta m e to above at same may none is =
    let xs = children m.place m.prank to in
    λ i. cond (may i) (cond (not (none i)) (first_place_refusal (cond (is i) (within_tests e xs at) (arrival_tests meta m to xs at))) (Some WouldCycle))
    (Some WrongType)

-- an element that may not stand there is of a wrong type
pub no_class : (meta : Meta) (m : State) (e : IdBytes) (to : Place) (above : List IdBytes) (at : Option ℕ) → may_move meta m (get m.kind e) to ≡ false
    → move_refusal meta m e to above at ≡ Some WrongType
no_class meta m e to above at h =
    let xs = children m.place m.prank to in
    ap (λ b. cond b (cond (not (is_among above e))
    (first_place_refusal (cond (place_eq (place_of m e) to) (within_tests e xs at) (arrival_tests meta m to xs at))) (Some WouldCycle)) (Some WrongType)) h
