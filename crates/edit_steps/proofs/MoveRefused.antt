-- Edits that are not refused.
use Rattle.std.proofs.Common.{◌≡◌, ℕ, Bool, true, false, cond, List, [], ◌∷◌, refl, sym, ap, subst, ◌∙◌, ◌||◌, length}
use Rattle.std.specs.Prelude.{Option, None, Some, unwrap_or}
use Rattle.std.specs.FinMap.{get}
use Rattle.finite_maps.proofs.Cases.{not_true}
use Rattle.ecore_meta.specs.Meta.{Meta}
use Rattle.model_state.specs.declared.entry.Entry.{Entry}
use Rattle.model_state.specs.declared.step.Place.{Place}
use Rattle.model_state.specs.declared.step.Place.TheVariants.{Root}
use Rattle.model_state.specs.Keys.{IdBytes}
use Rattle.model_state.specs.State.{State, is_live, place_eq}
use Rattle.model_state.specs.Steps.{fold}
use Rattle.model_state.specs.Typing.{is_concrete}
use Rattle.model_state.specs.Good.{Good, Sound}
use Rattle.model_state.specs.Chains.{IsChain}
use Rattle.model_state.specs.Listing.{children}
use Rattle.model_state.proofs.StepTests.{place_equality}
use Rattle.edit_steps.specs.Places.{MayCreate, MayMoveWithin, MayMoveTo, move_within_after, move_within_made, move_to_after, move_to_made}
use Rattle.edit_steps.specs.Standing.{Placed}
use Rattle.edit_steps.specs.References.{without_entry}
use Rattle.edit_steps.proofs.Creates.{create_meets}
use Rattle.edit_steps.proofs.MoveEdits.{move_within_meets, move_to_meets, not_there}
use Rattle.edit_steps.proofs.PlaceStanding.{create_stands, move_within_stands, move_to_stands}
use Rattle.edit_steps.proofs.Told.{without_none}
use Rattle.edit_steps.specs.declared.move_fault.MoveFault.{MoveFault}
use Rattle.edit_steps.specs.MoveRefusals.{IsPlace, create_refusal, first_place_refusal, create_tests, move_tests, within_tests, arrival_tests, place_of}
use Rattle.edit_steps.specs.Moves.{move_after, move_made}
use Rattle.edit_steps.specs.PlaceLaws.{CreateLeads, CreatedStands, MoveLeads, MovedStands}
use Rattle.edit_steps.proofs.Containers.{live_place, one_chain, parent_live, chain_passes}

abbrev pub AllPass : List (Bool × MoveFault) → Type 0
AllPass [] = Unit {0}
AllPass (t ∷ ts) = (t.0 ≡ true) × AllPass ts

pub passed : (ts : List (Bool × MoveFault)) → first_place_refusal ts ≡ None → AllPass ts
passed [] h = tt
passed (t ∷ ts) h =
    elim (t.0) as (λ b. t.0 ≡ b → cond b (first_place_refusal ts) (Some t.1) ≡ None → (t.0 ≡ true) × AllPass ts) [
      | true ↦ λ e g. (e, passed ts g)
      | false ↦ λ e g. cc
    ] refl h

-- it may be created
pub may_create : (meta : Meta) (m : State) → Good meta m → (e : IdBytes) (c : ℕ) (p : Place) → is_live m e ≡ false → is_concrete meta c ≡ true
    → IsPlace meta m p → create_refusal meta m c p ≡ None → MayCreate meta m e c p
may_create meta m good e c p fresh concrete is open_ =
    let t = passed (create_tests meta m c p) open_ in
    record {
      fresh = fresh;
      parent = parent_live meta m good p is;
      concrete = concrete;
      typed = t.0;
      room = t.1.0;
      ranked = t.1.1.0;
    }

pub create_leads : CreateLeads
create_leads meta sound m good e c p fresh concrete is open_ = create_meets meta sound m good e c p (may_create meta m good e c p fresh concrete is open_)

pub created_stands : CreatedStands
created_stands meta sound m good e c p fresh concrete is open_ = create_stands meta sound m good e c p (may_create meta m good e c p fresh concrete is open_)

left_or : (b c : Bool) → b || c ≡ true → b ≡ false → c ≡ true
left_or true c h g = cc
left_or false c h g = h

module _ (meta : Meta) (sound : Sound meta) (m : State) (good : Good meta m) (e : IdBytes) (to : Place) (at : Option ℕ) (live : is_live m e ≡ true)
    (is : IsPlace meta m to) (up down : List IdBytes) (above_from : IsChain m.place (Some (place_of m e)) up)
    (above_to : IsChain m.place (Some to) down) where
  abbrev xs : List Entry
  xs = children m.place m.prank to

  stands : get m.place e ≡ Some (place_of m e)
  stands = let at = live_place meta m good e live in at.1 ∙ ap Some (sym (ap (λ o. unwrap_or o Root) at.1))

  abbrev inner : ℕ
  inner = unwrap_or at (length (without_entry e xs))

  abbrev outer : ℕ
  outer = unwrap_or at (length xs)

  -- it may move within its place
  pub may_within : place_eq (place_of m e) to ≡ true → AllPass (within_tests e xs at) → MayMoveWithin m e to inner
  may_within same tests = record {
    stands = stands ∙ ap Some (place_equality.exact (place_of m e) to same);
    ranked = left_or _ _ tests.1.0;
  }

  -- it may move to the other place
  pub may_arrive : first_place_refusal (move_tests meta m e to down at) ≡ None → place_eq (place_of m e) to ≡ false
      → AllPass (arrival_tests meta m to xs at) → MayMoveTo meta m e (place_of m e) to outer up down
  may_arrive open_ differ tests =
      let t = passed (move_tests meta m e to down at) open_ in
      record {
        stands = stands;
        elsewhere = differ;
        parent = parent_live meta m good to is;
        typed = t.0;
        above_from = chain_passes m.place (Some (place_of m e)) up above_from;
        above_to = chain_passes m.place (Some to) down above_to;
        no_cycle = not_true _ t.1.0;
        room = tests.1.0;
        ranked = tests.1.1.0;
      }

  pub leads : first_place_refusal (move_tests meta m e to down at) ≡ None → fold meta m (move_made m e to at up down) ≡ Some (move_after m e to at)
  leads open_ =
      let t = passed (move_tests meta m e to down at) open_ in
      elim (place_eq (place_of m e) to) as (λ b. place_eq (place_of m e) to ≡ b → AllPass (cond b (within_tests e xs at) (arrival_tests meta m to xs at))
      → fold meta m (cond b (move_within_made m e to (unwrap_or at (length (without_entry e xs))))
      (move_to_made m e (place_of m e) to (unwrap_or at (length xs)) up down))
      ≡ Some (cond b (move_within_after m e to (unwrap_or at (length (without_entry e xs)))) (move_to_after m e to (unwrap_or at (length xs))))) [
        | true ↦ λ same tests. move_within_meets meta sound m good e to inner (may_within same tests)
        | false ↦ λ differ tests. move_to_meets meta sound m good e (place_of m e) to outer up down (may_arrive open_ differ tests)
      ] refl t.1.1

  -- the element stands at the index
  pub moved_stands : first_place_refusal (move_tests meta m e to down at) ≡ None → Placed m (move_after m e to at) e to inner
  moved_stands open_ =
      let t = passed (move_tests meta m e to down at) open_ in
      elim (place_eq (place_of m e) to) as (λ b. place_eq (place_of m e) to ≡ b → AllPass (cond b (within_tests e xs at) (arrival_tests meta m to xs at))
      → Placed m (cond b (move_within_after m e to inner) (move_to_after m e to outer)) e to inner) [
        | true ↦ λ same tests. move_within_stands meta sound m good e to inner (may_within same tests) tests.0
        | false ↦ λ differ tests.
            let alone : without_entry e xs ≡ xs = without_none e xs (not_there meta m good e (place_of m e) to stands differ) in
            subst (λ l. Placed m (move_to_after m e to outer) e to (unwrap_or at (length l))) (sym alone)
            (move_to_stands meta sound m good e (place_of m e) to outer up down (may_arrive open_ differ tests) tests.0)
      ] refl t.1.1

pub move_leads : MoveLeads
move_leads meta sound m good e to at live is down above_to open_ steps move =
    let same : down ≡ move.down = one_chain m (Some to) down move.down above_to move.above_to in
    ap (fold meta m) move.made
    ∙ leads meta sound m good e to at live is move.up move.down move.above_from move.above_to
    (subst (λ d. first_place_refusal (move_tests meta m e to d at) ≡ None) same open_)

pub moved_stands_there : MovedStands
moved_stands_there meta sound m good e to at live is down above_to open_ =
    let here = live_place meta m good e live in
    let up = good.places.ends e here.0 here.1 in
    let place : here.0 ≡ place_of m e = sym (ap (λ o. unwrap_or o Root) here.1) in
    moved_stands meta sound m good e to at live is up.0 down (subst (λ p. IsChain m.place (Some p) up.0) place up.1) above_to open_
