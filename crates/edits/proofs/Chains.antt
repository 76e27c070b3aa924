-- A place's containers are a list of them, which is no longer than the live elements.
use Rattle.std.proofs.Common.{◌≡◌, ℕ, true, List, sym, ap, subst, ◌∙◌, inl, inr}
use Rattle.std.specs.Prelude.{Option, Some}
use Rattle.ecore_meta.specs.Meta.{Meta}
use Rattle.model_state.specs.declared.step.Place.{Place}
use Rattle.model_state.specs.declared.step.Step.{Step}
use Rattle.model_state.specs.Keys.{IdBytes}
use Rattle.model_state.specs.State.{State}
use Rattle.model_state.specs.Steps.{place_live}
use Rattle.model_state.specs.Good.{Good}
use Rattle.model_state.specs.Chains.{IsChain}
use Rattle.edit_steps.specs.declared.move_fault.MoveFault.{MoveFault}
use Rattle.edit_steps.specs.MoveRefusals.{IsPlaceRefusal, move_refusal, place_of}
use Rattle.edit_steps.specs.Moves.{IsMove, HasRefusal, IsMoveRefusal, move_made}
use Rattle.edit_steps.proofs.Containers.{has_chain}
use Rattle.edit_steps.specs.Containers.{containers_of}
use Rattle.edit_steps.proofs.ContainerLists.{containers_are_chain}

module _ (meta : Meta) (m : State) (good : Good meta m) where
  containers_are : (p : Place) (xs : List IdBytes) → IsChain m.place (Some p) xs → containers_of m p ≡ xs
  containers_are = containers_are_chain meta m good

  -- the containers of a place are its chain
  pub chain_of : (p : Place) → (xs : List IdBytes) × IsChain m.place (Some p) xs → IsChain m.place (Some p) (containers_of m p)
  chain_of p chain = subst (IsChain m.place (Some p)) (sym (containers_are p chain.0 chain.1)) chain.1

  pub is_chain : (p : Place) → place_live m p ≡ true → IsChain m.place (Some p) (containers_of m p)
  is_chain p live = chain_of p (has_chain meta m good p live)

  -- the steps of a move are those that are made, and its refusal the one that is due
  pub move_is : (e : IdBytes) (to : Place) (at : Option ℕ) (steps : List Step) → IsMove m e to at steps
      → steps ≡ move_made m e to at (containers_of m (place_of m e)) (containers_of m to)
  move_is e to at steps move =
      let up = sym (containers_are (place_of m e) move.up move.above_from) in
      let down = sym (containers_are to move.down move.above_to) in
      move.made ∙ (λ i. move_made m e to at (up i) (down i))

  pub refusal_is : (e : IdBytes) (to : Place) (at : Option ℕ) (first : Option MoveFault) → HasRefusal meta m e to at first
      → move_refusal meta m e to (containers_of m to) at ≡ first
  refusal_is e to at first has = ap (λ down. move_refusal meta m e to down at) (containers_are to has.down has.above_to) ∙ has.first_is

  pub fault_is : (e : IdBytes) (to : Place) (at : Option ℕ) (fault : MoveFault) → IsMoveRefusal meta m e to at fault
      → IsPlaceRefusal (move_refusal meta m e to (containers_of m to) at) fault
  fault_is e to at fault (inl none) = inl none
  fault_is e to at fault (inr has) = inr (refusal_is e to at (Some fault) has)
