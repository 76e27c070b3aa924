-- The containers of a place are its chain.
use Rattle.std.proofs.Common.{◌≡◌, ℕ, ◌<◌, ◌≤◌, suc, zero, List, [], ◌∷◌, refl, sym, ap, subst, ◌∙◌, arith, length}
use Rattle.std.specs.Prelude.{Option, None, Some}
use Rattle.std.specs.FinMap.{FinMap, get}
use Rattle.ecore_meta.specs.Meta.{Meta}
use Rattle.model_state.specs.declared.step.Place.{Place}
use Rattle.model_state.specs.declared.step.Place.TheVariants.{Root, Inside}
use Rattle.model_state.specs.Keys.{IdBytes, id_cmp}
use Rattle.model_state.specs.Listing.{ids}
use Rattle.model_state.specs.State.{State}
use Rattle.model_state.specs.Good.{Good}
use Rattle.model_state.specs.Chains.{IsChain}
use Rattle.edit_steps.specs.Containers.{containers_within}
use Rattle.edit_steps.specs.PlaceLaws.{ContainersAreChain}
use Rattle.edit_steps.proofs.Levels.{bounded}
use Rattle.edit_steps.proofs.Trees.{Up}

-- as many containers as are asked for, where there are no more
within_is : (m : State) (n : ℕ) (o : Option Place) (xs : List IdBytes) → IsChain m.place o xs → length xs ≤ n → containers_within m n o ≡ xs
within_is m zero o [] h le = refl
within_is m zero o (x ∷ xs) h le = absurd (none (length xs) le)
  where
    none : (k : ℕ) → suc k ≤ zero → ⊥
    none k h = omega arith
within_is m (suc n) None xs h le = absurd h
within_is m (suc n) (Some Root) [] h le = refl
within_is m (suc n) (Some Root) (x ∷ xs) h le = absurd h
within_is m (suc n) (Some (Inside a f)) [] h le = absurd h
within_is m (suc n) (Some (Inside a f)) (x ∷ xs) h le =
    (λ i. sym h.0 i ∷ containers_within m n (get m.place (sym h.0 i)))
    ∙ ap (λ l. x ∷ l) (within_is m n (get m.place x) xs h.1 (less (length xs) n le))
  where
    less : (k n : ℕ) → suc k ≤ suc n → k ≤ n
    less k n h = omega arith

module _ (place : FinMap id_cmp Place) where
  -- a chain ends at an element as many containers up
  top : (x : IdBytes) (xs : List IdBytes) → IsChain place (get place x) xs → (z : IdBytes) × Up place (length xs) x z
  top x [] h = (x, refl)
  top x (y ∷ ys) h =
      elim (get place x) as (λ o. get place x ≡ o → IsChain place o (y ∷ ys) → (z : IdBytes) × Up place (suc (length ys)) x z) [
        | None ↦ λ _ g. absurd g
        | Some p ↦ λ is g. above p (top y ys) is g
      ] refl h
    where
      above : (p : Place) → (IsChain place (get place y) ys → (z : IdBytes) × Up place (length ys) y z) → get place x ≡ Some p
          → IsChain place (Some p) (y ∷ ys) → (z : IdBytes) × Up place (suc (length ys)) x z
      above Root up is g = absurd g
      above (Inside b f) up is g =
          let rest = up g.1 in
          (rest.0, (b, f, is, subst (λ w. Up place (length ys) w rest.0) g.0 rest.1))

chain_short : (meta : Meta) (m : State) → Good meta m → (p : Place) (xs : List IdBytes) → IsChain m.place (Some p) xs → length xs ≤ suc (length (ids m))
chain_short meta m good Root [] h = omega arith
chain_short meta m good Root (x ∷ xs) h = absurd h
chain_short meta m good (Inside a f) [] h = absurd h
chain_short meta m good (Inside a f) (x ∷ xs) h =
    let up = top m.place x xs h.1 in
    less (length xs) (length (ids m)) (bounded meta m good up.0 (length xs) x up.1)
  where
    less : (k n : ℕ) → k < suc n → suc k ≤ suc n
    less k n h = omega arith

pub containers_are_chain : ContainersAreChain
containers_are_chain meta m good p xs chain = within_is m (suc (length (ids m))) (Some p) xs chain (chain_short meta m good p xs chain)
