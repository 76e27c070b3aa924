-- A value that goes to another index: put in there first, and then taken out where it stood.
use Rattle.std.proofs.Common.{◌≡◌, ◌≤◌, ◌<◌, ℕ, zero, suc, List, [], ◌∷◌, refl, sym, ap, ◌∙◌, length, arith}
use Rattle.std.specs.Prelude.{None, Some, slice_get}
use Rattle.std.specs.List.{insert, remove}
use Rattle.ecore_meta.specs.declared.meta.Value.{Value}
use Rattle.model_state.specs.Lists.{shifted}

up : (vs : List Value) (from to : ℕ) (v : Value) → from ≤ to → to < length vs → remove (insert vs (suc to) v) from ≡ insert (remove vs from) to v
up [] from to v le lt = absurd (omega (arith, lt))
up (x ∷ vs) zero to v le lt = refl
up (x ∷ vs) (suc from) zero v le lt = absurd (omega (arith, le))
up (x ∷ vs) (suc from) (suc to) v le lt = ap (λ l. x ∷ l) (up vs from to v (omega (arith, le)) (omega (arith, lt)))

down : (vs : List Value) (from to : ℕ) (v : Value) → to ≤ from → from < length vs → remove (insert vs to v) (suc from) ≡ insert (remove vs from) to v
down [] from to v le lt = absurd (omega (arith, lt))
down (x ∷ vs) from zero v le lt = refl
down (x ∷ vs) zero (suc to) v le lt = absurd (omega (arith, le))
down (x ∷ vs) (suc from) (suc to) v le lt = ap (λ l. x ∷ l) (down vs from to v (omega (arith, le)) (omega (arith, lt)))

is_shifted : (vs : List Value) (from to : ℕ) (v : Value) → slice_get vs from ≡ Some v → insert (remove vs from) to v ≡ shifted vs from to
is_shifted vs from to v at = ap (λ o. elim o [ None ↦ vs | Some w ↦ insert (remove vs from) to w ]) (sym at)

-- towards the end
pub shifted_up : (vs : List Value) (from to next : ℕ) (v : Value) → slice_get vs from ≡ Some v → from ≤ to → to < length vs → next ≡ suc to
    → remove (insert vs next v) from ≡ shifted vs from to
shifted_up vs from to next v at le lt is = ap (λ n. remove (insert vs n v) from) is ∙ up vs from to v le lt ∙ is_shifted vs from to v at

-- towards the beginning
pub shifted_down : (vs : List Value) (from to next : ℕ) (v : Value) → slice_get vs from ≡ Some v → to ≤ from → from < length vs → next ≡ suc from
    → remove (insert vs to v) next ≡ shifted vs from to
shifted_down vs from to next v at le lt is = ap (λ n. remove (insert vs to v) n) is ∙ down vs from to v le lt ∙ is_shifted vs from to v at
