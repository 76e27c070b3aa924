-- What holds of the links of every metamodel.
use Rattle.std.specs.Prelude.{◌≡◌, ℕ, true, false, Some, nat_eq}
use Rattle.ecore_meta.specs.Meta.{Meta}
use Rattle.ecore_meta.specs.Typing.{opposite_of, links}

-- opposites name each other, none is its own, and what one side may link the other may link back
pub record Sound (meta : Meta) : Type 0 where
  pub other : (f g : ℕ) → opposite_of meta f ≡ Some g → nat_eq f g ≡ false
  pub both : (f g : ℕ) → opposite_of meta f ≡ Some g → opposite_of meta g ≡ Some f
  pub mirrors : (c f d g : ℕ) → opposite_of meta f ≡ Some g → links meta c f d ≡ true → links meta d g c ≡ true
