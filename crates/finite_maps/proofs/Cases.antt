-- What cases of a test and of an option leave.
use Rattle.std.proofs.Common.{◌≡◌, Bool, true, false, not, ◌||◌, refl, ap}
use Rattle.std.specs.Prelude.{Option, None, Some, is_some}

-- a test that cannot hold is false
pub not_so : (b : Bool) → (b ≡ true → ⊥) → b ≡ false
not_so true h = absurd (h refl)
not_so false h = refl

pub true_false : (b : Bool) → b ≡ true → b ≡ false → ⊥
true_false b h k = cc

pub not_true : (b : Bool) → not b ≡ true → b ≡ false
not_true true h = cc
not_true false h = refl

pub not_false : (b : Bool) → b ≡ false → not b ≡ true
not_false b h = ap not h

-- of two tests of which neither holds
pub or_first : (a b : Bool) → a || b ≡ false → a ≡ false
or_first true b h = h
or_first false b h = refl

pub or_second : (a b : Bool) → a || b ≡ false → b ≡ false
or_second true b h = cc
or_second false b h = h

pub no_some : {A : Type 0} (o : Option A) → is_some o ≡ false → o ≡ None
no_some None h = refl
no_some (Some v) h = cc

pub some_none : {A : Type 0} (o : Option A) (v : A) → o ≡ Some v → o ≡ None → ⊥
some_none o v h k = cc
