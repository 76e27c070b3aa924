-- What the tests of steps ask of two metamodels.
use Rattle.std.specs.Prelude.{◌≡◌, ℕ, true, slice_get, nat_lt}
use Rattle.ecore_meta.specs.Meta.{Meta, has_feature, is_a}
use Rattle.ecore_meta.specs.Typing.{literal_count}
use Rattle.model_state.specs.Typing.{is_concrete}

-- what passes with the one passes with the other
pub record Keeps (old new : Meta) : Type 0 where
  pub concrete : (c : ℕ) → is_concrete old c ≡ true → is_concrete new c ≡ true
  pub has : (c f : ℕ) → has_feature old c f ≡ true → has_feature new c f ≡ true
  pub feature : (c f : ℕ) → has_feature old c f ≡ true → slice_get new.features f ≡ slice_get old.features f
  pub above : (c d : ℕ) → is_a old c d ≡ true → is_a new c d ≡ true
  pub literals : (e k : ℕ) → nat_lt k (literal_count old e) ≡ true → nat_lt k (literal_count new e) ≡ true
