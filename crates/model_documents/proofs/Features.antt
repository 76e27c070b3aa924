-- What the keys of attributes and references give, by what their values are.
use Rattle.std.proofs.Common.{◌≡◌, ℕ, Bool, true, false, List, [], ◌∷◌, refl, sym, ap, ◌∙◌, length, cond, arith}
use Rattle.std.specs.Prelude.{Ok}
use Rattle.serde_json.specs.Data.{Data}
use Rattle.ecore_meta.specs.Meta.{Meta}
use Rattle.ecore_meta.specs.declared.meta.Scalar.{Scalar}
use Rattle.ecore_meta.specs.declared.meta.Value.{Value}
use Rattle.model_state.specs.Typing.{is_default, kind_of}
use Rattle.emfjson_values.specs.Values.{value_in}
use Rattle.model_documents.specs.declared.fault.ModelFault.TheVariants.{BadValue, Bound}
use Rattle.model_documents.specs.Attributes.{is_null, elements, attr_part, values_part, set_part, single_part, values_in, may_hold, many_part}
use Rattle.model_documents.specs.Parts.{no_part}
use Rattle.model_documents.specs.Reads.{«then», unless, found}

module _ (meta : Meta) (f : ℕ) (s : Scalar) (d : Data) where
  pub single_null : is_null d ≡ true → single_part meta f s d ≡ Ok no_part
  single_null null = ap (λ (b : Bool).
      cond b (Ok no_part) («then» (found BadValue (value_in meta s d)) (λ v. Ok (set_part f (is_default (kind_of meta f) v) v)))) null

  there : is_null d ≡ false → single_part meta f s d ≡ «then» (found BadValue (value_in meta s d)) (λ v. Ok (set_part f (is_default (kind_of meta f) v) v))
  there null = ap (λ (b : Bool).
      cond b (Ok no_part) («then» (found BadValue (value_in meta s d)) (λ v. Ok (set_part f (is_default (kind_of meta f) v) v)))) null

  pub single_set : (v : Value) (b : Bool) → is_null d ≡ false → found BadValue (value_in meta s d) ≡ Ok v → is_default (kind_of meta f) v ≡ b
      → single_part meta f s d ≡ Ok (set_part f b v)
  single_set v b null is default =
      there null ∙ ap (λ r. «then» r (λ v. Ok (set_part f (is_default (kind_of meta f) v) v))) is ∙ ap (λ (b : Bool). Ok (set_part f b v)) default

module _ (meta : Meta) (f : ℕ) (s : Scalar) (unique : Bool) (d : Data) where
  pub many_null : is_null d ≡ true → many_part meta f s unique d ≡ Ok no_part
  many_null null =
      ap (λ (b : Bool). cond b (Ok no_part)
      («then» (values_in meta s unique (elements d)) (λ vs. unless (may_hold meta f (length vs)) Bound (Ok (values_part f vs))))) null

  filled : is_null d ≡ false
      → many_part meta f s unique d ≡ «then» (values_in meta s unique (elements d))
      (λ vs. unless (may_hold meta f (length vs)) Bound (Ok (values_part f vs)))
  filled null =
      ap (λ (b : Bool). cond b (Ok no_part)
      («then» (values_in meta s unique (elements d)) (λ vs. unless (may_hold meta f (length vs)) Bound (Ok (values_part f vs))))) null

  pub many_read : (vs : List Value) (b : Bool) (ds : List Data) → is_null d ≡ false → ds ≡ elements d → values_in meta s unique ds ≡ Ok vs
      → may_hold meta f (length vs) ≡ b
      → many_part meta f s unique d ≡ unless b Bound (Ok (values_part f vs))
  many_read vs b ds null are is within =
      filled null
      ∙ ap (λ r. «then» r (λ vs. unless (may_hold meta f (length vs)) Bound (Ok (values_part f vs)))) (ap (values_in meta s unique) (sym are) ∙ is)
      ∙ ap (λ (b : Bool). unless b Bound (Ok (values_part f vs))) within

-- a list without values, and one with some
pub no_values : (f : ℕ) (vs : List Value) → length vs ≡ 0 → values_part f vs ≡ no_part
no_values f [] h = refl
no_values f (v ∷ vs) h = absurd (omega arith)

pub some_values : (f : ℕ) (vs : List Value) → (length vs ≡ 0 → ⊥) → values_part f vs ≡ attr_part f vs
some_values f [] h = absurd (h refl)
some_values f (v ∷ vs) h = refl
