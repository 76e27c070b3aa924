-- The features of a class, by the classes that declare them.
use Rattle.std.proofs.Common.{◌≡◌, ℕ, zero, suc, ◌<◌, Bool, true, false, List, [], ◌∷◌, refl, ap, ◌∙◌, arith, length, nat_eq}
use Rattle.std.specs.Prelude.{None, Some, slice_get}
use Rattle.std.specs.List.{list_any}
use Rattle.std.specs.Option.{option_map_or}
use Rattle.ecore_meta.specs.Meta.{Meta, features_of, has_feature}
use Rattle.ecore_meta.specs.Promised.{ListsDeclared, declared}
use Rattle.ecore_meta.specs.declared.meta.Class.{Class}
use Rattle.ecore_meta.specs.declared.meta.Feature.{Feature}
use Rattle.ecore_meta.proofs.RisingLaws.{in_kept}

pub has_any : (meta : Meta) (c f : ℕ) → has_feature meta c f ≡ list_any (nat_eq f) (features_of meta c)
has_any meta c f = elim (slice_get meta.classes c) as (λ x.
    option_map_or (λ (class : Class). list_any (nat_eq f) class.features) x false ≡ list_any (nat_eq f)
    (option_map_or (λ (class : Class). class.features) x [])) [
      | None ↦ refl
      | Some k ↦ refl
    ]

low_feature : (fs : List Feature) (f : ℕ) (h : Feature → Bool) → option_map_or h (slice_get fs f) false ≡ true → f < length fs
low_feature [] f h e = cc
low_feature (x ∷ xs) zero h e = omega arith
low_feature (x ∷ xs) (suc f) h e = let more = low_feature xs f h e in omega (arith, more)

-- a class has a feature exactly where that class or one above it declares it
pub has_declared : (meta : Meta) → ListsDeclared meta → (c f : ℕ) → has_feature meta c f ≡ declared meta c f
has_declared meta lists c f =
    has_any meta c f ∙ ap (list_any (nat_eq f)) (lists c)
    ∙ in_kept (declared meta c) (length meta.features) f (low_feature meta.features f _)
