-- Operations that interfere have one label, which is no later than their positions.
use Rattle.std.proofs.Common.{◌≡◌, ℕ, zero, suc, ◌≤◌, zero-le, suc-le-suc, Bool, true, false, cond, List, [], ◌∷◌, refl, sym, ap, subst, ◌∙◌, ◌&&◌}
use Rattle.std.proofs.Common.{◌||◌, map, nat_eq}
use Rattle.std.specs.Prelude.{Some, slice_get}
use Rattle.std.specs.Option.{option_map}
use Rattle.std.proofs.lemmas.Option.{slice_get-map}
use Rattle.finite_maps.proofs.EqualLaws.{nat_equality}
use Rattle.ecore_meta.specs.Meta.{Meta}
use Rattle.model_state.specs.declared.operation.Operation.{Operation}
use Rattle.footprint.specs.Interference.{interferes}
use Rattle.footprint.proofs.Pairs.{interference_is_symmetric}
use Rattle.footprint.specs.Buckets.{hits, labels}

pub some_same : {A : Type 0} (x y : A) → Some x ≡ Some y → x ≡ y
some_same x y h = cc

or_true : (a b : Bool) → b ≡ true → a || b ≡ true
or_true true b h = refl
or_true false b h = h

-- an operation's label is hit where it interferes
hits_at : (meta : Meta) (o : Operation) (os : List Operation) (ls : List ℕ) (k : ℕ) (p : Operation) (l : ℕ) → slice_get os k ≡ Some p
    → slice_get ls k ≡ Some l → interferes meta o p ≡ true → hits meta o os ls l ≡ true
hits_at meta o [] ls k p l h g is = cc
hits_at meta o (q ∷ os) [] k p l h g is = cc
hits_at meta o (q ∷ os) (m ∷ ls) zero p l h g is =
    let eq : nat_eq m l ≡ true = subst (λ x. nat_eq m x ≡ true) (some_same m l g) (nat_equality.own m) in
    let on : interferes meta o q ≡ true = subst (λ x. interferes meta o x ≡ true) (sym (some_same q p h)) is in
    λ i. (eq i && on i) || hits meta o os ls l
hits_at meta o (q ∷ os) (m ∷ ls) (suc k) p l h g is = or_true (nat_eq m l && interferes meta o q) (hits meta o os ls l) (hits_at meta o os ls k p l h g is)

-- the label of a later operation once o stands before it
abbrev pub moved : Meta → Operation → List Operation → ℕ → ℕ
moved meta o os l = cond (hits meta o os (labels meta os) l) 0 (suc l)

moved_low : (b : Bool) (l k : ℕ) → l ≤ k → cond b 0 (suc l) ≤ suc k
moved_low true l k h = zero-le
moved_low false l k h = suc-le-suc h

pub labelled : (meta : Meta) (os : List Operation) (k : ℕ) (p : Operation) → slice_get os k ≡ Some p
    → (l : ℕ) × (slice_get (labels meta os) k ≡ Some l) × (l ≤ k)
unfolding labels
labelled meta [] k p h = cc
labelled meta (o ∷ os) zero p h = (0, refl, zero-le)
labelled meta (o ∷ os) (suc k) p h =
    let r = labelled meta os k p h in (
      moved meta o os r.0,
      slice_get-map (moved meta o os) (labels meta os) k ∙ ap (option_map (moved meta o os)) r.1,
      moved_low (hits meta o os (labels meta os) r.0) r.0 k r.2,
    )

first_taken : (meta : Meta) (o : Operation) (os : List Operation) (k : ℕ) (p : Operation) → slice_get os k ≡ Some p → interferes meta o p ≡ true
    → slice_get (map (moved meta o os) (labels meta os)) k ≡ Some 0
first_taken meta o os k p h is =
    let r = labelled meta os k p h in
    slice_get-map (moved meta o os) (labels meta os) k ∙ ap (option_map (moved meta o os)) r.1
    ∙ ap (λ b. Some (cond b 0 (suc r.0))) (hits_at meta o os (labels meta os) k p r.0 h r.1 is)

pub labels_close : (meta : Meta) (os : List Operation) (i j : ℕ) (a b : Operation) → slice_get os i ≡ Some a → slice_get os j ≡ Some b
    → interferes meta a b ≡ true → slice_get (labels meta os) i ≡ slice_get (labels meta os) j
unfolding labels
labels_close meta [] i j a b h g is = cc
labels_close meta (o ∷ os) zero zero a b h g is = refl
labels_close meta (o ∷ os) zero (suc j) a b h g is = sym (first_taken meta o os j b g (subst (λ x. interferes meta x b ≡ true) (sym (some_same o a h)) is))
labels_close meta (o ∷ os) (suc i) zero a b h g is =
    first_taken meta o os i a h (subst (λ x. interferes meta x a ≡ true) (sym (some_same o b g)) (interference_is_symmetric meta b a ∙ is))
labels_close meta (o ∷ os) (suc i) (suc j) a b h g is =
    slice_get-map (moved meta o os) (labels meta os) i
    ∙ ap (option_map (moved meta o os)) (labels_close meta os i j a b h g is)
    ∙ sym (slice_get-map (moved meta o os) (labels meta os) j)
