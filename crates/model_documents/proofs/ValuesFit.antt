-- The values that an attribute's key gives are such as the attribute may hold.
use Rattle.std.proofs.Common.{◌≡◌, ℕ, ◌≤◌, Bool, true, false, ◌&&◌, ◌||◌, not, cond, List, [], ◌∷◌, ◌++◌, length, nat_le, refl, sym, ap, subst, ◌∙◌, arith}
use Rattle.std.specs.Prelude.{Option, None, Some, Ok, Err}
use Rattle.std.specs.List.{AllByRecursion, list_all, list_any}
use Rattle.std.proofs.lemmas.Bool.Decides.{nat_tests}
use Rattle.serde_json.specs.Data.{Data}
use Rattle.finite_maps.proofs.EqualLaws.{and_both, and_first, and_second, apart}
use Rattle.ecore_meta.specs.Meta.{Meta}
use Rattle.ecore_meta.specs.declared.meta.Kind.{Kind}
use Rattle.ecore_meta.specs.declared.meta.Kind.TheVariants.{Attr, AttrMany}
use Rattle.ecore_meta.specs.declared.meta.Scalar.{Scalar}
use Rattle.ecore_meta.specs.declared.meta.Value.{Value}
use Rattle.model_state.specs.Good.{ValuesOk, is_distinct}
use Rattle.model_state.specs.Typing.{fits, has_feature, is_default, kind_of, upper_of, value_eq}
use Rattle.model_state.proofs.StepTests.{value_equality}
use Rattle.emfjson_values.specs.Values.{value_in}
use Rattle.emfjson_values.proofs.Fits.{in_type}
use Rattle.model_documents.specs.declared.doc.DocAttr.{DocAttr}
use Rattle.model_documents.specs.declared.fault.ModelFault.TheVariants.{BadValue, Bound}
use Rattle.finite_maps.specs.Maps.{is_within}
use Rattle.finite_maps.proofs.Cases.{or_first, or_second}
use Rattle.model_documents.specs.Attributes.{elements, is_null, many_part, may_hold, new_value, next_value, set_part, single_part, values_in, values_part}
use Rattle.model_documents.specs.Fits.{AttrFits}
use Rattle.model_documents.specs.Parts.{Part, no_part}
use Rattle.model_documents.specs.Reads.{Read, «then», collected, found, unless}
use Rattle.model_documents.proofs.Apart.{of_ok, then_ok, unless_ok, unless_true}
use Rattle.model_state.specs.Ranks.{most_entries}

-- attributes that fit a class
abbrev pub AttrsFit : Meta → ℕ → List DocAttr → Type 0
AttrsFit meta c attrs = AllByRecursion (AttrFits meta c) attrs

-- a key of no element, with attributes that fit
pub record Plain (meta : Meta) (c : ℕ) (one : Part) : Type 0 where
  pub none : one.rows ≡ []
  pub attrs : AttrsFit meta c one.attrs

pub plain_is : (meta : Meta) (c : ℕ) (p q : Part) → p ≡ q → Plain meta c p → Plain meta c q
plain_is meta c p q e h = subst (Plain meta c) e h

pub plain_none : (meta : Meta) (c : ℕ) → Plain meta c no_part
plain_none meta c = record { none = refl; attrs = tt }

not_both : (b : Bool) → not b ≡ true → b ≡ false
not_both true h = cc
not_both false h = refl

list_all_last : (p : Value → Bool) (xs : List Value) (y : Value) → list_all p xs ≡ true → p y ≡ true → list_all p (xs ++ y ∷ []) ≡ true
list_all_last p [] y h g = and_both (p y) true g refl
list_all_last p (x ∷ xs) y h g =
    and_both (p x) (list_all p (xs ++ y ∷ [])) (and_first (p x) (list_all p xs) h) (list_all_last p xs y (and_second (p x) (list_all p xs) h) g)

neither : (a b : Bool) → a ≡ false → b ≡ false → a || b ≡ false
neither a b p q = ap (λ c. c || b) p ∙ q

any_last : (p : Value → Bool) (xs : List Value) (y : Value) → list_any p xs ≡ false → p y ≡ false → list_any p (xs ++ y ∷ []) ≡ false
any_last p [] y h g = neither (p y) false g refl
any_last p (x ∷ xs) y h g = neither (p x) (list_any p (xs ++ y ∷ [])) (or_first (p x) (list_any p xs) h) (any_last p xs y (or_second (p x) (list_any p xs) h) g)

not_false : (b : Bool) → b ≡ false → not b ≡ true
not_false b h = ap not h

distinct_last : (xs : List Value) (y : Value) → is_distinct xs ≡ true → list_any (value_eq y) xs ≡ false → is_distinct (xs ++ y ∷ []) ≡ true
distinct_last [] y h g = refl
distinct_last (x ∷ xs) y h g =
    and_both (not (list_any (value_eq x) (xs ++ y ∷ []))) (is_distinct (xs ++ y ∷ []))
    (not_false (list_any (value_eq x) (xs ++ y ∷ []))
    (any_last (value_eq x) xs y (not_both (list_any (value_eq x) xs) (and_first (not (list_any (value_eq x) xs)) (is_distinct xs) h))
    (apart value_eq value_equality y x (or_first (value_eq y x) (list_any (value_eq y) xs) g))))
    (distinct_last xs y (and_second (not (list_any (value_eq x) xs)) (is_distinct xs) h) (or_second (value_eq y x) (list_any (value_eq y) xs) g))

-- values of the type, each once where it must be
record Listed (meta : Meta) (s : Scalar) (unique : Bool) (vs : List Value) : Type 0 where
  pub typed : list_all (fits meta s) vs ≡ true
  pub once : cond unique (is_distinct vs) true ≡ true

once_last : (unique : Bool) (vs : List Value) (v : Value) → cond unique (is_distinct vs) true ≡ true → unique && list_any (value_eq v) vs ≡ false
    → cond unique (is_distinct (vs ++ v ∷ [])) true ≡ true
once_last true vs v h g = distinct_last vs v h g
once_last false vs v h g = refl

value_ok : (v w : Value) → ◌≡◌ {A = Read Value} (Ok v) (Ok w) → v ≡ w
value_ok v w h = cc

new_is : (unique : Bool) (vs : List Value) (o : Option Value) (v : Value) → new_value unique vs o ≡ Ok v
    → (o ≡ Some v) × (unique && list_any (value_eq v) vs ≡ false)
new_is unique vs None v h = cc
new_is unique vs (Some w) v h =
    let same : w ≡ v = value_ok w v (unless_ok (not (unique && list_any (value_eq w) vs)) BadValue (Ok w) v h) in (
      ap (λ x. Some x) same,
      ap (λ x. unique && list_any (value_eq x) vs) (sym same)
          ∙ not_both _ (unless_true (not (unique && list_any (value_eq w) vs)) BadValue (Ok w) v h),
    )

values_ok : (xs ys : List Value) → ◌≡◌ {A = Read (List Value)} (Ok xs) (Ok ys) → xs ≡ ys
values_ok xs ys h = cc

listed : (meta : Meta) (s : Scalar) (unique : Bool) (vs : List Value) (ds : List Data) (ws : List Value) → Listed meta s unique vs
    → collected (next_value meta s unique) vs ds ≡ Ok ws → Listed meta s unique ws
listed meta s unique vs [] ws so h = subst (Listed meta s unique) (values_ok vs ws h) so
listed meta s unique vs (d ∷ ds) ws so h =
    let one = then_ok (next_value meta s unique vs d) (λ v. collected (next_value meta s unique) (vs ++ v ∷ []) ds) ws h in
    let new = new_is unique vs (value_in meta s d) one.0 one.1 in
    listed meta s unique (vs ++ one.0 ∷ []) ds ws
    (record { typed = list_all_last (fits meta s) vs one.0 so.typed (in_type meta s d one.0 new.0); once = once_last unique vs one.0 so.once new.1 }) one.2

few : (n : ℕ) → nat_le n most_entries ≡ true → n ≤ most_entries
few n h = grind (arith, nat_tests)

module _ (meta : Meta) (c f : ℕ) (has : has_feature meta c f ≡ true) where
  -- a single attribute
  set_fits : (s : Scalar) (default : Option Value) (v : Value) (b : Bool) → kind_of meta f ≡ Attr s default → fits meta s v ≡ true
      → is_default (kind_of meta f) v ≡ b → Plain meta c (set_part f b v)
  set_fits s default v true kind fit is = plain_none meta c
  set_fits s default v false kind fit is = record {
    none = refl;
    attrs = ((has, subst (λ (k : Kind). ValuesOk meta k (upper_of meta f) (v ∷ [])) (sym kind) (fit, ap (λ (k : Kind). is_default k v) (sym kind) ∙ is)), tt);
  }

  single_by : (s : Scalar) (default : Option Value) (b : Bool) (o : Option Value) (one : Part) → kind_of meta f ≡ Attr s default
      → ((v : Value) → o ≡ Some v → fits meta s v ≡ true)
      → cond b (Ok no_part) («then» (found BadValue o) (λ v. Ok (set_part f (is_default (kind_of meta f) v) v))) ≡ Ok one → Plain meta c one
  single_by s default true o one kind fit h = plain_is meta c no_part one (of_ok no_part one h) (plain_none meta c)
  single_by s default false None one kind fit h = cc
  single_by s default false (Some v) one kind fit h =
      plain_is meta c (set_part f (is_default (kind_of meta f) v) v) one (of_ok (set_part f (is_default (kind_of meta f) v) v) one h)
      (set_fits s default v (is_default (kind_of meta f) v) kind (fit v refl) refl)

  pub single_fits : (s : Scalar) (default : Option Value) (d : Data) (one : Part) → kind_of meta f ≡ Attr s default → single_part meta f s d ≡ Ok one
      → Plain meta c one
  single_fits s default d one kind h = single_by s default (is_null d) (value_in meta s d) one kind (λ v is. in_type meta s d v is) h

  -- a many-valued one
  filled_fits : (s : Scalar) (unique : Bool) (vs : List Value) → kind_of meta f ≡ AttrMany s unique → Listed meta s unique vs
      → may_hold meta f (length vs) ≡ true → Plain meta c (values_part f vs)
  filled_fits s unique [] kind so may = plain_none meta c
  filled_fits s unique (v ∷ vs) kind so may =
      let within = and_first (is_within (length (v ∷ vs)) (upper_of meta f)) (nat_le (length (v ∷ vs)) most_entries) may in
      let small = and_second (is_within (length (v ∷ vs)) (upper_of meta f)) (nat_le (length (v ∷ vs)) most_entries) may in
      record {
        none = refl;
        attrs = (
          (
            has,
            subst (λ (k : Kind). ValuesOk meta k (upper_of meta f) (v ∷ vs)) (sym kind)
                (so.typed, within, few (length (v ∷ vs)) small, so.once),
          ),
          tt,
        );
      }

  many_by : (s : Scalar) (unique : Bool) (b : Bool) (r : Read (List Value)) (one : Part) → kind_of meta f ≡ AttrMany s unique
      → ((vs : List Value) → r ≡ Ok vs → Listed meta s unique vs)
      → cond b (Ok no_part) («then» r (λ vs. unless (may_hold meta f (length vs)) Bound (Ok (values_part f vs)))) ≡ Ok one → Plain meta c one
  many_by s unique true r one kind fit h = plain_is meta c no_part one (of_ok no_part one h) (plain_none meta c)
  many_by s unique false (Err e) one kind fit h = cc
  many_by s unique false (Ok vs) one kind fit h =
      plain_is meta c (values_part f vs) one (of_ok (values_part f vs) one (unless_ok (may_hold meta f (length vs)) Bound (Ok (values_part f vs)) one h))
      (filled_fits s unique vs kind (fit vs refl) (unless_true (may_hold meta f (length vs)) Bound (Ok (values_part f vs)) one h))

  pub many_fits : (s : Scalar) (unique : Bool) (d : Data) (one : Part) → kind_of meta f ≡ AttrMany s unique → many_part meta f s unique d ≡ Ok one
      → Plain meta c one
  many_fits s unique d one kind h =
      many_by s unique (is_null d) (values_in meta s unique (elements d)) one kind
      (λ vs is. listed meta s unique [] (elements d) vs (record { typed = refl; once = empty unique }) is) h
    where
      empty : (b : Bool) → cond b (is_distinct []) true ≡ true
      empty true = refl
      empty false = refl
