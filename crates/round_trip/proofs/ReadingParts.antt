-- What stands under a feature gives what it is to give.
use Rattle.std.proofs.Common.{◌≡◌, ℕ, suc, ◌≤◌, Bool, true, false, cond, not, ◌&&◌, ◌||◌, List, [], ◌∷◌, ◌++◌, map, refl, sym, ap, subst, ◌∙◌, arith}
use Rattle.std.proofs.Common.{append_assoc, append-nil}
use Rattle.std.specs.Prelude.{Option, None, Some, option_and_then, Ok, nat_le}
use Rattle.std.specs.List.{AllByRecursion, list_any}
use Rattle.std.proofs.lemmas.Bool.{or_parts}
use Rattle.std.proofs.lemmas.List.Folds.{list_any-append}
use Rattle.std.proofs.lemmas.Bool.Decides.{nat_tests}
use Rattle.finite_maps.proofs.Cases.{not_true}
use Rattle.finite_maps.proofs.EqualLaws.{apart, and_first, and_second, nat_equality}
use Rattle.serde_json.specs.Data.{Data, depth}
use Rattle.serde_json.specs.Read.{max_depth}
use Rattle.serde_json.specs.View.{items_of}
use Rattle.ecore_json.specs.Rows.{list_of}
use Rattle.ecore_meta.specs.Meta.{Meta}
use Rattle.ecore_meta.specs.Typing.{fits, is_one}
use Rattle.ecore_meta.specs.declared.meta.Scalar.{Scalar}
use Rattle.ecore_meta.specs.declared.meta.Value.{Value}
use Rattle.ecore_meta.specs.declared.meta.Value.TheVariants.{Text, Flag, Whole, Literal}
use Rattle.model_state.specs.Good.{is_distinct}
use Rattle.model_state.specs.Typing.{value_eq}
use Rattle.model_state.proofs.StepTests.{value_equality}
use Rattle.emfjson_values.specs.Values.{data_of, value_in}
use Rattle.emfjson_values.proofs.Again.{written_read}
use Rattle.model_documents.specs.declared.fault.ModelFault.TheVariants.{BadValue}
use Rattle.finite_maps.specs.Maps.{is_within}
use Rattle.model_documents.specs.Attributes.{is_null, new_value, next_value}
use Rattle.model_documents.specs.Reads.{«then», unless, collected}
use Rattle.ecore_meta.specs.Named.{IsNamed}
use Rattle.round_trip.proofs.ReadingPlain.{read_compact}
use Rattle.round_trip.proofs.ReadingTrees.{plain_value}

-- ---- values
pub list_items : (ds : List Data) → list_of (items_of ds) ≡ ds
list_items [] = refl
list_items (d ∷ ds) = ap (λ xs. d ∷ xs) (list_items ds)

shallow : (meta : Meta) (s : Scalar) (v : Value) → depth (data_of meta s v) ≤ max_depth
shallow meta s (Text t) = omega arith
shallow meta s (Flag b) = omega arith
shallow meta s (Whole n) = omega arith
shallow meta s (Literal n) = omega arith

pub not_null : (meta : Meta) (s : Scalar) (v : Value) → is_null (data_of meta s v) ≡ false
not_null meta s (Text t) = refl
not_null meta s (Flag b) = refl
not_null meta s (Whole n) = refl
not_null meta s (Literal n) = refl

-- each value is new after those before, where each is to be held once
abbrev New : Bool → List Value → List Value → Type 0
New unique done [] = Unit {0}
New unique done (v ∷ vs) = (unique && list_any (value_eq v) done ≡ false) × New unique (done ++ v ∷ []) vs

all_new : (done vs : List Value) → New false done vs
all_new done [] = tt
all_new done (v ∷ vs) = (refl, all_new (done ++ v ∷ []) vs)

none_equal : (v : Value) (vs : List Value) → list_any (value_eq v) vs ≡ false → AllByRecursion (λ w. value_eq w v ≡ false) vs
none_equal v [] h = tt
none_equal v (w ∷ ws) h = let parts = or_parts (value_eq v w) (list_any (value_eq v) ws) h
    in (apart value_eq value_equality v w parts.0, none_equal v ws parts.1)

one_more : (v : Value) (done vs : List Value) → AllByRecursion (λ w. list_any (value_eq w) done ≡ false) vs
    → AllByRecursion (λ w. value_eq w v ≡ false) vs → AllByRecursion (λ w. list_any (value_eq w) (done ++ v ∷ []) ≡ false) vs
one_more v done [] old new = tt
one_more v done (w ∷ ws) old new =
    (list_any-append (value_eq w) done (v ∷ []) ∙ ap (λ b. b || (value_eq w v || false)) old.0 ∙ ap (λ b. b || false) new.0, one_more v done ws old.1 new.1)

distinct_new : (done vs : List Value) → AllByRecursion (λ w. list_any (value_eq w) done ≡ false) vs → is_distinct vs ≡ true → New true done vs
distinct_new done [] old h = tt
distinct_new done (v ∷ vs) old h = (
  old.0,
  distinct_new (done ++ v ∷ []) vs
      (one_more v done vs old.1
      (none_equal v vs (not_true (list_any (value_eq v) vs) (and_first (not (list_any (value_eq v) vs)) (is_distinct vs) h))))
      (and_second (not (list_any (value_eq v) vs)) (is_distinct vs) h),
)

none_done : (vs : List Value) → AllByRecursion (λ w. list_any (value_eq w) [] ≡ false) vs
none_done [] = tt
none_done (v ∷ vs) = (refl, none_done vs)

pub held_once : (unique : Bool) (vs : List Value) → cond unique (is_distinct vs) true ≡ true → New unique [] vs
held_once true vs h = distinct_new [] vs (none_done vs) h
held_once false vs h = all_new [] vs

module _ (meta : Meta) (named : IsNamed meta) where
  pub value_again : (s : Scalar) (v : Value) → fits meta s v ≡ true → value_in meta s (data_of meta s v) ≡ Some v
  value_again s v h = ap (option_and_then (value_in meta s)) (sym (read_compact (data_of meta s v) (plain_value meta s v h) (shallow meta s v)))
      ∙ written_read meta named.literals s v h

  pub values_again : (s : Scalar) (unique : Bool) (done vs : List Value) → AllByRecursion (λ v. fits meta s v ≡ true) vs → New unique done vs
      → collected (next_value meta s unique) done (map (data_of meta s) vs) ≡ Ok (done ++ vs)
  values_again s unique done [] all new = ap (λ xs. Ok xs) (sym (append-nil done))
  values_again s unique done (v ∷ vs) all new =
      ap (λ r. «then» r (λ b. collected (next_value meta s unique) (done ++ b ∷ []) (map (data_of meta s) vs)))
      (ap (λ o. new_value unique done o) (value_again s v all.0) ∙ ap (λ b. unless (not b) BadValue (Ok v)) new.0)
      ∙ values_again s unique (done ++ v ∷ []) vs all.1 new.1
      ∙ ap (λ xs. Ok xs) (append_assoc done (v ∷ []) vs)

-- ---- bounds
pub one_within : (upper : Option ℕ) (n : ℕ) → is_one upper ≡ true → is_within (suc (suc n)) upper ≡ true → ⊥
one_within None n h k = cc
one_within (Some m) n h k = let e : m ≡ 1 = nat_equality.exact m 1 h in more (subst (λ x. nat_le (suc (suc n)) x ≡ true) e k)
  where
    more : nat_le (suc (suc n)) 1 ≡ true → ⊥
    more h = grind (arith, nat_tests)
