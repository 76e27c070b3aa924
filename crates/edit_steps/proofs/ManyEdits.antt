-- Values are inserted into a many-valued attribute, removed, and shifted.
use Rattle.std.proofs.lemmas.Bool.Decides.{nat_tests}
use Rattle.std.proofs.Common.{◌≡◌, ℕ, ◌+◌, Bool, true, false, cond, List, [], ◌∷◌, ◌++◌, length, zero, suc, refl, sym, ap, ◌∙◌, arith, nat_lt, nat_eq}
use Rattle.std.specs.Prelude.{Option, None, Some, slice_get}
use Rattle.std.specs.List.{insert, remove, list_all}
use Rattle.std.specs.Option.{option_map_or}
use Rattle.std.specs.FinMap.{get}
use Rattle.finite_maps.specs.Equal.{option_eq, list_eq}
use Rattle.finite_maps.proofs.Cases.{not_false, not_so, true_false}
use Rattle.finite_maps.proofs.MapLaws.{set_here, set_twice, get-set_same}
use Rattle.finite_maps.proofs.EqualLaws.{IsEquality, and_first, and_second, option_equality, list_equality, nat_equality}
use Rattle.ecore_meta.specs.Meta.{Meta}
use Rattle.ecore_meta.specs.declared.meta.Value.{Value}
use Rattle.model_state.specs.declared.step.Step.TheVariants.{Ins, Del, Shift}
use Rattle.model_state.specs.Keys.{IdBytes}
use Rattle.model_state.specs.Lists.{entry_of, values_of, shifted}
use Rattle.model_state.specs.Typing.{value_eq, kind_of, many_fits}
use Rattle.model_state.specs.State.{State}
use Rattle.model_state.specs.Steps.{tests, Can, fold}
use Rattle.model_state.specs.Good.{Good}
use Rattle.model_state.proofs.Orders.{attr_order}
use Rattle.model_state.proofs.StepTests.{pass, value_equality}
use Rattle.model_laws.proofs.Births.{has_class}
use Rattle.model_laws.proofs.Runs.{fold_more, fold_append}
use Rattle.model_laws.proofs.Inserts.{insert-remove}
use Rattle.model_laws.proofs.Many.{whole, part, from_entry}
use Rattle.edit_steps.specs.ManyValues.{IsMany, MayInsert, with_values, insert_after, insert_made, remove_after, remove_made, shift_after, shift_made}
use Rattle.edit_steps.specs.ManyValues.{clear_after, clear_made, dels}
use Rattle.model_state.specs.Listing.{values_at}

pub value_test : IsEquality (option_eq value_eq)
value_test = option_equality value_eq value_equality

pub values_test : IsEquality (list_eq value_eq)
values_test = list_equality value_eq value_equality

-- ---- a value is inserted
pub insert_meets : (meta : Meta) (m : State) (e : IdBytes) (f : ℕ) (k : ℕ) (v : Value) → MayInsert meta m e f k v
    → fold meta m (insert_made e f k v) ≡ Some (insert_after m e f k v)
insert_meets meta m e f k v may =
    fold_more meta m (Ins e f k v) []
    (pass (tests meta m (Ins e f k v)) (
      has_class meta (get m.kind e) f may.many.0,
      (may.many.0, (may.many.1, (may.typed, (may.within, (not_false _ may.once, (may.room, (may.few, tt))))))),
    ))

-- ---- a value is removed
-- the value at a place of a list
at_place : {A : Type 0} (xs : List A) (k : ℕ) → nat_lt k (length xs) ≡ true → (x : A) × (slice_get xs k ≡ Some x)
at_place [] k h = absurd (none k h)
  where
    none : (k : ℕ) → nat_lt k 0 ≡ true → ⊥
    none k h = grind (arith, nat_tests)
at_place (x ∷ xs) zero h = (x, refl)
at_place (x ∷ xs) (suc k) h = at_place xs k (less k (length xs) h)
  where
    less : (k n : ℕ) → nat_lt (suc k) (suc n) ≡ true → nat_lt k n ≡ true
    less k n h = grind (arith, nat_tests)

-- what all items pass, one passes
passes_at : {A : Type 0} (p : A → Bool) (xs : List A) (k : ℕ) (x : A) → slice_get xs k ≡ Some x → list_all p xs ≡ true → p x ≡ true
passes_at p [] k x is all = cc
passes_at p (y ∷ ys) zero x is all = ap p (same x y (sym is)) ∙ and_first (p y) _ all
  where
    same : {A : Type 0} (x y : A) → Some x ≡ Some y → x ≡ y
    same x y e = cc
passes_at p (y ∷ ys) (suc k) x is all = passes_at p ys k x is (and_second (p y) _ all)

del_can : (meta : Meta) (m : State) (e : IdBytes) (f : ℕ) (k : ℕ) (v : Value) → IsMany meta m e f → many_fits meta (kind_of meta f) v ≡ true
    → nat_lt k (length (values_at m e f)) ≡ true → slice_get (values_at m e f) k ≡ Some v → Can meta m (Del e f k v)
del_can meta m e f k v many fits less is =
    pass (tests meta m (Del e f k v)) (
      has_class meta (get m.kind e) f many.0,
      (many.0, (many.1, (fits, (less, (ap (λ o. option_eq value_eq o (Some v)) is ∙ value_test.own (Some v), tt))))),
    )

fits_at : (meta : Meta) (m : State) → Good meta m → (e : IdBytes) (f : ℕ) (k : ℕ) (v : Value) → IsMany meta m e f
    → slice_get (values_at m e f) k ≡ Some v → many_fits meta (kind_of meta f) v ≡ true
fits_at meta m good e f k v many is =
    passes_at (many_fits meta (kind_of meta f)) (values_at m e f) k v is
    (from_entry meta (get m.kind e) f (get m.attr (e, f)) many.1 (good.attrs.typed e f)).typed

pub remove_meets : (meta : Meta) (m : State) → Good meta m → (e : IdBytes) (f : ℕ) (k : ℕ) → IsMany meta m e f
    → nat_lt k (length (values_at m e f)) ≡ true → fold meta m (remove_made m e f k) ≡ Some (remove_after m e f k)
remove_meets meta m good e f k many less =
    let found = at_place (values_at m e f) k less in
    ap (λ (o : Option Value). fold meta m (option_map_or (λ v. Del e f k v ∷ []) o [])) found.1
    ∙ fold_more meta m (Del e f k found.0) [] (del_can meta m e f k found.0 many (fits_at meta m good e f k found.0 many found.1) less found.1)

-- ---- the values of an attribute
-- those that it is given
pub values_now : (m : State) (e : IdBytes) (f : ℕ) (vs : List Value) → values_at (with_values m e f vs) e f ≡ vs
values_now m e f vs = ap values_of (get-set_same attr_order m.attr (e, f) (entry_of vs)) ∙ part vs

-- the values that an attribute has already
pub with_same : (meta : Meta) (m : State) → Good meta m → (e : IdBytes) (f : ℕ) (vs : List Value) → vs ≡ values_at m e f → with_values m e f vs ≡ m
with_same meta m good e f vs same =
    ap (λ attr. record m { attr = attr })
    (set_here attr_order m.attr (e, f) (entry_of vs) (sym (ap entry_of same ∙ whole meta (get m.kind e) f (get m.attr (e, f)) (good.attrs.typed e f))))

-- ---- a value changes its place
shifted_is : (vs : List Value) (from to : ℕ) (v : Value) → slice_get vs from ≡ Some v → shifted vs from to ≡ insert (remove vs from) to v
shifted_is vs from to v is = ap (λ o. elim o [ None ↦ vs | Some w ↦ insert (remove vs from) to w ]) is

-- taken out and put where it was
shifted_own : (vs : List Value) (from to : ℕ) → nat_lt from (length vs) ≡ true → from ≡ to → shifted vs from to ≡ vs
shifted_own vs from to less same =
    let found = at_place vs from less in
    ap (shifted vs from) (sym same) ∙ shifted_is vs from from found.0 found.1 ∙ insert-remove vs from found.0 found.1

pub shift_meets : (meta : Meta) (m : State) → Good meta m → (e : IdBytes) (f : ℕ) (from to : ℕ) → IsMany meta m e f
    → nat_lt from (length (values_at m e f)) ≡ true → nat_lt to (length (values_at m e f)) ≡ true
    → fold meta m (shift_made m e f from to) ≡ Some (shift_after m e f from to)
shift_meets meta m good e f from to many from_in to_in =
    let vs = values_at m e f in
    elim (list_eq value_eq (shifted vs from to) vs) as (λ t. list_eq value_eq (shifted vs from to) vs ≡ t
    → fold meta m (cond t [] (Shift e f from to ∷ [])) ≡ Some (shift_after m e f from to)) [
      | true ↦ λ equal. ap Some (sym (with_same meta m good e f (shifted vs from to) (values_test.exact (shifted vs from to) vs equal)))
      | false ↦ λ differ.
          let other : nat_eq from to ≡ false =
          not_so (nat_eq from to) (λ same.
          true_false (list_eq value_eq (shifted vs from to) vs)
          (ap (λ ws. list_eq value_eq ws vs) (shifted_own vs from to from_in (nat_equality.exact from to same)) ∙ values_test.own vs) differ) in
          fold_more meta m (Shift e f from to) []
          (pass (tests meta m (Shift e f from to)) (has_class meta (get m.kind e) f many.0, (many.0, (many.1, (not_false _ other, (from_in, (to_in, tt)))))))
    ] refl

-- ---- all values are removed
append_nil : {A : Type 0} (xs : List A) → xs ++ [] ≡ xs
append_nil [] = refl
append_nil (x ∷ xs) = ap (λ l. x ∷ l) (append_nil xs)

append_one : {A : Type 0} (xs : List A) (y : A) (ys : List A) → (xs ++ y ∷ []) ++ ys ≡ xs ++ y ∷ ys
append_one [] y ys = refl
append_one (x ∷ xs) y ys = ap (λ l. x ∷ l) (append_one xs y ys)

length_one : {A : Type 0} (xs : List A) (y : A) → length (xs ++ y ∷ []) ≡ length xs + 1
length_one [] y = refl
length_one (x ∷ xs) y = ap suc (length_one xs y) ∙ turned (length xs)
  where
    turned : (n : ℕ) → suc (n + 1) ≡ suc n + 1
    turned n = omega arith

last_at : {A : Type 0} (xs : List A) (y : A) → slice_get (xs ++ y ∷ []) (length xs) ≡ Some y
last_at [] y = refl
last_at (x ∷ xs) y = last_at xs y

last_goes : {A : Type 0} (xs : List A) (y : A) → remove (xs ++ y ∷ []) (length xs) ≡ xs
last_goes [] y = refl
last_goes (x ∷ xs) y = ap (λ l. x ∷ l) (last_goes xs y)

last_in : {A : Type 0} (xs : List A) (y : A) → nat_lt (length xs) (length (xs ++ y ∷ [])) ≡ true
last_in xs y = ap (nat_lt (length xs)) (length_one xs y) ∙ less (length xs)
  where
    less : (n : ℕ) → nat_lt n (n + 1) ≡ true
    less n = grind (arith, nat_tests)

module _ (meta : Meta) (m : State) (e : IdBytes) (f : ℕ) (many : IsMany meta m e f) where
  -- the values after the first ones are removed, the last first
  dels_lead : (front vs : List Value) (n : ℕ) → length front ≡ n → list_all (many_fits meta (kind_of meta f)) vs ≡ true
      → fold meta (with_values m e f (front ++ vs)) (dels e f n vs) ≡ Some (with_values m e f front)
  dels_lead front [] n long fit = ap (λ ws. Some (with_values m e f ws)) (append_nil front)
  dels_lead front (v ∷ vs) n long fit =
      let more = front ++ v ∷ [] in
      let now = values_now m e f more in
      let rest : fold meta (with_values m e f (front ++ v ∷ vs)) (dels e f (n + 1) vs) ≡ Some (with_values m e f more) =
      ap (λ ws. fold meta (with_values m e f ws) (dels e f (n + 1) vs)) (sym (append_one front v vs))
      ∙ dels_lead more vs (n + 1) (length_one front v ∙ ap (λ k. k + 1) long) (and_second (many_fits meta (kind_of meta f) v) _ fit) in
      let less : nat_lt n (length (values_at (with_values m e f more) e f)) ≡ true =
      ap (λ ws. nat_lt n (length ws)) now ∙ ap (λ k. nat_lt k (length more)) (sym long) ∙ last_in front v in
      let here : slice_get (values_at (with_values m e f more) e f) n ≡ Some v =
      ap (λ ws. slice_get ws n) now ∙ ap (slice_get more) (sym long) ∙ last_at front v in
      let left : remove (values_at (with_values m e f more) e f) n ≡ front = ap (λ ws. remove ws n) now ∙ ap (remove more) (sym long) ∙ last_goes front v in
      fold_append meta (with_values m e f (front ++ v ∷ vs)) (with_values m e f more) (dels e f (n + 1) vs) (Del e f n v ∷ []) rest
      ∙ fold_more meta (with_values m e f more) (Del e f n v) []
      (del_can meta (with_values m e f more) e f n v many (and_first (many_fits meta (kind_of meta f) v) _ fit) less here)
      ∙ ap (λ ws. Some (with_values (with_values m e f more) e f ws)) left
      ∙ ap (λ attr. Some (record m { attr = attr })) (set_twice attr_order m.attr (e, f) (entry_of more) (entry_of front))

pub clear_meets : (meta : Meta) (m : State) → Good meta m → (e : IdBytes) (f : ℕ) → IsMany meta m e f
    → fold meta m (clear_made m e f) ≡ Some (clear_after m e f)
clear_meets meta m good e f many =
    ap (λ n. fold meta n (clear_made m e f)) (sym (with_same meta m good e f (values_at m e f) refl))
    ∙ dels_lead meta m e f many [] (values_at m e f) 0 refl (from_entry meta (get m.kind e) f (get m.attr (e, f)) many.1 (good.attrs.typed e f)).typed
