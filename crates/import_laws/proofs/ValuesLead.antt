-- The elements of a document get their values.
use Rattle.std.proofs.lemmas.Bool.Decides.{nat_tests}
use Rattle.std.proofs.Common.{◌≡◌, ℕ, suc, ◌+◌, ◌<◌, ◌≤◌, Bool, true, false, cond, not, ◌&&◌, ◌||◌, List, [], ◌∷◌, ◌++◌, map, length, drop, refl, sym}
use Rattle.std.proofs.Common.{ap, subst, ◌∙◌, arith, append_assoc, append-nil, length-append, nat_eq, nat_le, nat_lt}
use Rattle.std.specs.Prelude.{Option, None, Some, is_some, slice_get}
use Rattle.std.specs.List.{insert, list_all, list_any}
use Rattle.std.specs.Ordering.{eq_by_cmp}
use Rattle.std.specs.FinMap.{get}
use Rattle.finite_maps.specs.Equal.{text_eq, option_eq, list_eq}
use Rattle.finite_maps.specs.Maps.{set, is_below, is_within}
use Rattle.finite_maps.proofs.Cases.{not_so, not_true, true_false, or_first, or_second}
use Rattle.finite_maps.proofs.EqualLaws.{and_first, and_second, apart, nat_equality, text_equality}
use Rattle.finite_maps.proofs.MapLaws.{get-set_other, get-set_same, same_key, set_here, set_twice}
use Rattle.ecore_meta.specs.Meta.{Meta, has_feature}
use Rattle.ecore_meta.specs.declared.meta.Kind.{Kind}
use Rattle.ecore_meta.specs.declared.meta.Kind.TheVariants.{Attr, AttrMany, Bounded, Free, Contains, Container, Skip}
use Rattle.ecore_meta.specs.declared.meta.Scalar.{Scalar}
use Rattle.ecore_meta.specs.declared.meta.Value.{Value}
use Rattle.model_state.specs.declared.step.Step.TheVariants.{Put, Ins}
use Rattle.model_state.specs.Good.{ValuesOk, is_distinct}
use Rattle.model_state.specs.Keys.{IdBytes, AttrKey, attr_cmp}
use Rattle.model_state.specs.Lists.{entry_of, values_of}
use Rattle.model_state.specs.State.{State}
use Rattle.model_state.specs.Steps.{Can, class_has, fold, single, tests}
use Rattle.model_state.specs.Typing.{attr_fits, fits, is_attr, is_default, is_many, is_unique, kind_of, many_fits, upper_of, value_eq}
use Rattle.model_state.proofs.Orders.{attr_order}
use Rattle.model_state.proofs.StepTests.{pass, value_equality}
use Rattle.model_laws.proofs.Many.{part}
use Rattle.model_laws.proofs.Runs.{fold_append, fold_more}
use Rattle.model_documents.specs.declared.doc.DocAttr.{DocAttr}
use Rattle.model_documents.specs.declared.doc.DocRow.{DocRow}
use Rattle.model_documents.specs.Fits.{AttrFits, DocumentFits, numbers_differ}
use Rattle.import_laws.specs.After.{Attrs, attrs_from, attrs_set}
use Rattle.import_laws.specs.Laws as laws
use Rattle.import_laws.specs.Names.{name_at}
use Rattle.import_laws.specs.Values.{attr_made, attrs_made, inserts_made, put_made, values_from}
use Rattle.import_laws.proofs.Indexed.{differ_at, drop_at, drop_less, drop_next}
use Rattle.model_state.specs.Ranks.{most_entries}

-- ---- a value among those of a list
module _ (p : Value → Bool) where
  all_middle : (done : List Value) (v : Value) (vs : List Value) → list_all p (done ++ (v ∷ vs)) ≡ true → p v ≡ true
  all_middle [] v vs h = and_first (p v) _ h
  all_middle (d ∷ done) v vs h = all_middle done v vs (and_second (p d) _ h)

differ_middle : (done : List Value) (v : Value) (vs : List Value) → is_distinct (done ++ (v ∷ vs)) ≡ true → list_any (value_eq v) done ≡ false
differ_middle [] v vs h = refl
differ_middle (d ∷ done) v vs h =
    let here : value_eq d v ≡ false = not_there done (not_true _ (and_first (not (list_any (value_eq d) (done ++ (v ∷ vs)))) _ h)) in
    ap (λ b. b || list_any (value_eq v) done) (apart value_eq value_equality d v here)
    ∙ differ_middle done v vs (and_second (not (list_any (value_eq d) (done ++ (v ∷ vs)))) _ h)
  where
    not_there : (ds : List Value) → list_any (value_eq d) (ds ++ (v ∷ vs)) ≡ false → value_eq d v ≡ false
    not_there [] g = or_first (value_eq d v) _ g
    not_there (x ∷ ds) g = not_there ds (or_second (value_eq d x) _ g)

once : (unique : Bool) (done : List Value) (v : Value) (vs : List Value) → cond unique (is_distinct (done ++ (v ∷ vs))) true ≡ true
    → unique && list_any (value_eq v) done ≡ false
once true done v vs h = differ_middle done v vs h
once false done v vs h = refl

longer : (done : List Value) (v : Value) (vs : List Value) → length done + 1 ≤ length (done ++ (v ∷ vs))
longer done v vs = let l = length-append done (v ∷ vs) in omega (arith, l)

pub room : (n k : ℕ) (upper : Option ℕ) → n + 1 ≤ k → is_within k upper ≡ true → is_below n upper ≡ true
room n k None less h = refl
room n k (Some u) less h = grind (arith, nat_tests)

insert_last : (done : List Value) (v : Value) → insert done (length done) v ≡ done ++ (v ∷ [])
insert_last [] v = refl
insert_last (d ∷ done) v = ap (λ vs. d ∷ vs) (insert_last done v)

own_le : (n : ℕ) → nat_le n n ≡ true
own_le n = grind (arith, nat_tests)

is_less : (n k : ℕ) → n < k → nat_lt n k ≡ true
is_less n k h = grind (arith, nat_tests)

keys_apart : (e x : IdBytes) (f g : ℕ) → text_eq e x ≡ false → eq_by_cmp attr_cmp (e, f) (x, g) ≡ false
keys_apart e x f g differ = not_so (eq_by_cmp attr_cmp (e, f) (x, g)) (λ same.
    true_false (text_eq e x) (ap (λ (q : AttrKey). text_eq e q.0) (sym (same_key attr_order (e, f) (x, g) same)) ∙ text_equality.own e) differ)

features_apart : (e : IdBytes) (f g : ℕ) → nat_eq f g ≡ false → eq_by_cmp attr_cmp (e, f) (e, g) ≡ false
features_apart e f g differ = not_so (eq_by_cmp attr_cmp (e, f) (e, g)) (λ same.
    true_false (nat_eq f g) (ap (λ (q : AttrKey). nat_eq f q.1) (sym (same_key attr_order (e, f) (e, g) same)) ∙ nat_equality.own f) differ)

module _ (meta : Meta) (s : State) where
  abbrev pub valued : Attrs → State
  valued attr = record s { attr = attr }

  -- ---- an attribute of an element that has not been set
  module _ (e : IdBytes) (c : ℕ) (f : ℕ) (kind : get s.kind e ≡ Some c) (has : has_feature meta c f ≡ true) where
    live : is_some (get s.kind e) ≡ true
    live = ap is_some kind

    class_is : class_has meta (get s.kind e) f ≡ true
    class_is = ap (λ o. class_has meta o f) kind ∙ has

    insert_can : (scalar : Scalar) (unique : Bool) → kind_of meta f ≡ AttrMany scalar unique
        → (done : List Value) (v : Value) (vs : List Value) (attr : Attrs) → get attr (e, f) ≡ entry_of done
        → list_all (fits meta scalar) (done ++ (v ∷ vs)) ≡ true → is_within (length (done ++ (v ∷ vs))) (upper_of meta f) ≡ true
        → length (done ++ (v ∷ vs)) ≤ most_entries → cond unique (is_distinct (done ++ (v ∷ vs))) true ≡ true
        → Can meta (valued attr) (Ins e f (length done) v)
    insert_can scalar unique is done v vs attr entry typed within few distinct =
        let held : values_of (get attr (e, f)) ≡ done = ap values_of entry ∙ part done in
        let more = longer done v vs in
        let less : length done < most_entries = omega (arith, more, few) in
        pass (tests meta (valued attr) (Ins e f (length done) v)) (
          live,
          (
            class_is,
            (
              ap is_many is,
              (
                ap (λ k. many_fits meta k v) is ∙ all_middle (fits meta scalar) done v vs typed,
                (
                  ap (λ ws. nat_le (length done) (length ws)) held ∙ own_le (length done),
                  (
                    ap (λ k. not (is_unique k && list_any (value_eq v) (values_of (get attr (e, f))))) is
                        ∙ ap (λ ws. not (unique && list_any (value_eq v) ws)) held ∙ ap not (once unique done v vs distinct),
                    (
                      ap (λ ws. is_below (length ws) (upper_of meta f)) held ∙ room (length done) (length (done ++ (v ∷ vs))) (upper_of meta f) more within,
                      (ap (λ ws. nat_lt (length ws) most_entries) held ∙ is_less (length done) most_entries less, tt),
                    ),
                  ),
                ),
              ),
            ),
          ),
        )

    inserts_lead : (scalar : Scalar) (unique : Bool) → kind_of meta f ≡ AttrMany scalar unique → (vs done : List Value) (attr : Attrs)
        → get attr (e, f) ≡ entry_of done
        → list_all (fits meta scalar) (done ++ vs) ≡ true → is_within (length (done ++ vs)) (upper_of meta f) ≡ true
        → length (done ++ vs) ≤ most_entries → cond unique (is_distinct (done ++ vs)) true ≡ true
        → fold meta (valued attr) (inserts_made e f (length done) vs) ≡ Some (valued (set attr (e, f) (entry_of (done ++ vs))))
    inserts_lead scalar unique is [] done attr entry typed within few distinct =
        ap (λ a. Some (valued a)) (sym (set_here attr_order attr (e, f) (entry_of (done ++ [])) (entry ∙ ap entry_of (sym (append-nil done)))))
    inserts_lead scalar unique is (v ∷ vs) done attr entry typed within few distinct =
        let next = done ++ (v ∷ []) in
        let moved : done ++ (v ∷ vs) ≡ next ++ vs = sym (append_assoc done (v ∷ []) vs) in
        let attr' = set attr (e, f) (entry_of next) in
        let held : values_of (get attr (e, f)) ≡ done = ap values_of entry ∙ part done in
        let put : set attr (e, f) (entry_of (insert (values_of (get attr (e, f))) (length done) v)) ≡ attr' =
        ap (λ ws. set attr (e, f) (entry_of (insert ws (length done) v))) held ∙ ap (λ ws. set attr (e, f) (entry_of ws)) (insert_last done v) in
        let size = length-append done (v ∷ []) in
        let count : length done + 1 ≡ length next = counted (length done) (length next) size in
        fold_more meta (valued attr) (Ins e f (length done) v) (inserts_made e f (length done + 1) vs)
        (insert_can scalar unique is done v vs attr entry typed within few distinct)
        ∙ ap (λ a. fold meta (valued a) (inserts_made e f (length done + 1) vs)) put
        ∙ ap (λ n. fold meta (valued attr') (inserts_made e f n vs)) count
        ∙ inserts_lead scalar unique is vs next attr' (get-set_same attr_order attr (e, f) (entry_of next))
        (subst (λ ws. list_all (fits meta scalar) ws ≡ true) moved typed) (subst (λ ws. is_within (length ws) (upper_of meta f) ≡ true) moved within)
        (subst (λ ws. length ws ≤ most_entries) moved few) (subst (λ ws. cond unique (is_distinct ws) true ≡ true) moved distinct)
        ∙ ap (λ a. Some (valued a))
        (set_twice attr_order attr (e, f) (entry_of next) (entry_of (next ++ vs)) ∙ ap (λ ws. set attr (e, f) (entry_of ws)) (sym moved))
      where
        counted : (n k : ℕ) → k ≡ n + length (v ∷ []) → n + 1 ≡ k
        counted n k h = omega arith

    put_can : (scalar : Scalar) (default : Option Value) → kind_of meta f ≡ Attr scalar default → (v : Value) (attr : Attrs) → get attr (e, f) ≡ None
        → fits meta scalar v ≡ true → is_default (Attr scalar default) v ≡ false
        → Can meta (valued attr) (Put e f None (Some v))
    put_can scalar default is v attr none typed differs =
        pass (tests meta (valued attr) (Put e f None (Some v))) (
          live,
          (
            class_is,
            (
              ap is_attr is,
              (
                refl,
                (
                  ap (λ k. attr_fits meta k v) is ∙ typed,
                  (
                    refl,
                    (
                      refl,
                      (
                        ap (λ k. not (is_default k v)) is ∙ ap not differs,
                        (ap (λ o. option_eq (list_eq value_eq) o (single None)) none, tt),
                      ),
                    ),
                  ),
                ),
              ),
            ),
          ),
        )

    by_kind : (k : Kind) → kind_of meta f ≡ k → (vs : List Value) → ValuesOk meta k (upper_of meta f) vs → (attr : Attrs) → get attr (e, f) ≡ None
        → fold meta (valued attr) (cond (is_attr k) (put_made e f vs) (inserts_made e f 0 vs)) ≡ Some (valued (set attr (e, f) (Some vs)))
    by_kind (Attr scalar default) is [] ok attr none = absurd ok
    by_kind (Attr scalar default) is (v ∷ []) ok attr none =
        fold_more meta (valued attr) (Put e f None (Some v)) [] (put_can scalar default is v attr none ok.0 ok.1)
    by_kind (Attr scalar default) is (v ∷ w ∷ ws) ok attr none = absurd ok
    by_kind (AttrMany scalar unique) is [] ok attr none = absurd ok
    by_kind (AttrMany scalar unique) is (v ∷ vs) ok attr none = inserts_lead scalar unique is (v ∷ vs) [] attr none ok.0 ok.1 ok.2 ok.3
    by_kind (Bounded t o) is vs ok attr none = absurd ok
    by_kind (Free t o) is vs ok attr none = absurd ok
    by_kind (Contains t o) is vs ok attr none = absurd ok
    by_kind (Container t o) is vs ok attr none = absurd ok
    by_kind Skip is vs ok attr none = absurd ok

  -- ---- the attributes of an element
  attrs_lead : (e : IdBytes) (c : ℕ) → get s.kind e ≡ Some c → (attrs : List DocAttr) (attr : Attrs)
      → numbers_differ (map (λ (a : DocAttr). a.feature) attrs) ≡ true → ((k : ℕ) (a : DocAttr) → slice_get attrs k ≡ Some a → AttrFits meta c a)
      → ((f : ℕ) → list_any (nat_eq f) (map (λ (a : DocAttr). a.feature) attrs) ≡ true → get attr (e, f) ≡ None)
      → fold meta (valued attr) (attrs_made meta e attrs) ≡ Some (valued (attrs_set e attr attrs))
  attrs_lead e c kind [] attr differ ok none = refl
  attrs_lead e c kind (a ∷ attrs) attr differ ok none =
      let f = a.feature in
      let fs = map (λ (a : DocAttr). a.feature) attrs in
      let fit : AttrFits meta c a = ok 0 a refl in
      let attr' = set attr (e, f) (Some a.values) in
      let away : list_any (nat_eq f) fs ≡ false = not_true (list_any (nat_eq f) fs) (and_first (not (list_any (nat_eq f) fs)) _ differ) in
      let first : fold meta (valued attr) (attr_made meta e a) ≡ Some (valued attr') =
      by_kind e c f kind fit.0 (kind_of meta f) refl a.values fit.1 attr (none f (ap (λ b. b || list_any (nat_eq f) fs) (nat_equality.own f))) in
      fold_append meta (valued attr) (valued attr') (attr_made meta e a) (attrs_made meta e attrs) first
      ∙ attrs_lead e c kind attrs attr' (and_second (not (list_any (nat_eq f) fs)) _ differ) (λ k. ok (suc k))
      (λ g here.
      let other : nat_eq g f ≡ false =
      not_so (nat_eq g f) (λ same.
      true_false (list_any (nat_eq g) fs) here (ap (λ n. list_any (nat_eq n) fs) (nat_equality.exact g f same) ∙ away)) in
      get-set_other attr_order attr (e, f) (Some a.values) (e, g) (features_apart e g f other) ∙ none g (ap (λ b. b || list_any (nat_eq g) fs) other ∙ here))

  attrs_other : (e x : IdBytes) (g : ℕ) → text_eq x e ≡ false → (attrs : List DocAttr) (attr : Attrs) → get (attrs_set e attr attrs) (x, g) ≡ get attr (x, g)
  attrs_other e x g differ [] attr = refl
  attrs_other e x g differ (a ∷ attrs) attr =
      attrs_other e x g differ attrs (set attr (e, a.feature) (Some a.values))
      ∙ get-set_other attr_order attr (e, a.feature) (Some a.values) (x, g) (keys_apart x e g a.feature differ)

  -- ---- those of all rows
  module _ (names : List IdBytes) (rows : List DocRow) (fit : DocumentFits meta rows) (as_many : length names ≡ length rows)
      (differ : laws.ids_differ names ≡ true)
      (kinds : (i : ℕ) (r : DocRow) → slice_get rows i ≡ Some r → get s.kind (name_at names i) ≡ Some r.class) where
    pub values_lead : (rest : List DocRow) (n : ℕ) (attr : Attrs) → drop n rows ≡ rest
        → ((i f : ℕ) → n ≤ i → i < length names → get attr (name_at names i, f) ≡ None)
        → fold meta (valued attr) (values_from meta names n rest) ≡ Some (valued (attrs_from names n attr rest))
    values_lead [] n attr left free = refl
    values_lead (r ∷ rest) n attr left free =
        let e = name_at names n in
        let here = drop_at n rows r rest left in
        let less = drop_less n rows r rest left in
        let within : n < length names = omega (arith, as_many, less) in
        let row = fit.each n r here in
        let first = attrs_lead e r.class (kinds n r here) r.attrs attr row.attrs_apart row.attrs (λ f _. free n f (omega arith) within) in
        fold_append meta (valued attr) (valued (attrs_set e attr r.attrs)) (attrs_made meta e r.attrs) (values_from meta names (suc n) rest) first
        ∙ values_lead rest (suc n) (attrs_set e attr r.attrs) (drop_next n rows r rest left)
        (λ i f behind small.
        let other : i ≡ n → ⊥ = λ same. later i n behind same in
        attrs_other e (name_at names i) f (differ_at names differ i n small within other) r.attrs attr ∙ free i f (omega (arith, behind)) small)
      where
        later : (i n : ℕ) → suc n ≤ i → i ≡ n → ⊥
        later i n h same = omega arith
