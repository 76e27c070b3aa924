-- No containment holds more rows than its bound.
use Rattle.std.proofs.lemmas.Bool.Decides.{nat_tests}
use Rattle.std.proofs.lemmas.List.Sums.{sum_by-append}
use Rattle.std.proofs.lemmas.Slice.Eq.{bytes_eq-Decides}
use Rattle.std.proofs.Common.{◌≡◌, ℕ, ◌+◌, ◌<◌, ◌≤◌, suc, Bool, true, false, cond, List, [], ◌∷◌, ◌++◌, length, length-append, nat_eq, nat_lt, refl}
use Rattle.std.proofs.Common.{sym, ap, ap₂, subst, ◌∙◌, append-nil, ◌⊎◌, inl, inr, arith}
use Rattle.std.specs.Prelude.{Option, None, Some}
use Rattle.std.specs.List.{count_by}
use Rattle.finite_maps.specs.Equal.{option_eq}
use Rattle.finite_maps.proofs.Cases.{not_so, true_false}
use Rattle.finite_maps.proofs.EqualLaws.{IsEquality, and_both, nat_equality, option_equality}
use Rattle.ecore_meta.specs.Meta.{Meta, feature_named, name_at}
use Rattle.ecore_meta.specs.declared.meta.Kind.{Kind}
use Rattle.ecore_meta.specs.declared.meta.Kind.TheVariants.{Contains}
use Rattle.ecore_meta.specs.Names.{Name}
use Rattle.model_state.specs.Typing.{child_upper, is_containment, kind_of, upper_of}
use Rattle.model_documents.specs.declared.doc.DocParent.{DocParent}
use Rattle.model_documents.specs.declared.draft.ElementDraft.{ElementDraft}
use Rattle.finite_maps.specs.Maps.{is_within}
use Rattle.model_documents.specs.Laws.{parent_before}
use Rattle.model_documents.specs.Parts.{Part, joined}
use Rattle.model_documents.specs.Places.{parent_eq}
use Rattle.model_documents.proofs.Finding.{parent_exact}
use Rattle.model_documents.proofs.Growing.{Kept, named_has}
use Rattle.model_documents.proofs.Keys.{Above, above_more, not_own}
use Rattle.model_documents.proofs.ValuesFit.{Plain}

parent_own : (p : DocParent) → parent_eq p p ≡ true
parent_own p = and_both (nat_eq p.row p.row) (nat_eq p.feature p.feature) (nat_equality.own p.row) (nat_equality.own p.feature)

parent_equality : IsEquality parent_eq
parent_equality = record { exact = parent_exact; own = parent_own }

place_equality : IsEquality (option_eq parent_eq)
place_equality = option_equality parent_eq parent_equality

-- how many of the rows stand at the place
abbrev pub count : DocParent → List ElementDraft → ℕ
count q rows = count_by (λ (r : ElementDraft). option_eq parent_eq r.parent (Some q)) rows

pub count_append : (q : DocParent) (xs ys : List ElementDraft) → count q (xs ++ ys) ≡ count q xs + count q ys
count_append q xs ys = sum_by-append (λ (r : ElementDraft). cond (option_eq parent_eq r.parent (Some q)) 1 0) xs ys

count_first : (q : DocParent) (r : ElementDraft) (rows : List ElementDraft) (b : Bool) → option_eq parent_eq r.parent (Some q) ≡ b
    → count q (r ∷ rows) ≡ cond b 1 0 + count q rows
count_first q r rows b is =
    count_append q (r ∷ []) rows ∙ ap (λ n. n + count q rows) (alone (cond (option_eq parent_eq r.parent (Some q)) 1 0) ∙ ap (λ c. cond c 1 0) is)
  where
    alone : (n : ℕ) → 0 + n ≡ n
    alone n = omega arith

count_other : (q : DocParent) (r : ElementDraft) (rows : List ElementDraft) → (r.parent ≡ Some q → ⊥) → count q (r ∷ rows) ≡ count q rows
count_other q r rows other =
    count_first q r rows false (not_so (option_eq parent_eq r.parent (Some q)) (λ h. other (place_equality.exact r.parent (Some q) h)))
    ∙ none (count q rows)
  where
    none : (n : ℕ) → 0 + n ≡ n
    none n = omega arith

count_this : (q : DocParent) (r : ElementDraft) (rows : List ElementDraft) → r.parent ≡ Some q → count q rows ≡ 0 → count q (r ∷ rows) ≡ 1
count_this q r rows is none = count_first q r rows true (ap (λ p. option_eq parent_eq p (Some q)) is ∙ place_equality.own (Some q)) ∙ ap (λ n. 1 + n) none

both_none : (a b : ℕ) → a ≡ 0 → b ≡ 0 → a + b ≡ 0
both_none a b h g = omega (arith, h, g)

first_none : (a b c : ℕ) → a ≡ 0 → b ≡ c → a + b ≡ c
first_none a b c h g = omega (arith, h, g)

second_none : (a b c : ℕ) → a ≡ c → b ≡ 0 → a + b ≡ c
second_none a b c h g = omega (arith, h, g)

before_less : (n : ℕ) (p : Option DocParent) (q : DocParent) → parent_before n p ≡ true → p ≡ Some q → q.row < n
before_less n p q h e = less q.row n (sym (ap (parent_before n) e) ∙ h)
  where
    less : (m n : ℕ) → nat_lt m n ≡ true → m < n
    less m n h = grind (arith, nat_tests)

split : (m n : ℕ) → (m < n) ⊎ (n ≤ m)
split m n = by_test (nat_lt m n) refl
  where
    by_test : (b : Bool) → nat_lt m n ≡ b → (m < n) ⊎ (n ≤ m)
    by_test true is = inl (grind (arith, nat_tests))
    by_test false is = inr (grind (arith, nat_tests))

none_within : (upper : Option ℕ) → is_within 0 upper ≡ true
none_within None = refl
none_within (Some u) = grind (arith, nat_tests)

-- rows from the number n on, so many of them at the place p before them
pub record Rows (meta : Meta) (n : ℕ) (p : Option DocParent) (t : Option ℕ) (k : ℕ) (rows : List ElementDraft) : Type 0 where
  pub tops : (q : DocParent) → p ≡ Some q → count q rows ≡ k
  pub others : (q : DocParent) → q.row < n → (p ≡ Some q → ⊥) → count q rows ≡ 0
  pub within : (q : DocParent) → n ≤ q.row → is_within (count q rows) (child_upper meta q.feature) ≡ true
  pub beyond : (q : DocParent) → n + length rows ≤ q.row → count q rows ≡ 0

-- the rows that the keys of an object gave: none in features whose names are above the last key
pub record Keys (meta : Meta) (c own : ℕ) (last : Option Name) (part : Part) : Type 0 where
  pub outside : (q : DocParent) → q.row < own → count q part.rows ≡ 0
  pub within : (q : DocParent) → own ≤ q.row → is_within (count q part.rows) (child_upper meta q.feature) ≡ true
  pub beyond : (q : DocParent) → suc own + length part.rows ≤ q.row → count q part.rows ≡ 0
  pub unseen : (f : ℕ) → Above last (name_at meta.features f) → count (record { row = own; feature = f }) part.rows ≡ 0

module _ (meta : Meta) where
  below_more : (m n l : ℕ) → m < n → m < n + l
  below_more m n l h = omega (arith, h)

  other_row : (p : Option DocParent) (q : DocParent) (n : ℕ) → parent_before n p ≡ true → n ≤ q.row → p ≡ Some q → ⊥
  other_row p q n before le is = let less = before_less n p q before is in absurd (omega (arith, less, le))

  -- rows after others
  rows_more : (n : ℕ) (p : Option DocParent) (t : Option ℕ) (k l : ℕ) (xs ys : List ElementDraft) → parent_before n p ≡ true → Rows meta n p t k xs
      → Rows meta (n + length xs) p t l ys → Rows meta n p t (k + l) (xs ++ ys)
  rows_more n p t k l xs ys before h g = record {
    tops = λ q is. count_append q xs ys ∙ ap₂ (λ a b. a + b) (h.tops q is) (g.tops q is);
    others = λ q less other. count_append q xs ys
        ∙ both_none (count q xs) (count q ys) (h.others q less other) (g.others q (below_more q.row n (length xs) less) other);
    within = λ q le.
        ap (λ m. is_within m (child_upper meta q.feature)) (count_append q xs ys)
        ∙ elim (split q.row (n + length xs)) [
          | inl less ↦ ap (λ m. is_within m (child_upper meta q.feature))
              (second_none (count q xs) (count q ys) (count q xs) refl (g.others q less (other_row p q n before le))) ∙ h.within q le
          | inr more ↦ ap (λ m. is_within m (child_upper meta q.feature)) (first_none (count q xs) (count q ys) (count q ys) (h.beyond q more) refl)
              ∙ g.within q more
        ];
    beyond = λ q le. count_append q xs ys
        ∙ both_none (count q xs) (count q ys) (h.beyond q (shorter n (length xs) (length ys) q.row (long n xs ys q.row le)))
        (g.beyond q (long n xs ys q.row le));
  }
    where
      long : (n : ℕ) (xs ys : List ElementDraft) (m : ℕ) → n + length (xs ++ ys) ≤ m → n + length xs + length ys ≤ m
      long n xs ys m le = omega (arith, le, length-append xs ys)

      shorter : (n a b m : ℕ) → n + a + b ≤ m → n + a ≤ m
      shorter n a b m le = omega (arith, le)

  rows_own : (n : ℕ) (p : Option DocParent) (t : Option ℕ) (r : ElementDraft) (c : ℕ) (last : Option Name) (part : Part) → r.parent ≡ p
      → parent_before n p ≡ true → Keys meta c n last part → Rows meta n p t 1 (r ∷ part.rows)
  rows_own n p t r c last part is before so = record {
    tops = λ q e. count_this q r part.rows (is ∙ e) (so.outside q (before_less n p q before e));
    others = λ q less other. count_other q r part.rows (λ e. other (sym is ∙ e)) ∙ so.outside q less;
    within = λ q le. ap (λ m. is_within m (child_upper meta q.feature)) (count_other q r part.rows (λ e. other_row p q n before le (sym is ∙ e)))
        ∙ so.within q le;
    beyond = λ q le. count_other q r part.rows (λ e. other_row p q n before (from n (length part.rows) q.row le) (sym is ∙ e))
        ∙ so.beyond q (shifted n (length part.rows) q.row le);
  }
    where
      from : (n l m : ℕ) → n + suc l ≤ m → n ≤ m
      from n l m le = omega (arith, le)

      shifted : (n l m : ℕ) → n + suc l ≤ m → suc n + l ≤ m
      shifted n l m le = omega (arith, le)

  -- the bound of a containment is that of its children
  contains_upper : (f target : ℕ) (opposite : Option ℕ) (n : ℕ) → kind_of meta f ≡ Contains target opposite → is_within n (upper_of meta f) ≡ true
      → is_within n (child_upper meta f) ≡ true
  contains_upper f target opposite n kind within =
      ap (λ (k : Kind). is_within n (cond (is_containment k) (upper_of meta f) None)) kind ∙ within

  named_is : (c : ℕ) (k : Name) (f : ℕ) → feature_named meta c k ≡ Some f → name_at meta.features f ≡ k
  named_is c k f named = (bytes_eq-Decides (name_at meta.features f) k).0 (named_has meta c k f named).1

  module _ (c own : ℕ) (last : Option Name) (k : Name) (part : Part) (f target : ℕ) (opposite : Option ℕ) (n : ℕ) (rows : List ElementDraft)
      (above : Above last k) (so : Keys meta c own last part) (named : feature_named meta c k ≡ Some f)
      (kind : kind_of meta f ≡ Contains target opposite) (within : is_within n (upper_of meta f) ≡ true)
      (held : Rows meta (suc own + length part.rows) (Some (record { row = own; feature = f })) (Some target) n rows) where
    abbrev here : DocParent
    here = record { row = own; feature = f }

    first : ℕ
    first = suc own + length part.rows

    at_row : (q : DocParent) → Some here ≡ Some q → own ≡ q.row
    at_row q e = let same : here ≡ q = cc in ap (λ (p : DocParent). p.row) same

    at_feature : (q : DocParent) → Some here ≡ Some q → f ≡ q.feature
    at_feature q e = let same : here ≡ q = cc in ap (λ (p : DocParent). p.feature) same

    less_first : (m : ℕ) → m ≤ own → m < suc own + length part.rows
    less_first m h = omega (arith, h)

    counted : (q : DocParent) → count q (part.rows ++ rows) ≡ count q part.rows + count q rows
    counted q = count_append q part.rows rows

    within_at : (q : DocParent) → own ≤ q.row → (b : Bool) → option_eq parent_eq (Some here) (Some q) ≡ b
        → is_within (count q (part.rows ++ rows)) (child_upper meta q.feature) ≡ true
    within_at q le true is =
        let e : Some here ≡ Some q = place_equality.exact (Some here) (Some q) is in
        let same : here ≡ q = cc in
        let none : count here part.rows ≡ 0 = so.unseen f (subst (Above last) (sym (named_is c k f named)) above) in
        subst (λ (p : DocParent). is_within (count p (part.rows ++ rows)) (child_upper meta p.feature) ≡ true) same
        (ap (λ m. is_within m (child_upper meta f)) (counted here ∙ first_none (count here part.rows) (count here rows) n none (held.tops here refl))
        ∙ contains_upper f target opposite n kind within)
    within_at q le false is =
        let other : Some here ≡ Some q
        → ⊥ = λ e. true_false (option_eq parent_eq (Some here) (Some q))
        (ap (λ p. option_eq parent_eq (Some here) p) (sym e) ∙ place_equality.own (Some here)) is in
        ap (λ m. is_within m (child_upper meta q.feature)) (counted q)
        ∙ elim (split q.row (suc own + length part.rows)) [
          | inl less ↦ ap (λ m. is_within m (child_upper meta q.feature))
              (second_none (count q part.rows) (count q rows) (count q part.rows) refl (held.others q less other)) ∙ so.within q le
          | inr more ↦ ap (λ m. is_within m (child_upper meta q.feature))
              (first_none (count q part.rows) (count q rows) (count q rows) (so.beyond q more) refl) ∙ held.within q more
        ]

    keys_hold : Keys meta c own (Some k) (record part { rows = part.rows ++ rows })
    keys_hold = record {
      outside = λ q less.
          counted q ∙ both_none (count q part.rows) (count q rows) (so.outside q less)
          (held.others q (less_first q.row (up q.row own less)) (λ e. not_less own q.row (at_row q e) less));
      within = λ q le. within_at q le (option_eq parent_eq (Some here) (Some q)) refl;
      beyond = λ q le. counted q
          ∙ both_none (count q part.rows) (count q rows) (so.beyond q (shorter (length part.rows) q.row le)) (held.beyond q (longer q.row le));
      unseen = λ g higher.
          let q : DocParent = record { row = own; feature = g } in
          counted q ∙ both_none (count q part.rows) (count q rows) (so.unseen g (above_more last k (name_at meta.features g) above higher))
          (held.others q (less_first own (itself own))
          (λ e. not_own k (subst (Above (Some k)) (ap (name_at meta.features) (sym (at_feature q e)) ∙ named_is c k f named) higher)));
    }
      where
        up : (m n : ℕ) → m < n → m ≤ n
        up m n h = omega (arith, h)

        itself : (n : ℕ) → n ≤ n
        itself n = omega arith

        not_less : (m n : ℕ) → m ≡ n → n < m → ⊥
        not_less m n e h = omega (arith, e, h)

        longer : (m : ℕ) → suc own + length (part.rows ++ rows) ≤ m → suc own + length part.rows + length rows ≤ m
        longer m le = omega (arith, le, length-append part.rows rows)

        shorter : (l m : ℕ) → suc own + length (part.rows ++ rows) ≤ m → suc own + length part.rows ≤ m
        shorter l m le = omega (arith, le, length-append part.rows rows)

  keys_bare : (c own : ℕ) (last : Option Name) (k : Name) (part one : Part) → Above last k → Keys meta c own last part → Plain meta c one
      → (rows : List ElementDraft) → rows ≡ part.rows → (all : Part) → all.rows ≡ rows → Keys meta c own (Some k) all
  keys_bare c own last k part one above so plain rows same all is =
      let e : part.rows ≡ all.rows = sym same ∙ sym is in
      record {
        outside = λ q less. ap (count q) (sym e) ∙ so.outside q less;
        within = λ q le. ap (λ rs. is_within (count q rs) (child_upper meta q.feature)) (sym e) ∙ so.within q le;
        beyond = λ q le. ap (count q) (sym e) ∙ so.beyond q (subst (λ (rs : List ElementDraft). suc own + length rs ≤ q.row) (sym e) le);
        unseen = λ f higher. ap (count (record { row = own; feature = f })) (sym e) ∙ so.unseen f (above_more last k (name_at meta.features f) above higher);
      }

  pub kept : Kept meta (Rows meta) (Keys meta)
  kept = record {
    none = λ n p t. record {
      tops = λ q e. refl;
      others = λ q less other. refl;
      within = λ q le. none_within (child_upper meta q.feature);
      beyond =
          λ q le. refl;
    };
    more = λ n p t k l xs ys before h g. rows_more n p t k l xs ys before h g;
    begins = λ c own. record {
      outside = λ q less. refl;
      within = λ q le. none_within (child_upper meta q.feature);
      beyond = λ q le. refl;
      unseen =
          λ f higher. refl;
    };
    bare = λ c own last k part one above so plain.
        keys_bare c own last k part one above so plain (part.rows ++ one.rows)
        (ap (λ (rs : List ElementDraft). part.rows ++ rs) plain.none ∙ append-nil part.rows) (joined part one) refl;
    holds = λ c own last k part f target opposite count rows above so named kind within held.
        let made = keys_hold c own last k part f target opposite count rows above so named kind within held in
        record { outside = made.outside; within = made.within; beyond = made.beyond; unseen = made.unseen };
    own = λ n p t id c last part before concrete may so.
        rows_own n p t (record { id = id; class = c; parent = p; attrs = part.attrs; links = part.links }) c last part refl before so;
  }
