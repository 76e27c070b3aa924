-- The counts of rows, one row after another.
use Rattle.std.proofs.Common.{◌≡◌, ℕ, ◌+◌, ◌<◌, ◌≤◌, Bool, true, false, cond, List, length, take, get_or, refl, sym, ap, ◌∙◌, arith, nat_eq}
use Rattle.std.specs.Prelude.{Option, None, Some, unwrap_or}
use Rattle.std.specs.BTreeMap.{BTreeMap, get, is_at}
use Rattle.std.proofs.lemmas.List.Sums.{count_by-le-length, count_by_more_no, count_by_more_yes}
use Rattle.std.proofs.lemmas.List.{length-take}
use Rattle.finite_maps.specs.Equal.{option_eq}
use Rattle.finite_maps.proofs.EqualLaws.{and_first, and_second, nat_equality}
use Rattle.model_state.specs.declared.entry.Entry.{Entry}
use Rattle.model_state.specs.Keys.{IdBytes}
use Rattle.model_documents.specs.declared.doc.DocParent.{DocParent}
use Rattle.model_documents.specs.declared.doc.DocRow.{DocRow}
use Rattle.model_documents.specs.Places.{parent_eq}
use Rattle.model_documents.specs.Finder.{place_cmp}
use Rattle.model_documents.proofs.Finding.{same_place}
use Rattle.model_import.specs.Counts.{Counts, CountsAlso, counted}
use Rattle.model_documents.specs.Fits.{standing}
use Rattle.import_laws.specs.News.{element_made, place_of}

-- n + 1 stand in the place p
one_more : (b : Bool) (n : ℕ) (o : Option ℕ) → (b ≡ true → n ≡ unwrap_or o 0) → unwrap_or (cond b (Some (n + 1)) o) 0 ≡ unwrap_or o 0 + cond b 1 0
one_more true n o is = ap (λ k. k + 1) (is refl)
one_more false n o is = omega arith

pub up : (m more : BTreeMap (ℕ × ℕ) ℕ) (parent : Option DocParent) (p q : DocParent) (n : ℕ) → parent ≡ Some p → n ≡ counted m parent
    → get place_cmp more (q.row, q.feature) ≡ cond (is_at (place_cmp (p.row, p.feature)) (q.row, q.feature)) (Some (n + 1)) (get place_cmp m (q.row, q.feature))
    → counted more (Some q) ≡ counted m (Some q) + cond (option_eq parent_eq parent (Some q)) 1 0
up m more parent p q n is before h =
    ap (λ o. unwrap_or o 0) h
    ∙ ap (λ b. unwrap_or (cond b (Some (n + 1)) (get place_cmp m (q.row, q.feature))) 0) (same_place p q)
    ∙ one_more (parent_eq p q) n (get place_cmp m (q.row, q.feature)) here
    ∙ ap (λ x. counted m (Some q) + cond (option_eq parent_eq x (Some q)) 1 0) (sym is)
  where
    here : parent_eq p q ≡ true → n ≡ unwrap_or (get place_cmp m (q.row, q.feature)) 0
    here same =
        before ∙ ap (counted m) is
        ∙ ap (λ x. unwrap_or (get place_cmp m (x, p.feature)) 0)
        (nat_equality.exact p.row q.row (and_first (nat_eq p.row q.row) (nat_eq p.feature q.feature) same))
        ∙ ap (λ y. unwrap_or (get place_cmp m (q.row, y)) 0)
        (nat_equality.exact p.feature q.feature (and_second (nat_eq p.row q.row) (nat_eq p.feature q.feature) same))

-- the next row stands in its place too
standing_more : (rows : List DocRow) (n : ℕ) (r : DocRow) (q : DocParent) → n < length rows → r ≡ get_or rows n r
    → standing (Some q) (take (n + 1) rows) ≡ standing (Some q) (take n rows) + cond (option_eq parent_eq r.parent (Some q)) 1 0
standing_more rows n r q less is = by (option_eq parent_eq r.parent (Some q)) refl
  where
    by : (b : Bool) → option_eq parent_eq r.parent (Some q) ≡ b → standing (Some q) (take (n + 1) rows) ≡ standing (Some q) (take n rows) + cond b 1 0
    by true h = count_by_more_yes (λ (x : DocRow). option_eq parent_eq x.parent (Some q)) rows n r less
        (ap (λ (x : DocRow). option_eq parent_eq x.parent (Some q)) (sym is) ∙ h)
    by false h = count_by_more_no (λ (x : DocRow). option_eq parent_eq x.parent (Some q)) rows n r less
        (ap (λ (x : DocRow). option_eq parent_eq x.parent (Some q)) (sym is) ∙ h) ∙ nothing (standing (Some q) (take n rows))
      where
        nothing : (k : ℕ) → k ≡ k + 0
        nothing k = omega arith

pub counts_more : (m : BTreeMap (ℕ × ℕ) ℕ) (more : BTreeMap (ℕ × ℕ) ℕ) (rows : List DocRow) (n : ℕ) (r : DocRow) → n < length rows → r ≡ get_or rows n r
    → Counts m (take n rows) → CountsAlso m r.parent more → Counts more (take (n + 1) rows)
counts_more m more rows n r less is before also = λ q.
    also q ∙ ap (λ k. k + cond (option_eq parent_eq r.parent (Some q)) 1 0) (before q) ∙ sym (standing_more rows n r q less is)

-- no more than all stand in a place
pub few : (m : BTreeMap (ℕ × ℕ) ℕ) (rows : List DocRow) (n : ℕ) (parent : Option DocParent) → n < length rows → Counts m (take n rows) → counted m parent ≤ n
few m rows n None less counts = omega arith
few m rows n (Some p) less counts =
    let is = counts p in
    let most = count_by-le-length (λ (x : DocRow). option_eq parent_eq x.parent (Some p)) (take n rows) in
    omega (arith, is, most, length-take n rows)

-- the element is the one that is created next of its place
pub same_element : (m : BTreeMap (ℕ × ℕ) ℕ) (names : List IdBytes) (rows : List DocRow) (xs : List Entry) (e : IdBytes) (c : ℕ)
    (parent : Option DocParent) → Counts m rows
    → element_made xs (place_of names parent) e c (counted m parent) ≡ element_made xs (place_of names parent) e c (standing parent rows)
same_element m names rows xs e c None counts = refl
same_element m names rows xs e c (Some p) counts = ap (element_made xs (place_of names (Some p)) e c) (counts p)
