-- What is sorted, and what is drained of it, as one more is gone over; and what an index lists after all of a search.
use Rattle.std.proofs.Common.{◌≡◌, ℕ, ◌+◌, ◌<◌, ◌%◌, Bool, true, false, List, [], ◌∷◌, ◌++◌, refl, sym, ap, subst, inl, inr, ◌∙◌, take}
use Rattle.std.proofs.Common.{length, get_or, set, arith, length-set}
use Rattle.std.specs.List.{Contains}
use Rattle.std.specs.declared.vec.Vec.{Vec}
use Rattle.std.specs.declared.alloc.Global.{Global}
use Rattle.std.proofs.lemmas.List.Elements.{Contains-push_cases, Contains-append_left, Contains-push}
use Rattle.finite_maps.proofs.Cases.{true_false}
use Rattle.footprint.specs.declared.cell.Cell.{Cell as Held}
use Rattle.footprint.specs.declared.cell.Print.{Print}
use Rattle.footprint.specs.Prints.{seen}
use Rattle.cell_index.specs.Keys.{cell_key}
use Rattle.cell_index.specs.Near.{list_at, row_of, Indexes, IsMet, AllMet}
use Rattle.cell_index.specs.Draining.{AreSorted, IsDrained, HasMet, ListsUnflagged}
use Rattle.cell_index.specs.declared.listing.CellIndex.{CellIndex}
use Rattle.cell_index.proofs.NoneMeets.{far, met_push, taken_number, found_by}
use Rattle.cell_index.proofs.Rises.{first_or_rest}
use Rattle.cell_index.proofs.Rows.{at_same, at_other, list_here, same_or_not}

none_in : (k : ℕ) → Contains [] k → ⊥
none_in k h = let low = h.1 in omega (arith, low)

one_in : (x k : ℕ) → Contains (x ∷ []) k → x ≡ k
one_in x k h = elim (first_or_rest x [] k h) [ inl e ↦ e | inr none ↦ absurd (none_in k none) ]

-- ---- one place
module _ (prints : List Print) (p : Print) (flags : List Bool) (place : ℕ) where
  pub sort_flagged : (met rest : List ℕ) → get_or flags place false ≡ true → AreSorted prints p flags (place ∷ []) met met rest rest
  sort_flagged met rest on = record {
    met_kept = λ k h. h;
    rest_kept = λ k h. h;
    all_met = λ all. all;
    none_met = λ none. none;
    sorted = λ k here off. absurd (true_false (get_or flags place false) on (ap (λ n. get_or flags n false) (one_in place k here) ∙ off));
  }

  pub sort_met : (met more rest : List ℕ) → more ≡ met ++ place ∷ [] → IsMet prints p place
      → AreSorted prints p flags (place ∷ []) met more rest rest
  sort_met met more rest out is = record {
    met_kept = λ k h. subst (λ l. Contains l k) (sym out) (Contains-append_left met (place ∷ []) k h);
    rest_kept = λ k h. h;
    all_met = λ all. subst (AllMet prints p) (sym out) (met_push prints p met place all is);
    none_met = λ none. none;
    sorted = λ k here off. inl (subst (λ l. Contains l k) (sym out)
        (subst (Contains (met ++ place ∷ [])) (one_in place k here) (Contains-push met place)));
  }

  pub sort_rest : (met rest longer : List ℕ) → longer ≡ rest ++ place ∷ [] → (IsMet prints p place → ⊥)
      → AreSorted prints p flags (place ∷ []) met met rest longer
  sort_rest met rest longer out not = record {
    met_kept = λ k h. h;
    rest_kept = λ k h. subst (λ l. Contains l k) (sym out) (Contains-append_left rest (place ∷ []) k h);
    all_met = λ all. all;
    none_met = λ none k h is. elim (Contains-push_cases rest place k (subst (λ l. Contains l k) out h)) [
      | inl before ↦ none k before is
      | inr e ↦ not (subst (IsMet prints p) (sym e) is)
    ];
    sorted = λ k here off. inr (subst (λ l. Contains l k) (sym out)
        (subst (Contains (rest ++ place ∷ [])) (one_in place k here) (Contains-push rest place)));
  }

-- ---- place by place
module _ (prints : List Print) (p : Print) (flags : List Bool) where
  pub sort_none : (met rest : List ℕ) → AreSorted prints p flags [] met met rest rest
  sort_none met rest = record {
    met_kept = λ k h. h;
    rest_kept = λ k h. h;
    all_met = λ all. all;
    none_met = λ none. none;
    sorted = λ k here off. absurd (none_in k here);
  }

  pub sort_on : (places : List ℕ) (i : ℕ) (a b c x y z : List ℕ) → i < length places → AreSorted prints p flags (take i places) a b x y
      → AreSorted prints p flags (get_or places i 0 ∷ []) b c y z → AreSorted prints p flags (take (i + 1) places) a c x z
  sort_on places i a b c x y z low first second = record {
    met_kept = λ k h. second.met_kept k (first.met_kept k h);
    rest_kept = λ k h. second.rest_kept k (first.rest_kept k h);
    all_met = λ all. second.all_met (first.all_met all);
    none_met = λ none. second.none_met (first.none_met none);
    sorted = λ k here off. elim (taken_number places i k low here) [
      | inl before ↦ elim (first.sorted k before off) [ inl on ↦ inl (second.met_kept k on) | inr on ↦ inr (second.rest_kept k on) ]
      | inr e ↦ second.sorted k (subst (Contains (get_or places i 0 ∷ [])) e (Contains-push [] (get_or places i 0))) off
    ];
  }

  -- ---- list by list
  module _ (t made : List (Vec ℕ Global)) (s : ℕ) (v w : Vec ℕ Global) (met more : List ℕ) (low : s < length t) (is : v ≡ get_or t s v)
      (out : made ≡ set t s w) (sorts : AreSorted prints p flags v.items met more [] w.items) where
    in_slot : (k : ℕ) → Contains (list_at t s) k → Contains v.items k
    in_slot k h = subst (λ l. Contains l k) (list_here t s v low is) h

    pub drain_slot : IsDrained prints p flags t made met more
    drain_slot = record {
      size = ap length out ∙ length-set t s w;
      met_kept = sorts.met_kept;
      all_met = sorts.all_met;
      lists = λ r k h off. same_or_not r s
          (λ e. elim (sorts.sorted k (in_slot k (subst (λ n. Contains (list_at t n) k) e h)) off) [
            | inl on ↦ inl on
            | inr on ↦ inr (subst (λ l. Contains l k) (sym (ap (λ m. list_at m r) out ∙ ap (list_at (set t s w)) e ∙ at_same t s w low)) on)
          ])
          (λ f. inr (subst (λ l. Contains l k) (sym (ap (λ m. list_at m r) out ∙ at_other t s r w f)) h));
    }

    pub drain_found : (k : ℕ) → Contains (list_at t s) k → get_or flags k false ≡ false → IsMet prints p k → Contains more k
    drain_found k h off meets = elim (sorts.sorted k (in_slot k h) off) [
      | inl on ↦ on
      | inr on ↦ absurd (sorts.none_met (λ j none. absurd (none_in j none)) k on meets)
    ]

  pub drain_none : (t : List (Vec ℕ Global)) (met : List ℕ) → IsDrained prints p flags t t met met
  drain_none t met = record { size = refl; met_kept = λ k h. h; all_met = λ all. all; lists = λ s k h off. inr h }

  pub drain_on : (t u v : List (Vec ℕ Global)) (a b c : List ℕ) → IsDrained prints p flags t u a b → IsDrained prints p flags u v b c
      → IsDrained prints p flags t v a c
  drain_on t u v a b c first second = record {
    size = second.size ∙ first.size;
    met_kept = λ k h. second.met_kept k (first.met_kept k h);
    all_met = λ all. second.all_met (first.all_met all);
    lists = λ s k h off. elim (first.lists s k h off) [ inl on ↦ inl (second.met_kept k on) | inr on ↦ second.lists s k on off ];
  }

-- the row of a cell, by its slot
pub drain_row : (t : List (Vec ℕ Global)) (y h : Held) (s n k : ℕ) → s ≡ cell_key (seen y) % n → n ≡ length t → y ≡ h → Contains (row_of t h) k
    → Contains (list_at t s) k
drain_row t y h s n k slot size e in_row = subst (λ x. Contains (list_at t x) k) (sym (slot ∙ (λ j. cell_key (seen (e j)) % size j))) in_row

-- ---- the whole search
module _ (prints : List Print) (p : Print) (flags : List Bool) (old new : CellIndex) (w r : List Held) (w0 w1 w2 r0 r1 : List (Vec ℕ Global))
    (n0 n1 n2 n3 : List ℕ) (ix : ListsUnflagged old prints flags []) (w_is : w ≡ p.writes) (r_is : r ≡ p.reads)
    (w0_is : w0 ≡ old.writers.items) (r0_is : r0 ≡ old.readers.items) (w2_is : new.writers.items ≡ w2) (r1_is : new.readers.items ≡ r1)
    (d1 : IsDrained prints p flags w0 w1 n0 n1) (d2 : IsDrained prints p flags r0 r1 n1 n2) (d3 : IsDrained prints p flags w1 w2 n2 n3) where
  kept_1 : (k : ℕ) → Contains n1 k → Contains n3 k
  kept_1 k h = d3.met_kept k (d2.met_kept k h)

  row_in : (t u : List (Vec ℕ Global)) (h : Held) (k : ℕ) → length u ≡ length t → Contains (list_at u (cell_key (seen h) % length t)) k
      → Contains (row_of u h) k
  row_in t u h k size on = subst (λ n. Contains (list_at u (cell_key (seen h) % n)) k) (sym size) on

  -- a place that isn't taken stands in the row of the second table of writers if it did in that of the first
  still : (k : ℕ) → get_or flags k false ≡ false → (Contains n3 k → ⊥) → (h : Held) → Contains (row_of w0 h) k → Contains (row_of w1 h) k
  still k off out h on = elim (d1.lists (cell_key (seen h) % length w0) k on off) [
    | inl got ↦ absurd (out (kept_1 k got))
    | inr left ↦ row_in w0 w1 h k d1.size left
  ]

  pub take_lists : ListsUnflagged new prints flags n3
  take_lists = record {
    some_writers =
        let few = ix.some_writers in
        let first = ap length w0_is in
        let second = d1.size in
        let third = d3.size in
        let last = ap length w2_is in
        omega (arith, few, first, second, third, last);
    some_readers =
        let few = ix.some_readers in
        let first = ap length r0_is in
        let second = d2.size in
        let last = ap length r1_is in
        omega (arith, few, first, second, last);
    writers = λ k q low is off out h in_h.
        let first : Contains (row_of w0 h) k = subst (λ t. Contains (row_of t h) k) (sym w0_is) (ix.writers k q low is off (none_in k) h in_h) in
        subst (λ t. Contains (row_of t h) k) (sym w2_is) (elim (d3.lists (cell_key (seen h) % length w1) k (still k off out h first) off) [
          | inl got ↦ absurd (out got)
          | inr left ↦ row_in w1 w2 h k d3.size left
        ]);
    readers = λ k q low is off out h in_h.
        let first : Contains (row_of r0 h) k = subst (λ t. Contains (row_of t h) k) (sym r0_is) (ix.readers k q low is off (none_in k) h in_h) in
        subst (λ t. Contains (row_of t h) k) (sym r1_is) (elim (d2.lists (cell_key (seen h) % length r0) k first off) [
          | inl got ↦ absurd (out (d3.met_kept k got))
          | inr left ↦ row_in r0 r1 h k d2.size left
        ]);
  }

  pub take_found : HasMet prints p flags w0 w n1 → HasMet prints p flags r0 w n2 → HasMet prints p flags w1 r n3
      → (k : ℕ) → get_or flags k false ≡ false → IsMet prints p k → Contains n3 k
  take_found first second third k off meets = found_by n3 k (λ out.
      far old prints p w r w0 r0 w0 k (λ q is. ix.writers k q meets.low is off (none_in k)) (λ q is. ix.readers k q meets.low is off (none_in k))
      w_is r_is w0_is r0_is w0_is meets
      (λ h in_h in_row. out (kept_1 k (first h in_h k in_row off meets)))
      (λ h in_h in_row. out (d3.met_kept k (second h in_h k in_row off meets)))
      (λ h in_h in_row. out (third h in_h k (still k off out h in_row) off meets)))

-- ---- what is listed at first, and what still is as more flags are set
pub lists_all : (index : CellIndex) (prints : List Print) (flags : List Bool) → Indexes index prints → ListsUnflagged index prints flags []
lists_all index prints flags ix = record {
  some_writers = ix.some_writers;
  some_readers = ix.some_readers;
  writers = λ k p low is off out. ix.writers k p low is;
  readers = λ k p low is off out. ix.readers k p low is;
}

pub lists_fewer : (index : CellIndex) (prints : List Print) (flags more : List Bool) (gone : List ℕ)
    → ((k : ℕ) → get_or flags k false ≡ true → get_or more k false ≡ true) → ((k : ℕ) → Contains gone k → get_or more k false ≡ true)
    → ListsUnflagged index prints flags gone → ListsUnflagged index prints more []
lists_fewer index prints flags more gone kept all ix = record {
  some_writers = ix.some_writers;
  some_readers = ix.some_readers;
  writers = λ k p low is off out. ix.writers k p low is (was k off) (λ h. true_false (get_or more k false) (all k h) off);
  readers = λ k p low is off out. ix.readers k p low is (was k off) (λ h. true_false (get_or more k false) (all k h) off);
}
  where
    was : (k : ℕ) → get_or more k false ≡ false → get_or flags k false ≡ false
    was k off = by (get_or flags k false) refl
      where
        by : (b : Bool) → get_or flags k false ≡ b → get_or flags k false ≡ false
        by false is = is
        by true is = absurd (true_false (get_or more k false) (kept k is) off)

pub lists_kept : (index : CellIndex) (prints : List Print) (flags more : List Bool) → ((k : ℕ) → get_or flags k false ≡ true → get_or more k false ≡ true)
    → ListsUnflagged index prints flags [] → ListsUnflagged index prints more []
lists_kept index prints flags more kept ix = lists_fewer index prints flags more [] kept (λ k none. absurd (none_in k none)) ix
