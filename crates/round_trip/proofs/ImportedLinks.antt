-- What an import leaves in the lists of references, looked up by element.
use Rattle.std.proofs.Common.{◌≡◌, ◌∙◌, ℕ, zero, suc, ◌+◌, ◌<◌, Bool, true, false, ◌&&◌, cond, not, List, [], ◌∷◌, drop, length, map, nat_eq, refl, sym}
use Rattle.std.proofs.Common.{ap, arith}
use Rattle.std.specs.Prelude.{None, Some, Option, slice_get, unwrap_or}
use Rattle.std.specs.List.{list_any}
use Rattle.std.specs.FinMap.{empty, get, get-empty}
use Rattle.std.specs.Ordering.{eq_by_cmp}
use Rattle.finite_maps.specs.Equal.{text_eq}
use Rattle.finite_maps.specs.Maps.{count, counts, set, tally}
use Rattle.finite_maps.specs.Sorts.{picked}
use Rattle.finite_maps.proofs.Cases.{not_true, true_false, or_first, or_second}
use Rattle.finite_maps.proofs.CountLaws.{count-set, count_none}
use Rattle.finite_maps.proofs.EqualLaws.{and_first, and_second, nat_equality, text_equality}
use Rattle.finite_maps.proofs.MapLaws.{get-set, get-set_other, get-set_same}
use Rattle.finite_maps.proofs.SortLaws.{rises-in_order}
use Rattle.model_state.specs.Keys.{IdBytes, RowKey, row_cmp}
use Rattle.model_state.specs.Listing.{is_of, row_entry, targets}
use Rattle.model_state.proofs.Orders.{entry_order, row_order}
use Rattle.edit_steps.specs.Rows.{Rows}
use Rattle.edit_steps.proofs.Lists.{of_own, targets_alike, targets_held}
use Rattle.model_documents.specs.declared.doc.DocRefs.{DocRefs}
use Rattle.model_documents.specs.declared.doc.DocRow.{DocRow}
use Rattle.model_documents.specs.Fits.{numbers_differ}
use Rattle.model_documents.specs.Completed.{targets_at}
use Rattle.model_texts.specs.Tree.{entry_ids}
use Rattle.import_laws.specs.After.{refs_set, rows_from, targets_set}
use Rattle.import_laws.specs.Laws.{ids_differ}
use Rattle.import_laws.specs.Names.{name_at}
use Rattle.import_laws.specs.News.{rank_of}
use Rattle.import_laws.proofs.Indexed.{drop_next, drop_none, one_at}
use Rattle.import_laws.proofs.LinksLead.{any_at}
use Rattle.round_trip.proofs.ImportedMaps.{Away, away_later, away_next, first_is, is_later, itself, keys_apart, named_here, next_is, other_name, same_row}
use Rattle.round_trip.proofs.ListsInOrder.{held_ranked, ranked_from, rises_ranked, shown, tally_targets}

module _ (names : List IdBytes) where
  -- ---- rows of other elements and of other features
  list_other : (x : IdBytes) (g : ℕ) (bs : List ℕ) (k : ℕ) (row : Rows) (q : RowKey) → ((y : IdBytes) → q ≡ (x, g, y) → ⊥)
      → get (targets_set names x g k row bs) q ≡ get row q
  list_other x g [] k row q other = refl
  list_other x g (b ∷ bs) k row q other =
      list_other x g bs (suc k) (set row (x, g, name_at names b) (Some (rank_of k))) q other
      ∙ get-set_other row_order row (x, g, name_at names b) (Some (rank_of k)) q (keys_apart row_order q (x, g, name_at names b) (other (name_at names b)))

  refs_other : (x : IdBytes) (refs : List DocRefs) (row : Rows) (q : RowKey) → (q.0 ≡ x → ⊥) → get (refs_set names x row refs) q ≡ get row q
  refs_other x [] row q other = refl
  refs_other x (r ∷ refs) row q other =
      refs_other x refs (targets_set names x r.feature 0 row r.targets) q other
      ∙ list_other x r.feature r.targets 0 row q (λ y same. other (ap (λ (z : RowKey). z.0) same))

  other_feature : (x : IdBytes) (f g : ℕ) (y z : IdBytes) → nat_eq f g ≡ false → ◌≡◌ {A = RowKey} (x, f, y) (x, g, z) → ⊥
  other_feature x f g y z differ same = true_false (nat_eq f g) (ap (λ (q : RowKey). nat_eq f q.1) (sym same) ∙ nat_equality.own f) differ

  abbrev features : List DocRefs → List ℕ
  features refs = map (λ (q : DocRefs). q.feature) refs

  refs_missing : (x : IdBytes) (f : ℕ) (y : IdBytes) (refs : List DocRefs) (row : Rows) → list_any (nat_eq f) (features refs) ≡ false
      → get (refs_set names x row refs) (x, f, y) ≡ get row (x, f, y)
  refs_missing x f y [] row none = refl
  refs_missing x f y (r ∷ refs) row none =
      refs_missing x f y refs (targets_set names x r.feature 0 row r.targets) (or_second (nat_eq f r.feature) _ none)
      ∙ list_other x r.feature r.targets 0 row (x, f, y) (λ z. other_feature x f r.feature y z (or_first (nat_eq f r.feature) _ none))

  -- ---- the rows of one feature come of its list alone
  list_alike : (x : IdBytes) (f : ℕ) (bs : List ℕ) (k : ℕ) (row row' : Rows) → ((z : IdBytes) → get row (x, f, z) ≡ get row' (x, f, z)) → (y : IdBytes)
      → get (targets_set names x f k row bs) (x, f, y) ≡ get (targets_set names x f k row' bs) (x, f, y)
  list_alike x f [] k row row' alike y = alike y
  list_alike x f (b ∷ bs) k row row' alike y =
      let key : RowKey = (x, f, name_at names b) in
      list_alike x f bs (suc k) (set row key (Some (rank_of k))) (set row' key (Some (rank_of k)))
      (λ z. get-set row_order row key (Some (rank_of k)) (x, f, z)
      ∙ ap (λ o. cond (eq_by_cmp row_cmp (x, f, z) key) (Some (rank_of k)) o) (alike z)
      ∙ sym (get-set row_order row' key (Some (rank_of k)) (x, f, z))) y

  refs_mine : (x : IdBytes) (f : ℕ) (y : IdBytes) (refs : List DocRefs) (row : Rows) → numbers_differ (features refs) ≡ true
      → get (refs_set names x row refs) (x, f, y) ≡ get (targets_set names x f 0 row (targets_at f refs)) (x, f, y)
  refs_mine x f y [] row ok = refl
  refs_mine x f y (r ∷ refs) row ok =
      let next = targets_set names x r.feature 0 row r.targets in
      elim (nat_eq f r.feature) as (λ b. nat_eq f r.feature ≡ b
      → get (refs_set names x next refs) (x, f, y) ≡ get (targets_set names x f 0 row (cond b r.targets (targets_at f refs))) (x, f, y)) [
        | true ↦ λ same.
            let is : f ≡ r.feature = nat_equality.exact f r.feature same in
            ap (λ g. get (refs_set names x next refs) (x, g, y)) is
            ∙ refs_missing x r.feature y refs next (not_true (list_any (nat_eq r.feature) (features refs)) (and_first _ _ ok))
            ∙ ap (λ g. get (targets_set names x g 0 row r.targets) (x, g, y)) (sym is)
        | false ↦ λ other.
            refs_mine x f y refs next (and_second (not (list_any (nat_eq r.feature) (features refs))) _ ok)
            ∙ list_alike x f (targets_at f refs) 0 next row (λ z. list_other x r.feature r.targets 0 row (x, f, z)
            (λ w. other_feature x f r.feature z w other)) y
      ] refl

-- ---- the rows of all elements
module _ (names : List IdBytes) (rows : List DocRow) (as_many : length names ≡ length rows) where
  links_other : (rest : List DocRow) (n : ℕ) (row : Rows) (q : RowKey) → drop n rows ≡ rest → Away names n q.0
      → get (rows_from names n row rest) q ≡ get row q
  links_other [] n row q left away = refl
  links_other (r ∷ rest) n row q left away =
      links_other rest (suc n) (refs_set names (name_at names n) row r.refs) q (drop_next n rows r rest left) (away_next names n q.0 away)
      ∙ refs_other names (name_at names n) r.refs row q (away n (itself n) (named_here names rows as_many n r rest left))

  links_mine : ids_differ names ≡ true → (rest : List DocRow) (n : ℕ) (row : Rows) (j : ℕ) (r : DocRow) (f : ℕ) → drop n rows ≡ rest
      → slice_get rest j ≡ Some r → numbers_differ (map (λ (q : DocRefs). q.feature) r.refs) ≡ true → (k : ℕ) → k ≡ n + j → k < length names
      → ((y : IdBytes) → get row (name_at names k, f, y) ≡ None) → (y : IdBytes)
      → get (rows_from names n row rest) (name_at names k, f, y)
      ≡ get (targets_set names (name_at names k) f 0 empty (targets_at f r.refs)) (name_at names k, f, y)
  links_mine differ [] n row j r f left is ok k at small none y = cc
  links_mine differ (x ∷ rest) n row zero r f left is ok k at small none y =
      let here = first_is k n at in
      let e = name_at names n in
      let next = refs_set names e row x.refs in
      ap (λ i. get (rows_from names (suc n) next rest) (name_at names i, f, y)) here
      ∙ links_other rest (suc n) next (e, f, y) (drop_next n rows x rest left) (away_later names differ n (named_here names rows as_many n x rest left))
      ∙ ap (λ (z : DocRow). get (refs_set names e row z.refs) (e, f, y)) (same_row x r is)
      ∙ refs_mine names e f y r.refs row ok
      ∙ list_alike names e f (targets_at f r.refs) 0 row empty
      (λ z. ap (λ i. get row (name_at names i, f, z)) (sym here) ∙ none z ∙ sym (get-empty row_cmp (e, f, z))) y
      ∙ ap (λ i. get (targets_set names (name_at names i) f 0 empty (targets_at f r.refs)) (name_at names i, f, y)) (sym here)
  links_mine differ (x ∷ rest) n row (suc j) r f left is ok k at small none y =
      links_mine differ rest (suc n) (refs_set names (name_at names n) row x.refs) j r f (drop_next n rows x rest left) is ok k (next_is k n j at) small
      (λ z. refs_other names (name_at names n) x.refs row (name_at names k, f, z) (other_name names differ n k (is_later k n j at) small) ∙ none z) y

-- ---- one list
same_number : (a b : ℕ) → ◌≡◌ {A = Option ℕ} (Some a) (Some b) → a ≡ b
same_number a b is = cc

of_map : {X Y : Type 0} (h : X → Y) (xs : List X) (j : ℕ) (y : Y) → slice_get (map h xs) j ≡ Some y → (x : X) × (slice_get xs j ≡ Some x) × (y ≡ h x)
of_map h [] j y is = cc
of_map {X} {Y} h (x ∷ xs) zero y is = (x, refl, same_item (h x) y is)
  where
    same_item : (x y : Y) → ◌≡◌ {A = Option Y} (Some x) (Some y) → y ≡ x
    same_item x y is = cc
of_map h (x ∷ xs) (suc j) y is = of_map h xs j y is

module _ (names : List IdBytes) (differ : ids_differ names ≡ true) (a : IdBytes) (f : ℕ) where
  -- the numbers are those of elements
  abbrev AreSmall : List ℕ → Type 0
  AreSmall bs = (j b : ℕ) → slice_get bs j ≡ Some b → b < length names

  abbrev key : ℕ → RowKey
  key b = (a, f, name_at names b)

  -- a number that is not in the list has another name
  apart_from : (b : ℕ) → b < length names → (bs : List ℕ) → AreSmall bs → list_any (nat_eq b) bs ≡ false → (j c : ℕ) → slice_get bs j ≡ Some c
      → key b ≡ key c → ⊥
  apart_from b small bs all none j c is same =
      let equal : b ≡ c =
      one_at names differ b c small (all j c is) (ap (λ (q : RowKey). text_eq (name_at names b) q.2) (sym same) ∙ text_equality.own (name_at names b)) in
      true_false (list_any (nat_eq b) bs) (ap (λ i. list_any (nat_eq i) bs) equal ∙ any_at bs j c is) none

  list_missing : (bs : List ℕ) (k : ℕ) (row : Rows) (q : RowKey) → ((j c : ℕ) → slice_get bs j ≡ Some c → q ≡ key c → ⊥)
      → get (targets_set names a f k row bs) q ≡ get row q
  list_missing [] k row q other = refl
  list_missing (b ∷ bs) k row q other =
      list_missing bs (suc k) (set row (key b) (Some (rank_of k))) q (λ j. other (suc j))
      ∙ get-set_other row_order row (key b) (Some (rank_of k)) q (keys_apart row_order q (key b) (other 0 b refl))

  -- each has the rank of its index
  list_ranks : (bs : List ℕ) (k : ℕ) (row : Rows) → numbers_differ bs ≡ true → AreSmall bs → (j b : ℕ) → slice_get bs j ≡ Some b → (i : ℕ) → i ≡ k + j
      → get (targets_set names a f k row bs) (key b) ≡ Some (rank_of i)
  list_ranks [] k row ok all j b is i at = cc
  list_ranks (c ∷ bs) k row ok all zero b is i at =
      let next = set row (key c) (Some (rank_of k)) in
      ap (λ d. get (targets_set names a f (suc k) next bs) (key d)) (sym (same_number c b is))
      ∙ list_missing bs (suc k) next (key c)
      (apart_from c (all 0 c refl) bs (λ j. all (suc j)) (not_true (list_any (nat_eq c) bs) (and_first _ _ ok)))
      ∙ get-set_same row_order row (key c) (Some (rank_of k)) ∙ ap (λ d. Some (rank_of d)) (sym (first_is i k at))
  list_ranks (c ∷ bs) k row ok all (suc j) b is i at =
      list_ranks bs (suc k) (set row (key c) (Some (rank_of k))) (and_second (not (list_any (nat_eq c) bs)) _ ok) (λ j. all (suc j)) j b is i (next_is i k j at)

  -- how many of them pass a test
  list_counted : (q : IdBytes → Bool) (bs : List ℕ) (k : ℕ) (row : Rows) → numbers_differ bs ≡ true → AreSmall bs
      → ((j b : ℕ) → slice_get bs j ≡ Some b → get row (key b) ≡ None)
      → count (λ (e : RowKey × ℕ). is_of a f e.0 && q e.0.2) (targets_set names a f k row bs)
      ≡ count (λ (e : RowKey × ℕ). is_of a f e.0 && q e.0.2) row + tally q (map (name_at names) bs)
  list_counted q [] k row ok all none = own (count (λ (e : RowKey × ℕ). is_of a f e.0 && q e.0.2) row)
    where
      own : (n : ℕ) → n ≡ n + 0
      own n = omega arith
  list_counted q (b ∷ bs) k row ok all none =
      let p = λ (e : RowKey × ℕ). is_of a f e.0 && q e.0.2 in
      let next = set row (key b) (Some (rank_of k)) in
      let sum : count p next + counts p (key b) (get row (key b)) ≡ count p row + counts p (key b) (Some (rank_of k)) =
      count-set row_order p row (key b) (Some (rank_of k)) in
      let was : counts p (key b) (get row (key b)) ≡ 0 = ap (counts p (key b)) (none 0 b refl) in
      let now : ◌≡◌ {A = ℕ} (counts p (key b) (Some (rank_of k))) (cond (q (name_at names b)) 1 0) =
      ap (λ t. cond (t && q (name_at names b)) 1 0) (of_own a f (name_at names b)) in
      added (count p (targets_set names a f (suc k) next bs)) (count p next) (counts p (key b) (get row (key b))) (count p row)
      (counts p (key b) (Some (rank_of k))) (cond (q (name_at names b)) 1 0) (tally q (map (name_at names) bs))
      (list_counted q bs (suc k) next (and_second (not (list_any (nat_eq b) bs)) _ ok) (λ j. all (suc j))
      (λ j c is. get-set_other row_order row (key b) (Some (rank_of k)) (key c)
      (keys_apart row_order (key c) (key b) (λ same.
      apart_from b (all 0 b refl) bs (λ j. all (suc j)) (not_true (list_any (nat_eq b) bs) (and_first _ _ ok)) j c is (sym same)))
      ∙ none (suc j) c is))
      sum was now
    where
      added : (last next was row one one' more : ℕ) → last ≡ next + more → next + was ≡ row + one → was ≡ 0 → one ≡ one' → last ≡ row + (one' + more)
      added last next was row one one' more h g z e = omega arith

  list_shown : (bs : List ℕ) → numbers_differ bs ≡ true → AreSmall bs
      → entry_ids (targets (targets_set names a f 0 empty bs) a f) ≡ map (name_at names) bs
  list_shown bs ok all =
      let whole : Rows = targets_set names a f 0 empty bs in
      let ns = map (name_at names) bs in
      let rank = λ (b : IdBytes). unwrap_or (get whole (a, f, b)) 0 in
      shown rank (targets whole a f) ns (rises-in_order entry_order (map row_entry (picked (λ (e : RowKey × ℕ). is_of a f e.0) whole)))
      (held_ranked whole a f (targets whole a f) (targets_held whole a f))
      (rises_ranked rank ns 0 (ranked_from rank ns 0 (λ j y is.
      let at = of_map (name_at names) bs j y is in
      ap rank at.2 ∙ ap (λ o. unwrap_or o 0) (list_ranks bs 0 empty ok all j at.0 at.1 (0 + j) refl))))
      (λ q. tally_targets whole a f q ∙ list_counted q bs 0 empty ok all (λ j b _. get-empty row_cmp (key b))
      ∙ ap (λ n. n + tally q ns) (count_none row_order (λ (e : RowKey × ℕ). is_of a f e.0 && q e.0.2) empty (λ k v is. absurd (some_none k v is)))
      ∙ none (tally q ns))
    where
      none : (n : ℕ) → 0 + n ≡ n
      none n = omega arith

      some_none : (k : RowKey) (v : ℕ) → get {R = row_cmp} empty k ≡ Some v → ⊥
      some_none k v is = not_some (get {R = row_cmp} empty k) is (get-empty row_cmp k)
        where
          not_some : (o : Option ℕ) → o ≡ Some v → o ≡ None → ⊥
          not_some o is none = cc

-- ---- the list of a row
module _ (names : List IdBytes) (rows : List DocRow) (as_many : length names ≡ length rows) (differ : ids_differ names ≡ true) where
  pub targets_mine : (row : Rows) (i : ℕ) (r : DocRow) (f : ℕ) → slice_get rows i ≡ Some r → i < length names
      → numbers_differ (map (λ (q : DocRefs). q.feature) r.refs) ≡ true
      → numbers_differ (targets_at f r.refs) ≡ true → ((j b : ℕ) → slice_get (targets_at f r.refs) j ≡ Some b → b < length names)
      → ((y : IdBytes) → get row (name_at names i, f, y) ≡ None)
      → entry_ids (targets (rows_from names 0 row rows) (name_at names i) f) ≡ map (name_at names) (targets_at f r.refs)
  targets_mine row i r f is small apart once all none =
      let e = name_at names i in
      ap entry_ids (targets_alike (rows_from names 0 row rows) (targets_set names e f 0 empty (targets_at f r.refs)) e f
      (links_mine names rows as_many differ rows 0 row i r f (drop_none rows) is apart i (own i) small none))
      ∙ list_shown names differ e f (targets_at f r.refs) once all
    where
      own : (i : ℕ) → i ≡ 0 + i
      own i = omega arith

  pub targets_other : (row : Rows) (e : IdBytes) (f : ℕ) → Away names 0 e → targets (rows_from names 0 row rows) e f ≡ targets row e f
  targets_other row e f away =
      targets_alike (rows_from names 0 row rows) row e f (λ y. links_other names rows as_many rows 0 row (e, f, y) (drop_none rows) away)
