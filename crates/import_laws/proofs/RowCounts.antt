-- How many rows a feature of an element has. They are counted where one map has all rows of another and one more, and after the
-- turns of a document.
use Rattle.std.proofs.lemmas.Bool.Decides.{nat_tests}
use Rattle.std.proofs.Common.{◌≡◌, ℕ, ◌+◌, ◌<◌, ◌≤◌, Bool, true, false, cond, ◌&&◌, List, [], ◌∷◌, length, refl, sym, ap, ◌∙◌, arith, nat_eq}
use Rattle.std.specs.Prelude.{Option, None, Some, is_some}
use Rattle.std.specs.List.{filter}
use Rattle.std.specs.FinMap.{entries, entries-from_sorted, entries_sorted, from_sorted, get, get-entries, get-from_sorted}
use Rattle.std.specs.FinMap.Entries.{find-where_key, is_sorted-where_key, where_key}
use Rattle.finite_maps.specs.Equal.{text_eq}
use Rattle.finite_maps.specs.Maps.{count, counts, is_below, is_within, passes, set, tally}
use Rattle.finite_maps.proofs.CountLaws.{count-set, count_alike}
use Rattle.finite_maps.proofs.EqualLaws.{and_both, nat_equality, text_equality}
use Rattle.finite_maps.proofs.MapLaws.{by_key, get-set_other, get-set_same}
use Rattle.model_state.specs.Keys.{IdBytes, RowKey, row_cmp}
use Rattle.model_state.specs.Listing.{is_of}
use Rattle.model_state.proofs.Orders.{row_order}
use Rattle.edit_steps.specs.Rows.{Rows}
use Rattle.import_laws.specs.Laws.{ids_differ}
use Rattle.import_laws.specs.Names.{name_at}
use Rattle.import_laws.specs.News.{rank_of}
use Rattle.import_laws.proofs.Indexed.{same_at}
use Rattle.import_laws.proofs.Turns.{Each, Turn, is_mine, key_of, turn_set, turns_set}

abbrev pub within : Rows → Rows → Type 0
within row whole = (q : RowKey) (r : ℕ) → get row q ≡ Some r → get whole q ≡ Some r

abbrev of : IdBytes → ℕ → RowKey × ℕ → Bool
of a f e = is_of a f e.0

tally-filter : (p : RowKey × ℕ → Bool) (test : RowKey × ℕ → Bool) (es : List (RowKey × ℕ)) → tally p (filter test es) ≤ tally p es
tally-filter p test [] = omega arith
tally-filter p test (e ∷ es) =
    let rest = tally-filter p test es in
    elim (test e) as (λ b. tally p (cond {A = List (RowKey × ℕ)} b (e ∷ filter test es) (filter test es)) ≤ cond (p e) 1 0 + tally p es) [
      | true ↦ omega (arith, rest)
      | false ↦ omega (arith, rest)
    ]

module _ (row whole : Rows) (inside : within row whole) where
  abbrev held : RowKey → Bool
  held q = is_some (get row q)

  abbrev part : Rows
  part = from_sorted (where_key row_cmp held (entries whole))

  part_get : (q : RowKey) → get part q ≡ cond (held q) (get whole q) None
  part_get q =
      get-from_sorted row_cmp (where_key row_cmp held (entries whole)) q (is_sorted-where_key row_cmp held (entries whole) (entries_sorted whole))
      ∙ find-where_key row_cmp held q (λ x tied. ap held (sym (row_order.exact q x tied))) (entries whole)
      ∙ ap (λ o. cond (held q) o None) (sym (get-entries whole q))

  part_alike : (a : IdBytes) (f : ℕ) (q : RowKey) → passes (of a f) q (get row q) ≡ passes (of a f) q (get part q)
  part_alike a f q =
      elim (get row q) as (λ o. get row q ≡ o → passes (of a f) q o ≡ passes (of a f) q (cond (is_some o) (get whole q) None)) [
        | None ↦ λ _. refl
        | Some r ↦ λ is. sym (ap (passes (of a f) q) (inside q r is))
      ] refl
      ∙ sym (ap (passes (of a f) q) (part_get q))

  -- no more rows than in the whole
  pub no_more : (a : IdBytes) (f : ℕ) → count (of a f) row ≤ count (of a f) whole
  no_more a f =
      let same : count (of a f) row ≡ count (of a f) part = count_alike row_order (of a f) row part (part_alike a f) in
      let listed : count (of a f) part ≡ tally (of a f) (where_key row_cmp held (entries whole)) =
      ap (tally (of a f)) (entries-from_sorted row_cmp (where_key row_cmp held (entries whole))
      (is_sorted-where_key row_cmp held (entries whole) (entries_sorted whole))) in
      let less = tally-filter (of a f) (λ (e : RowKey × ℕ). held e.0) (entries whole) in
      fewer _ _ _ _ same listed less
    where
      fewer : (a b c d : ℕ) → a ≡ b → b ≡ c → c ≤ d → a ≤ d
      fewer a b c d p q h = omega arith

-- where a row of the whole is not there, there is room for it
pub space : (row whole : Rows) → within row whole → (a : IdBytes) (f : ℕ) (b : IdBytes) (r : ℕ) → get row (a, f, b) ≡ None
    → get whole (a, f, b) ≡ Some r → (upper : Option ℕ)
    → is_within (count (λ (e : RowKey × ℕ). is_of a f e.0) whole) upper ≡ true → is_below (count (λ (e : RowKey × ℕ). is_of a f e.0) row) upper ≡ true
space row whole inside a f b r none some None bound = refl
space row whole inside a f b r none some (Some upper) bound =
    let k : RowKey = (a, f, b) in
    let next : Rows = set row k (Some r) in
    let inside' : within next whole = λ q v. by_key row_order (λ q. get next q ≡ Some v → get whole q ≡ Some v) k q
    (λ is. some ∙ (sym (get-set_same row_order row k (Some r)) ∙ is))
    (λ other is. inside q v (sym (get-set_other row_order row k (Some r) q other) ∙ is)) in
    let less = no_more next whole inside' a f in
    let sum : count (of a f) next + counts (of a f) k (get row k) ≡ count (of a f) row + counts (of a f) k (Some r) =
    count-set row_order (of a f) row k (Some r) in
    let was : counts (of a f) k (get row k) ≡ 0 = ap (counts (of a f) k) none in
    let now : ◌≡◌ {A = ℕ} (counts (of a f) k (Some r)) 1 =
    ap (λ t. cond t 1 0) (and_both (text_eq a a) (nat_eq f f) (text_equality.own a) (nat_equality.own f)) in
    below (count (of a f) row) (count (of a f) next) (count (of a f) whole) _ _ upper sum was now less bound
  where
    below : (n k w c d upper : ℕ) → k + c ≡ n + d → c ≡ 0 → d ≡ 1 → k ≤ w → is_within w (Some upper) ≡ true → is_below n (Some upper) ≡ true
    below n k w c d upper sum was now less bound = grind (arith, nat_tests)

-- ---- after the turns of a document
module _ (names : List IdBytes) (differ : ids_differ names ≡ true) (i : ℕ) (small : i < length names) (h : ℕ) where
  abbrev p : RowKey × ℕ → Bool
  p e = is_of (name_at names i) h e.0

  mine : (t : Turn) → t.row < length names → p (key_of names t, rank_of t.index) ≡ is_mine i h t
  mine t less = ap (λ b. b && nat_eq h t.feature) (same_at names differ i t.row small less)

  pub count_turns : (ts : List Turn) (row : Rows) → Each (λ t. t.row < length names) ts
      → count (λ (e : RowKey × ℕ). is_of (name_at names i) h e.0) (turns_set names row ts) ≤ count
      (λ (e : RowKey × ℕ). is_of (name_at names i) h e.0) row + tally (is_mine i h) ts
  count_turns [] row all = own (count p row)
    where
      own : (n : ℕ) → n ≤ n + 0
      own n = omega arith
  count_turns (t ∷ ts) row all =
      let k = key_of names t in
      let next = turn_set names row t in
      let rest = count_turns ts next all.1 in
      let sum : count p next + counts p k (get row k) ≡ count p row + counts p k (Some (rank_of t.index)) =
      count-set row_order p row k (Some (rank_of t.index)) in
      let one : ◌≡◌ {A = ℕ} (counts p k (Some (rank_of t.index))) (cond (is_mine i h t) 1 0) = ap (λ b. cond b 1 0) (mine t all.0) in
      added (count p (turns_set names next ts)) (count p next) (counts p k (get row k)) (count p row) (counts p k (Some (rank_of t.index)))
      (cond (is_mine i h t) 1 0) (tally (is_mine i h) ts) rest sum one
    where
      added : (last next was row one one' more : ℕ) → last ≤ next + more → next + was ≡ row + one → one ≡ one' → last ≤ row + (one' + more)
      added last next was row one one' more h g e = omega arith
