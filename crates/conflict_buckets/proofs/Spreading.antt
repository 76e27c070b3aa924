-- Labels that are spread from operation to operation are those of the definition.
use Rattle.std.proofs.Common.{◌≡◌, ◌≢◌, ℕ, zero, suc, ◌+◌, ◌<◌, ◌≤◌, Bool, true, false, ◌||◌, List, [], ◌∷◌, ◌++◌, refl, sym, ap, subst, inl, inr}
use Rattle.std.proofs.Common.{◌∙◌, length, get_or, set, arith, replicate, length-set, length-append, get_or-set_same, get_or-set_other}
use Rattle.std.specs.Prelude.{◌⊎◌, Some, slice_get}
use Rattle.std.specs.List.{Contains}
use Rattle.std.proofs.lemmas.List.{get_or_append_left, length-replicate, ext_get_or}
use Rattle.std.proofs.Math.Seq.{get_or-append_seam}
use Rattle.std.proofs.lemmas.List.Elements.{at_from_Contains, Contains-push, Contains-append_left}
use Rattle.std.proofs.lemmas.Option.{get_or_from_slice_get, slice_get-get_or, slice_get_within, slice_get_read}
use Rattle.finite_maps.proofs.Cases.{true_false}
use Rattle.ecore_meta.specs.Meta.{Meta}
use Rattle.model_state.specs.declared.operation.Operation.{Operation}
use Rattle.footprint.specs.declared.cell.Print.{Print}
use Rattle.footprint.specs.Interference.{interferes, meets}
use Rattle.footprint.specs.Prints.{cells, shown, printed}
use Rattle.footprint.specs.Buckets.{labels}
use Rattle.footprint.proofs.Pairs.{meets_turned}
use Rattle.footprint.proofs.Printed.{as_many, places_tell}
use Rattle.merge_laws.specs.Classes.{Linked, here, next}
use Rattle.merge_laws.proofs.Exact.{at_place, labels_length}
use Rattle.merge_laws.proofs.Linked.{linked_turn, labels_are_least}
use Rattle.cell_index.specs.Near.{prints_interfere, IsMet, AllMet}
use Rattle.cell_index.proofs.Rows.{same_or_not}
use Rattle.conflict_buckets.specs.Spread.{Meets, unset, AreLinked, AreSpread, Further}

-- ---- flags
unset_less : (flags : List Bool) (k : ℕ) → k < length flags → get_or flags k false ≡ false → unset (set flags k true) + 1 ≡ unset flags
unset_less [] k low off = absurd (omega (arith, low))
unset_less (true ∷ flags) zero low off = absurd (true_false true refl off)
unset_less (false ∷ flags) zero low off = omega arith
unset_less (true ∷ flags) (suc k) low off = unset_less flags k (omega (arith, low)) off
unset_less (false ∷ flags) (suc k) low off = let rest = unset_less flags k (omega (arith, low)) off in omega (arith, rest)

unset_all : (n : ℕ) → unset (replicate n false) ≡ n
unset_all zero = refl
unset_all (suc n) = ap suc (unset_all n)

flag_kept : (flags : List Bool) (p k : ℕ) → p < length flags → get_or flags k false ≡ true → get_or (set flags p true) k false ≡ true
flag_kept flags p k low on =
    same_or_not k p (λ e. ap (λ n. get_or (set flags p true) n false) e ∙ get_or-set_same flags p true false low)
    (λ f. get_or-set_other flags p k true false f ∙ on)

flag_back : (flags : List Bool) (p k : ℕ) → get_or (set flags p true) k false ≡ true → (k ≡ p) ⊎ (get_or flags k false ≡ true)
flag_back flags p k on = same_or_not k p (λ e. inl e) (λ f. inr (sym (get_or-set_other flags p k true false f) ∙ on))

-- ---- operations that interfere
turned : (a b c d : Bool) → a ≡ d → a || (b || c) ≡ d || (c || b)
turned true b c d e = ap (λ x. x || (c || b)) e
turned false true true d e = ap (λ x. x || true) e
turned false true false d e = ap (λ x. x || true) e
turned false false true d e = ap (λ x. x || true) e
turned false false false d e = ap (λ x. x || false) e

interfere_turned : (p q : Print) → prints_interfere p q ≡ prints_interfere q p
interfere_turned p q = turned (meets (cells p.writes) (cells q.writes)) (meets (cells p.writes) (cells q.reads))
    (meets (cells q.writes) (cells p.reads)) (meets (cells q.writes) (cells p.writes)) (meets_turned (cells p.writes) (cells q.writes))

meets_turn : (prints : List Print) (i k : ℕ) → Meets prints i k → Meets prints k i
meets_turn prints i k m = record { one = m.other; other = m.one; first = m.second; second = m.first; meets = interfere_turned m.other m.one ∙ m.meets }

-- they are linked
linked_on : (prints : List Print) (start i k : ℕ) → AreLinked prints start i → Meets prints i k → AreLinked prints start k
linked_on prints start i k on m meta ops is =
    let many = as_many meta prints ops is in
    let low : i < length ops = subst (λ n. i < n) many (slice_get_within prints i m.one m.first) in
    let high : k < length ops = subst (λ n. k < n) many (slice_get_within prints k m.other m.second) in
    let a = at_place ops i low in
    let b = at_place ops k high in
    let tells = places_tell meta prints ops i k m.one m.other a.0 b.0 is low high (sym (get_or_from_slice_get prints i m.one m.one m.first))
    (sym (get_or_from_slice_get prints k m.other m.other m.second)) (sym (get_or_from_slice_get ops i a.0 a.0 a.1))
    (sym (get_or_from_slice_get ops k b.0 b.0 b.1)) in
    next (on meta ops is) a.1 b.1 (sym tells ∙ m.meets)

-- what the index finds near the operation at a position
pub met_meets : (prints : List Print) (place k : ℕ) (p : Print) → place < length prints → p ≡ get_or prints place p → IsMet prints p k → Meets prints place k
met_meets prints place k p low is met = record {
  one = p;
  other = get_or prints k p;
  first = slice_get_read prints (length prints) place p refl low is;
  second = slice_get-get_or prints k p met.low;
  meets = met.meets;
}

meets_met : (prints : List Print) (place k : ℕ) (p : Print) → place < length prints → p ≡ get_or prints place p → Meets prints place k → IsMet prints p k
meets_met prints place k p low is m =
    let same : m.one ≡ p = sym (get_or_from_slice_get prints place m.one p m.first) ∙ sym is in
    record {
      low = slice_get_within prints k m.other m.second;
      meets = (λ i. prints_interfere (sym same i) (get_or_from_slice_get prints k m.other p m.second i)) ∙ m.meets;
    }

-- ---- the beginning
pub spread_begin : (prints : List Print) (ls : List ℕ) (flags : List Bool) (order : List ℕ) → length ls ≡ length prints
    → ((k : ℕ) → k < length prints → get_or ls k 0 ≡ k) → flags ≡ replicate (length prints) false → order ≡ []
    → AreSpread prints 0 (length order) ls flags order
spread_begin prints ls flags order size own unset_is none = record {
  labels_size = size;
  reached_size = ap length unset_is ∙ length-replicate (length prints) false;
  count = let e = ap length none in let f = ap unset unset_is ∙ unset_all (length prints) in omega (arith, e, f);
  low = λ k there. let e = own k there in omega (arith, e);
  linked = λ k there meta ops is. subst (λ l. Linked meta ops l k) (sym (own k there)) here;
  ordered = λ k on. absurd (off k (subst (λ l. get_or l k false ≡ true) unset_is on));
  below = λ m there. absurd (no_place m (subst (λ l. m < length l) none there));
  within = omega arith;
  done = λ m k low meets. absurd (no_place m (subst (λ l. m < length l) none low));
  waiting = λ m low there. absurd (no_place m (subst (λ l. m < length l) none there));
  before = λ k under. absurd (omega (arith, under));
}
  where
    no_place : (m : ℕ) → m < 0 → ⊥
    no_place m h = omega (arith, h)

    never : (n k : ℕ) → get_or (replicate n false) k false ≡ true → ⊥
    never zero k on = true_false false on refl
    never (suc n) zero on = true_false false on refl
    never (suc n) (suc k) on = never n k on

    off : (k : ℕ) → get_or (replicate (length prints) false) k false ≡ true → ⊥
    off k on = never (length prints) k on

-- ---- one operation more is reached
module _ (prints : List Print) (start at place : ℕ) (ls : List ℕ) (flags : List Bool) (order : List ℕ) (is : AreSpread prints start at ls flags order)
    (there : place < length prints) (new : get_or flags place false ≡ false) (linked : AreLinked prints start place) where
  in_labels : place < length ls
  in_labels = let e = is.labels_size in omega (arith, e, there)

  in_flags : place < length flags
  in_flags = let e = is.reached_size in omega (arith, e, there)

  -- what was reached before is another position
  other : (k : ℕ) → get_or flags k false ≡ true → k ≢ place
  other k on e = true_false (get_or flags k false) on (ap (λ n. get_or flags n false) e ∙ new)

  label_kept : (k : ℕ) → get_or flags k false ≡ true → get_or (set ls place start) k 0 ≡ get_or ls k 0
  label_kept k on = get_or-set_other ls place k start 0 (other k on)

  stands : (m : ℕ) → m < length order → get_or (order ++ place ∷ []) m 0 ≡ get_or order m 0
  stands m low = get_or_append_left order (place ∷ []) 0 m low

  longer : length (order ++ place ∷ []) ≡ suc (length order)
  longer = let e = length-append order (place ∷ []) in omega (arith, e)

  last : get_or (order ++ place ∷ []) (length order) 0 ≡ place
  last = get_or-append_seam order place [] 0

  -- a position of the longer order is one of the order, or the last
  by_place : (P : ℕ → Type 0) (m : ℕ) → m < length (order ++ place ∷ []) → (m < length order → P (get_or order m 0)) → (m ≡ length order → P place)
      → P (get_or (order ++ place ∷ []) m 0)
  by_place P m low old own = same_or_not m (length order)
      (λ e. subst P (sym (ap (λ n. get_or (order ++ place ∷ []) n 0) e ∙ last)) (own e))
      (λ f. let size = longer in let under : m < length order = less m (length order) (omega (arith, low, size)) f
      in subst P (sym (stands m under)) (old under))
    where
      less : (m n : ℕ) → m < suc n → (m ≡ n → ⊥) → m < n
      less m n h f = same_or_not m n (λ e. absurd (f e)) (λ g. omega (arith, h, g))

  not_before : start ≤ place
  not_before = by_order start place (λ under. true_false (get_or flags place false) (is.before place under) new)
    where
      by_order : (a b : ℕ) → (b < a → ⊥) → a ≤ b
      by_order a b out = omega (arith, out)

  pub reach_spread : AreSpread prints start at (set ls place start) (set flags place true) (order ++ place ∷ [])
  reach_spread = record {
    labels_size = length-set ls place start ∙ is.labels_size;
    reached_size = length-set flags place true ∙ is.reached_size;
    count = let less = unset_less flags place in_flags new in let size = longer in let was = is.count in omega (arith, less, size, was);
    low = λ k within. same_or_not k place
        (λ e. let l = ap (λ n. get_or (set ls place start) n 0) e ∙ get_or-set_same ls place start 0 in_labels in let least = not_before
        in omega (arith, l, least, e))
        (λ f. let l = get_or-set_other ls place k start 0 f in let was = is.low k within in omega (arith, l, was));
    linked = λ k within. same_or_not k place
        (λ e. subst (λ l. AreLinked prints l k) (sym (ap (λ n. get_or (set ls place start) n 0) e ∙ get_or-set_same ls place start 0 in_labels))
        (subst (AreLinked prints start) (sym e) linked))
        (λ f. subst (λ l. AreLinked prints l k) (sym (get_or-set_other ls place k start 0 f)) (is.linked k within));
    ordered = λ k on. elim (flag_back flags place k on) [
      | inl e ↦ subst (Contains (order ++ place ∷ [])) (sym e) (Contains-push order place)
      | inr was ↦ Contains-append_left order (place ∷ []) k (is.ordered k was)
    ];
    below = λ m within. by_place (λ x. (x < length prints) × (get_or (set flags place true) x false ≡ true)) m within
        (λ low. ((is.below m low).0, flag_kept flags place (get_or order m 0) in_flags (is.below m low).1))
        (λ e. (there, get_or-set_same flags place true false in_flags));
    within = let was = is.within in let size = longer in omega (arith, was, size);
    done = λ m k passed meets.
        let top = is.within in
        let low : m < length order = omega (arith, top, passed) in
        let same = stands m low in
        let was = is.done m k passed (subst (λ x. Meets prints x k) same meets) in (
          flag_kept flags place k in_flags was.0,
          label_kept k was.0 ∙ was.1 ∙ sym (label_kept (get_or order m 0) (is.below m low).1)
              ∙ ap (λ x. get_or (set ls place start) x 0) (sym same),
        );
    waiting = λ m past within. by_place (λ x. get_or (set ls place start) x 0 ≡ start) m within
        (λ low. label_kept (get_or order m 0) (is.below m low).1 ∙ is.waiting m past low)
        (λ e. get_or-set_same ls place start 0 in_labels);
    before = λ k under. flag_kept flags place k in_flags (is.before k under);
  }

  pub reach_further : Further flags (set flags place true) order (order ++ place ∷ [])
  reach_further = record {
    kept = λ k on. flag_kept flags place k in_flags on;
    stands = λ m low. let size = longer in (omega (arith, low, size), stands m low);
  }

  pub reach_here : get_or (set flags place true) place false ≡ true
  reach_here = get_or-set_same flags place true false in_flags

-- a flag that is read
pub flag_read : (flags : List Bool) (i : ℕ) (b : Bool) → i < length flags → b ≡ get_or flags i b → get_or flags i false ≡ b
flag_read [] i b low is = absurd (omega (arith, low))
flag_read (f ∷ flags) zero b low is = sym is
flag_read (f ∷ flags) (suc i) b low is = flag_read flags i b (omega (arith, low)) is

-- by what the calls leave
pub reached_by : (prints : List Print) (start at place : ℕ) (ls made : List ℕ) (flags more : List Bool) (order longer : List ℕ)
    → AreSpread prints start at ls flags order → place < length prints → get_or flags place false ≡ false → AreLinked prints start place
    → made ≡ set ls place start → more ≡ set flags place true → longer ≡ order ++ place ∷ [] → AreSpread prints start at made more longer
reached_by prints start at place ls made flags more order longer is there new linked l f o =
    subst (λ x. AreSpread prints start at x more longer) (sym l)
    (subst (λ x. AreSpread prints start at (set ls place start) x longer) (sym f)
    (subst (λ x. AreSpread prints start at (set ls place start) (set flags place true) x) (sym o)
    (reach_spread prints start at place ls flags order is there new linked)))

-- ---- one by one
pub further_same : (flags : List Bool) (order : List ℕ) → Further flags flags order order
further_same flags order = record { kept = λ k on. on; stands = λ m low. (low, refl) }

pub further_on : (f g h : List Bool) (o p q : List ℕ) → Further f g o p → Further g h p q → Further f h o q
further_on f g h o p q x y = record {
  kept = λ k on. y.kept k (x.kept k on);
  stands = λ m low. let first = x.stands m low in let second = y.stands m first.0 in (second.0, second.1 ∙ first.1);
}

-- what is found near an operation that waits is linked with its label
pub near_linked : (prints : List Print) (start at place : ℕ) (ls : List ℕ) (flags : List Bool) (order : List ℕ) (p : Print) (near : List ℕ)
    → AreSpread prints start at ls flags order → at < length order → place ≡ get_or order at 0 → p ≡ get_or prints place p
    → AllMet prints p near → (k : ℕ) → Contains near k → AreLinked prints start k
near_linked prints start at place ls flags order p near is low place_is p_is all k on =
    let there : place < length prints = subst (λ n. n < length prints) (sym place_is) (is.below at low).0 in
    let label : get_or ls place 0 ≡ start = ap (λ n. get_or ls n 0) place_is ∙ is.waiting at (omega arith) low in
    linked_on prints start place k (subst (λ l. AreLinked prints l place) label (is.linked place there)) (met_meets prints place k p there p_is (all k on))

-- one number is below another, or it isn't
less_or_not : (m n : ℕ) {G : Type 0} → (m < n → G) → (n ≤ m → G) → G
less_or_not zero zero low high = high (omega arith)
less_or_not zero (suc n) low high = low (omega arith)
less_or_not (suc m) zero low high = high (omega arith)
less_or_not (suc m) (suc n) low high = less_or_not m n (λ h. low (omega (arith, h))) (λ h. high (omega (arith, h)))

-- once all that interfere with it are reached, it is passed
module _ (prints : List Print) (start at : ℕ) (ls : List ℕ) (flags : List Bool) (order : List ℕ) (is : AreSpread prints start at ls flags order)
    (low : at < length order) (all : (k : ℕ) → Meets prints (get_or order at 0) k → get_or flags k false ≡ true) where
  same_label : (k : ℕ) → Meets prints (get_or order at 0) k → get_or ls k 0 ≡ get_or ls (get_or order at 0) 0
  same_label k meets =
      let found = at_from_Contains order k (is.ordered k (all k meets)) in
      let e : get_or order found.0 0 ≡ k = found.2 0 in
      ap (λ n. get_or ls n 0) (sym e)
      ∙ less_or_not found.0 at
      (λ passed. sym (is.done found.0 (get_or order at 0) passed
      (subst (λ x. Meets prints x (get_or order at 0)) (sym e) (meets_turn prints (get_or order at 0) k meets))).1)
      (λ waits. is.waiting found.0 waits found.1 ∙ sym (is.waiting at (omega arith) low))

  pub passed_one : AreSpread prints start (at + 1) ls flags order
  passed_one = record {
    labels_size = is.labels_size;
    reached_size = is.reached_size;
    count = is.count;
    low = is.low;
    linked = is.linked;
    ordered = is.ordered;
    below = is.below;
    within = omega (arith, low);
    done = λ m k passed meets. less_or_not m at
        (λ before. is.done m k before meets)
        (λ over.
        let e : m ≡ at = omega (arith, over, passed) in
        let now : Meets prints (get_or order at 0) k = subst (λ n. Meets prints (get_or order n 0) k) e meets in
        (all k now, same_label k now ∙ ap (λ n. get_or ls (get_or order n 0) 0) (sym e)));
    waiting = λ m past within. is.waiting m (omega (arith, past)) within;
    before = is.before;
  }

-- all that interfere with an operation that waits are reached, where those are that weren't
pub all_reached : (prints : List Print) (start at place : ℕ) (ls : List ℕ) (flags more : List Bool) (order longer : List ℕ) (p : Print)
    (near : List ℕ) → AreSpread prints start at ls flags order → at < length order → place ≡ get_or order at 0 → p ≡ get_or prints place p
    → ((k : ℕ) → get_or flags k false ≡ false → IsMet prints p k → Contains near k) → ((k : ℕ) → Contains near k → get_or more k false ≡ true)
    → Further flags more order longer
    → (k : ℕ) → Meets prints (get_or longer at 0) k → get_or more k false ≡ true
all_reached prints start at place ls flags more order longer p near is low place_is p_is found all further k meets =
    let there : place < length prints = subst (λ n. n < length prints) (sym place_is) (is.below at low).0 in
    let same : get_or longer at 0 ≡ place = (further.stands at low).1 ∙ sym place_is in
    let met : IsMet prints p k = meets_met prints place k p there p_is (subst (λ x. Meets prints x k) same meets) in
    by (get_or flags k false) refl met
  where
    by : (b : Bool) → get_or flags k false ≡ b → IsMet prints p k → get_or more k false ≡ true
    by true on met = further.kept k on
    by false off met = all k (found k off met)

-- ---- from start to start
pub start_on : (prints : List Print) (start at : ℕ) (ls : List ℕ) (flags : List Bool) (order : List ℕ) → AreSpread prints start at ls flags order
    → length order ≤ at → get_or flags start false ≡ true → AreSpread prints (start + 1) (length order) ls flags order
start_on prints start at ls flags order is past on = record {
  labels_size = is.labels_size;
  reached_size = is.reached_size;
  count = is.count;
  low = is.low;
  linked = is.linked;
  ordered = is.ordered;
  below = is.below;
  within = omega arith;
  done = λ m k passed meets. is.done m k (omega (arith, passed, past)) meets;
  waiting = λ m over within. absurd (omega (arith, over, within));
  before = λ k under. same_or_not k start (λ e. ap (λ n. get_or flags n false) e ∙ on) (λ f. is.before k (less k start under f));
}
  where
    less : (m n : ℕ) → m < n + 1 → (m ≡ n → ⊥) → m < n
    less m n h f = same_or_not m n (λ e. absurd (f e)) (λ g. omega (arith, h, g))

-- how many are left to pass
pub few_left : (prints : List Print) (start at : ℕ) (ls : List ℕ) (flags : List Bool) (order : List ℕ) → AreSpread prints start at ls flags order
    → at < length order → at < length prints
few_left prints start at ls flags order is low = let e = is.count in omega (arith, e, low)

-- ---- in the end
module _ (meta : Meta) (prints : List Print) (ops : List Operation) (ls : List ℕ) (flags : List Bool) (order : List ℕ) (start : ℕ)
    (shows : shown prints ≡ printed meta ops) (is : AreSpread prints start (length order) ls flags order) (past : length prints ≤ start) where
  many : length prints ≡ length ops
  many = as_many meta prints ops shows

  -- operations that interfere have one label
  close : (i k : ℕ) (a b : Operation) → slice_get ops i ≡ Some a → slice_get ops k ≡ Some b → interferes meta a b ≡ true → get_or ls i 0 ≡ get_or ls k 0
  close i k a b at_i at_k on =
      let size = many in
      let low : i < length ops = slice_get_within ops i a at_i in
      let high : k < length ops = slice_get_within ops k b at_k in
      let p = at_place prints i (omega (arith, size, low)) in
      let q = at_place prints k (omega (arith, size, high)) in
      let tells = places_tell meta prints ops i k p.0 q.0 a b shows low high (sym (get_or_from_slice_get prints i p.0 p.0 p.1))
      (sym (get_or_from_slice_get prints k q.0 q.0 q.1)) (sym (get_or_from_slice_get ops i a a at_i)) (sym (get_or_from_slice_get ops k b b at_k)) in
      let meets : Meets prints i k = record { one = p.0; other = q.0; first = p.1; second = q.1; meets = tells ∙ on } in
      let found = at_from_Contains order i (is.ordered i (is.before i (omega (arith, size, low, past)))) in
      let e : get_or order found.0 0 ≡ i = found.2 0 in
      let done = is.done found.0 k found.1 (subst (λ x. Meets prints x k) (sym e) meets) in
      ap (λ n. get_or ls n 0) (sym e) ∙ sym done.1

  linked_same : (i k : ℕ) → Linked meta ops i k → get_or ls i 0 ≡ get_or ls k 0
  linked_same i k here = refl
  linked_same i k (next {j = m} {a = x} {b = y} g a b on) = linked_same i m g ∙ close m k x y a b on

  label_is : (i : ℕ) → i < length ls → get_or ls i 0 ≡ get_or (labels meta ops) i 0
  label_is i low =
      let size = many in
      let own = is.labels_size in
      let o = at_place ops i (omega (arith, size, own, low)) in
      let least = labels_are_least meta ops i o.0 o.1 in
      let there : i < length prints = omega (arith, own, low) in
      let up : least.0 ≤ get_or ls i 0 = least.3 (get_or ls i 0) (linked_turn meta ops (get_or ls i 0) i (is.linked i there meta ops shows)) in
      let same = linked_same i least.0 least.2 in
      let down : get_or ls least.0 0 ≤ least.0 = is.low least.0 (omega (arith, least.3 i here, there)) in
      let found : get_or ls i 0 ≡ least.0 = omega (arith, up, same, down) in
      found ∙ sym (get_or_from_slice_get (labels meta ops) i least.0 0 least.1)

  pub labels_are : ls ≡ labels meta ops
  labels_are =
      let size = many in
      let own = is.labels_size in
      let long = labels_length meta ops in
      ext_get_or 0 ls (labels meta ops) (omega (arith, size, own, long)) label_is
