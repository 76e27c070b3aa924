-- Merge bases go by parents, from the ends of the paths.
use Rattle.std.proofs.Common.{◌≡◌, ℕ, suc, ◌<◌, ◌≤◌, Bool, true, false, ◌||◌, List, [], ◌∷◌, ◌++◌, length, refl, sym, ◌∙◌, ap, arith, nat_eq, inl, inr}
use Rattle.std.specs.Prelude.{All, Contains, ◌⊎◌, Option, None, Some, slice_get}
use Rattle.std.specs.List.{filter, slice_index_or}
use Rattle.std.proofs.lemmas.List.Elements.{All-weaker, All-nil}
use Rattle.std.proofs.lemmas.Bool.{ne_eqb, or_left, or_right}
use Rattle.std.proofs.lemmas.Option.{slice_get-get_or}
use Rattle.history_tree.specs.declared.version.Version.{Version}
use Rattle.history_tree.specs.History.{History, first_version, path}
use Rattle.history_tree.specs.Laws.{path_of_parent}
use Rattle.history_tree.specs.Whole.{ComesBefore, IsWhole}
use Rattle.history_tree.specs.MergeBase.{is_among, counts_as_merged, is_known, greatest, last_common, merge_base, IsLastCommon, IsKnown, IsMergeBase}
use Rattle.history_tree.proofs.Greatest.{filter_same, filter_without, greatest_last, among_of, of_among, not_among, greatest_is}
use Rattle.history_tree.proofs.Leading.{path_leads, path_upto}
use Rattle.history_tree.proofs.Paths.{path_by_parent, parent_before}
use Rattle.history_tree.proofs.Steady.{path_ends}

-- ---- a path and its last version
-- a path is what comes before its version, and the version
pub record Ends (h : History) (v : ℕ) : Type 0 where
  pub before : List ℕ
  pub is : path h v ≡ before ++ v ∷ []
  pub below : All (λ u. u < v) before

below_parent : (h : History) → IsWhole h → (v : ℕ) → v < length h.versions → (parent : Option ℕ) → ComesBefore parent v
    → All (λ u. u < v) (path_of_parent h parent)
below_parent h whole v there None low = All-nil (λ u. u < v)
below_parent h whole v there (Some p) low =
    All-weaker (λ u. u < suc p) (λ u. u < v) (λ u within. omega (arith, within, low)) (path h p) (path_upto h whole p (omega (arith, low, there)))

pub ends : (h : History) → IsWhole h → (v : ℕ) → v < length h.versions → Ends h v
ends h whole v there =
    let version : Version = slice_index_or h.versions v first_version in
    let at : slice_get h.versions v ≡ Some version = slice_get-get_or h.versions v first_version there in
    let low = parent_before 0 h.versions v v version whole.parents at (omega arith) in
    record {
      before = path_of_parent h version.parent;
      is = path_by_parent h v version at low;
      below = below_parent h whole v there version.parent low;
    }

-- version 0 is on each path
pub on_path_first : (h : History) → IsWhole h → (v : ℕ) → v < length h.versions → Contains (path h v) 0
on_path_first h whole v there = first (path h v) (path_leads h whole v there).first
  where
    first : (us : List ℕ) → slice_get us 0 ≡ Some 0 → Contains us 0
    first [] is = absurd cc
    first (u ∷ us) is = (0, omega arith, cc)

-- ---- the last that passes
-- it is the end of the path, where that passes
pub passes_last : (h : History) → IsWhole h → (p : ℕ → Bool) (v : ℕ) → v < length h.versions → p v ≡ true → greatest (filter p (path h v)) ≡ v
passes_last h whole p v there passes =
    let end = ends h whole v there in
    ap (λ us. greatest (filter p us)) end.is ∙ greatest_last p end.before v passes end.below

-- else it is that of the parent's path
pub passes_before : (h : History) (p : ℕ → Bool) (v parent : ℕ) → path h v ≡ path h parent ++ v ∷ [] → p v ≡ false
    → greatest (filter p (path h v)) ≡ greatest (filter p (path h parent))
passes_before h p v parent is fails = ap (λ us. greatest (filter p us)) is ∙ ap greatest (filter_without p (path h parent) v fails)

-- ---- the last common version
-- a version alone on its path
pub common_same : (h : History) → IsWhole h → (a : ℕ) → a < length h.versions → last_common h a a ≡ a
common_same h whole a there = passes_last h whole (is_among (path h a)) a there (among_of (path h a) a (path_ends h whole a there))

-- no version after a's is on its path
after_end : (h : History) → IsWhole h → (a b : ℕ) → a < length h.versions → a < b → is_among (path h a) b ≡ false
after_end h whole a b there later =
    not_among (path h a) b
    (All-weaker (λ u. u < suc a) (λ u. nat_eq b u ≡ false) (λ u within. ne_eqb b u (λ e. omega (arith, within, later, e))) (path h a)
    (path_upto h whole a there))

-- the later end is passed over
pub common_second : (h : History) → IsWhole h → (a b parent : ℕ) → a < length h.versions → a < b → path h b ≡ path h parent ++ b ∷ []
    → last_common h a parent ≡ last_common h a b
common_second h whole a b parent there later is = sym (passes_before h (is_among (path h a)) b parent is (after_end h whole a b there later))

pub common_first : (h : History) → IsWhole h → (a b parent : ℕ) → b < length h.versions → b < a → path h a ≡ path h parent ++ a ∷ []
    → last_common h parent b ≡ last_common h a b
common_first h whole a b parent there later is =
    ap greatest (filter_same (is_among (path h parent)) (is_among (path h a)) (path h b)
    (All-weaker (λ u. u < suc b) (λ u. is_among (path h parent) u ≡ is_among (path h a) u) same (path h b) (path_upto h whole b there)))
  where
    same : (u : ℕ) → u < suc b → is_among (path h parent) u ≡ is_among (path h a) u
    same u within = sym (ap (λ us. is_among us u) is ∙ without (path h parent))
      where
        other : nat_eq u a ≡ false
        other = ne_eqb u a (λ e. omega (arith, within, later, e))

        without : (us : List ℕ) → is_among (us ++ a ∷ []) u ≡ is_among us u
        without [] = ap (λ b. b || false) other
        without (w ∷ ws) = ap (λ b. nat_eq u w || b) (without ws)

pub common_last : (h : History) → IsWhole h → (a b : ℕ) → a < length h.versions → b < length h.versions → IsLastCommon h a b (last_common h a b)
common_last h whole a b first second =
    let most = greatest_is (is_among (path h a)) (path h b) 0 (on_path_first h whole b second) (among_of (path h a) 0 (on_path_first h whole a first)) in
    record {
      first = of_among (path h a) (last_common h a b) most.passes;
      second = most.there;
      last = λ u on_first on_second. most.last u on_second (among_of (path h a) u on_first);
    }

-- ---- the merge base
or_cases : (a b : Bool) → (a || b) ≡ true → (a ≡ true) ⊎ (b ≡ true)
or_cases true b is = inl refl
or_cases false b is = inr is

known_of : (h : History) (base : ℕ) (pending : List ℕ) (v : ℕ) → IsKnown h base pending v → is_known h base pending v ≡ true
known_of h base pending v (inl on) = or_left (is_among (path h base) v) (counts_as_merged h base pending v) (among_of (path h base) v on)
known_of h base pending v (inr merged) = or_right (is_among (path h base) v) (counts_as_merged h base pending v) merged

of_known : (h : History) (base : ℕ) (pending : List ℕ) (v : ℕ) → is_known h base pending v ≡ true → IsKnown h base pending v
of_known h base pending v is = elim (or_cases (is_among (path h base) v) (counts_as_merged h base pending v) is) [
  | inl on ↦ inl (of_among (path h base) v on)
  | inr merged ↦ inr merged
]

-- version 0 is known at each base
pub known_first : (h : History) → IsWhole h → (base : ℕ) (pending : List ℕ) → base < length h.versions → is_known h base pending 0 ≡ true
known_first h whole base pending there = known_of h base pending 0 (inl (on_path_first h whole base there))

pub base_last : (h : History) → IsWhole h → (base : ℕ) (pending : List ℕ) (other : ℕ) → base < length h.versions → other < length h.versions
    → IsMergeBase h base pending other (merge_base h base pending other)
base_last h whole base pending other first second =
    let most = greatest_is (is_known h base pending) (path h other) 0 (on_path_first h whole other second) (known_first h whole base pending first) in
    record {
      on_other = most.there;
      known = of_known h base pending (merge_base h base pending other) most.passes;
      last = λ u on is. most.last u on (known_of h base pending u is);
    }

pub base_after : (h : History) → IsWhole h → (base : ℕ) (pending : List ℕ) (other : ℕ) → base < length h.versions → other < length h.versions
    → last_common h base other ≤ merge_base h base pending other
base_after h whole base pending other first second =
    let common = common_last h whole base other first second in
    (base_last h whole base pending other first second).last (last_common h base other) common.second (inl common.first)
