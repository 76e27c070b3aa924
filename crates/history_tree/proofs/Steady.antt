-- What a further version and a further branch leave: operations of versions, heads, and what is on the paths of heads.
use Rattle.std.proofs.Common.{◌≡◌, ◌≢◌, ℕ, zero, suc, ◌+◌, ◌<◌, ◌≤◌, nat_eq, Bool, true, false, cond, List, [], ◌∷◌, ◌++◌, length, refl, sym, ◌∙◌, ap}
use Rattle.std.proofs.Common.{subst, arith, length-append, append_assoc, append-nil, true≢false}
use Rattle.std.specs.Prelude.{All, Contains, Option, None, Some, is_some, slice_get}
use Rattle.std.specs.List.{AllByRecursion}
use Rattle.std.specs.Option.{option_map_or}
use Rattle.std.proofs.lemmas.Bool.{eqb-true}
use Rattle.std.proofs.lemmas.List.Elements.{All-push, All-weaker, All-from_recursion, recursion_from_All, Contains-append_left, Contains-push}
use Rattle.std.proofs.lemmas.Option.{slice_get-get_or}
use Rattle.std.specs.List.{slice_index_or}
use Rattle.model_state.specs.declared.operation.Operation.{Operation}
use Rattle.history_tree.specs.declared.version.Version.{Version}
use Rattle.history_tree.specs.declared.version.Branch.{Branch}
use Rattle.history_tree.specs.declared.version.Tag.{Tag}
use Rattle.history_tree.specs.History.{History, first_version, first_history, with_version, with_branch, with_tag, path, path_at, path_before}
use Rattle.history_tree.specs.History.{paths_from, last_on, head}
use Rattle.history_tree.specs.States.{package_of_version, operations_of, operations_to}
use Rattle.history_tree.specs.Whole.{IsWhole, ComesBefore}
use Rattle.history_tree.specs.Laws.{path_of_parent}
use Rattle.history_tree.proofs.Heads.{head_within, head_more, head_other, other_number, same_number}
use Rattle.history_tree.proofs.Paths.{get_left, get_last, path_kept, path_more, path_by_parent, parent_before}

-- ---- lists
module _ {X : Type 0} (P : X → Type 0) where
  all_both : (xs ys : List X) → AllByRecursion P xs → AllByRecursion P ys → AllByRecursion P (xs ++ ys)
  all_both [] ys first second = second
  all_both (x ∷ xs) ys first second = (first.0, all_both xs ys first.1 second)

-- ---- each version of a path is there
abbrev pub AreBelow : ℕ → List ℕ → Type 0
AreBelow n vs = AllByRecursion (λ v. v < n) vs

below_at : (n : ℕ) (paths : List (List ℕ)) (k : ℕ) → AllByRecursion (AreBelow n) paths → AreBelow n (path_at paths k)
below_at n [] k all = tt
below_at n (p ∷ ps) zero all = all.0
below_at n (p ∷ ps) (suc k) all = below_at n ps k all.1

below_behind : (n : ℕ) (paths : List (List ℕ)) (parent : Option ℕ) → AllByRecursion (AreBelow n) paths → AreBelow n (path_before paths parent)
below_behind n paths None all = tt
below_behind n paths (Some p) all = below_at n paths p all

all_below : (n : ℕ) (paths : List (List ℕ)) (vs : List Version) → AllByRecursion (AreBelow n) paths → length paths + length vs ≤ n
    → AllByRecursion (AreBelow n) (paths_from paths vs)
all_below n paths [] all fits = all
all_below n paths (v ∷ vs) all fits =
    let p : List ℕ = path_before paths v.parent ++ length paths ∷ [] in
    let next : AreBelow n p =
    all_both (λ u. u < n) (path_before paths v.parent) (length paths ∷ []) (below_behind n paths v.parent all) (omega (arith, fits), tt) in
    all_below n (paths ++ p ∷ []) vs (all_both (AreBelow n) paths (p ∷ []) all (next, tt)) (omega (arith, fits, length-append paths (p ∷ [])))

pub path_below : (h : History) (v : ℕ) → AreBelow (length h.versions) (path h v)
path_below h v = below_at (length h.versions) (paths_from [] h.versions) v (all_below (length h.versions) [] h.versions tt (omega arith))

-- so each version of a path is there
pub path_there : (h : History) (v : ℕ) → All (λ u. u < length h.versions) (path h v)
path_there h v = All-from_recursion (λ u. u < length h.versions) (path h v) (path_below h v)

-- ---- operations
package_kept : (vs : List Version) (x : Version) (u : ℕ) → u < length vs → package_of_version (vs ++ x ∷ []) u ≡ package_of_version vs u
package_kept vs x u within = ap (λ (o : Option Version). option_map_or (λ v. v.«package») o []) (get_left vs (x ∷ []) u within)

operations_same : (vs : List Version) (x : Version) (us : List ℕ) → AreBelow (length vs) us → operations_of (vs ++ x ∷ []) us ≡ operations_of vs us
operations_same vs x [] all = refl
operations_same vs x (u ∷ us) all = λ i. package_kept vs x u all.0 i ++ operations_same vs x us all.1 i

pub operations_append : (vs : List Version) (us ws : List ℕ) → operations_of vs (us ++ ws) ≡ operations_of vs us ++ operations_of vs ws
operations_append vs [] ws = refl
operations_append vs (u ∷ us) ws =
    ap (λ (l : List Operation). package_of_version vs u ++ l) (operations_append vs us ws)
    ∙ sym (append_assoc (package_of_version vs u) (operations_of vs us) (operations_of vs ws))

-- a further version leaves the operations up to each that is there
pub operations_kept : (h : History) (x : Version) (k : ℕ) → k < length h.versions → operations_to (with_version h x) k ≡ operations_to h k
operations_kept h x k within =
    ap (λ us. operations_of (h.versions ++ x ∷ []) us) (path_kept h x k within) ∙ operations_same h.versions x (path h k) (path_below h k)

-- and its own come after those up to its parent
pub operations_more : (h : History) (x : Version) (p : ℕ) → x.parent ≡ Some p → p < length h.versions
    → operations_to (with_version h x) (length h.versions) ≡ operations_to h p ++ x.«package»
operations_more h x p parent within =
    let n : ℕ = length h.versions in
    let vs : List Version = h.versions ++ x ∷ [] in
    let before : ComesBefore x.parent n = subst (λ o. ComesBefore o n) (sym parent) within in
    ap (λ us. operations_of vs us) (path_more h x before ∙ ap (λ o. path_of_parent h o ++ n ∷ []) parent)
    ∙ operations_append vs (path h p) (n ∷ [])
    ∙ (λ i. operations_same h.versions x (path h p) (path_below h p) i
    ++ (option_map_or (λ (v : Version). v.«package») (get_last h.versions x n refl i) [] ++ []))
    ∙ ap (λ (l : List Operation). operations_to h p ++ l) (append-nil x.«package»)

-- ---- what is on the path of a head
-- a version is on its own path
pub path_ends : (h : History) → IsWhole h → (k : ℕ) → k < length h.versions → Contains (path h k) k
path_ends h whole k within =
    let v : Version = slice_index_or h.versions k first_version in
    let there : slice_get h.versions k ≡ Some v = slice_get-get_or h.versions k first_version within in
    subst (λ p. Contains p k) (sym (path_by_parent h k v there (parent_before 0 h.versions k k v whole.parents there (omega arith))))
    (Contains-push (path_of_parent h v.parent) k)

-- what is on the path of a head stays on it
pub on_path_more : (h : History) (x : Version) → IsWhole h → x.parent ≡ Some (head h x.branch) → (branch u : ℕ) → Contains (path h (head h branch)) u
    → Contains (path (with_version h x) (head (with_version h x) branch)) u
on_path_more h x whole parent branch u on = by (nat_eq x.branch branch) refl
  where
    n : ℕ
    n = length h.versions

    before : ComesBefore x.parent n
    before = subst (λ o. ComesBefore o n) (sym parent) (head_within h x.branch whole)

    grown : path (with_version h x) n ≡ path h (head h x.branch) ++ n ∷ []
    grown = path_more h x before ∙ ap (λ o. path_of_parent h o ++ n ∷ []) parent

    by : (b : Bool) → nat_eq x.branch branch ≡ b → Contains (path (with_version h x) (head (with_version h x) branch)) u
    by true is =
        let same : x.branch ≡ branch = eqb-true x.branch branch is in
        let at : head (with_version h x) branch ≡ n = ap (λ b. head (with_version h x) b) (sym same) ∙ head_more h x in
        subst (λ p. Contains p u) (sym (ap (λ k. path (with_version h x) k) at ∙ grown))
        (Contains-append_left (path h (head h x.branch)) (n ∷ []) u (subst (λ b. Contains (path h (head h b)) u) (sym same) on))
    by false is =
        let apart : x.branch ≢ branch = λ e. absurd (differ (ap (λ b. nat_eq x.branch b) e ∙ is)) in
        subst (λ p. Contains p u)
        (sym (ap (λ k. path (with_version h x) k) (head_other h x branch apart) ∙ path_kept h x (head h branch) (head_within h branch whole))) on
      where
        differ : nat_eq x.branch x.branch ≡ false → ⊥
        differ e = true≢false (sym (same_number x.branch) ∙ e)

-- ---- a further branch
pub head_kept : (h : History) (name : List ℕ) (start branch : ℕ) → branch < length h.branches → head (with_branch h name start) branch ≡ head h branch
head_kept h name start branch within =
    ap (λ (o : Option Branch). last_on branch h.versions 0 (option_map_or (λ b. b.start) o 0))
    (get_left h.branches (record { name = name; start = start } ∷ []) branch within)

last_on_none : (branch : ℕ) (vs : List Version) (n found : ℕ) → AllByRecursion (λ (v : Version). v.branch < branch) vs → last_on branch vs n found ≡ found
last_on_none branch [] n found all = refl
last_on_none branch (v ∷ vs) n found all =
    let apart : v.branch ≢ branch = omega (arith, all.0) in
    ap (λ (b : Bool). last_on branch vs (suc n) (cond b n found)) (other_number v.branch branch apart) ∙ last_on_none branch vs (suc n) found all.1

-- its head is where it starts
pub head_new : (h : History) → IsWhole h → (name : List ℕ) (start : ℕ) → head (with_branch h name start) (length h.branches) ≡ start
head_new h whole name start =
    ap (λ (o : Option Branch). last_on (length h.branches) h.versions 0 (option_map_or (λ b. b.start) o 0))
    (get_last h.branches (record { name = name; start = start }) (length h.branches) refl)
    ∙ last_on_none (length h.branches) h.versions 0 start (recursion_from_All (λ (v : Version). v.branch < length h.branches) h.versions whole.branches)

pub whole_branch : (h : History) → IsWhole h → (name : List ℕ) (start : ℕ) → start < length h.versions → IsWhole (with_branch h name start)
whole_branch h whole name start within =
    let b : Branch = record { name = name; start = start } in
    let longer : length (h.branches ++ b ∷ []) ≡ length h.branches + 1 = length-append h.branches (b ∷ []) in
    record {
      some_version = whole.some_version;
      some_branch = omega (arith, longer);
      parents = whole.parents;
      branches = All-weaker (λ (v : Version). v.branch < length h.branches) (λ (v : Version). v.branch < length (h.branches ++ b ∷ []))
          (λ v on. omega (arith, on, longer)) h.versions whole.branches;
      merged = whole.merged;
      signed = whole.signed;
      starts = All-push (λ (b : Branch). b.start < length h.versions) h.branches b whole.starts within;
      tags = whole.tags;
    }

pub whole_tag : (h : History) → IsWhole h → (name : List ℕ) (version : ℕ) → version < length h.versions → IsWhole (with_tag h name version)
whole_tag h whole name version within =
    let t : Tag = record { name = name; version = version } in
    record {
      some_version = whole.some_version;
      some_branch = whole.some_branch;
      parents = whole.parents;
      branches = whole.branches;
      merged = whole.merged;
      signed = whole.signed;
      starts = whole.starts;
      tags = All-push (λ (t : Tag). t.version < length h.versions) h.tags t whole.tags within;
    }

-- the first history is whole
pub whole_first : IsWhole first_history
whole_first = record {
  some_version = omega arith;
  some_branch = omega arith;
  parents = (refl, tt);
  branches = All-from_recursion (λ (v : Version). v.branch < 1) first_history.versions (omega arith, tt);
  merged = All-from_recursion (λ (v : Version). All (λ u. u < 1) v.merged) first_history.versions (λ k d within. absurd (omega (arith, within)), tt);
  signed = All-from_recursion (λ (v : Version). is_some v.author ≡ is_some v.moment) first_history.versions (refl, tt);
  starts = All-from_recursion (λ (b : Branch). b.start < 1) first_history.branches (omega arith, tt);
  tags = λ k d within. absurd (omega (arith, within));
}
