-- What holds of paths, heads and merge bases.
use Rattle.std.specs.Prelude.{◌≡◌, ◌≢◌, ℕ, ◌<◌, ◌≤◌, List, [], ◌∷◌, ◌++◌, Option, None, Some, length, slice_get, All}
use Rattle.history_tree.specs.declared.version.Version.{Version}
use Rattle.history_tree.specs.History.{History, with_version, path, start_of, head}
use Rattle.history_tree.specs.Whole.{IsWhole}
use Rattle.history_tree.specs.MergeBase.{last_common, merge_base, IsLastCommon, IsMergeBase}

-- the path of a parent, where there is one
abbrev pub path_of_parent : History → Option ℕ → List ℕ
path_of_parent h None = []
path_of_parent h (Some parent) = path h parent

-- the path of a version is that of its parent, and then the version itself
abbrev pub PathsGoByParents : Type 0
PathsGoByParents = (h : History) → IsWhole h → (v : ℕ) (version : Version) → slice_get h.versions v ≡ Some version
    → path h v ≡ path_of_parent h version.parent ++ v ∷ []

-- each number is below all that follow it
abbrev pub Rises : List ℕ → Type 0
Rises [] = Unit {0}
Rises (u ∷ us) = All (λ v. u < v) us × Rises us

-- the list begins with version 0, rises, and ends with that version
pub record LeadsTo (v : ℕ) (us : List ℕ) : Type 0 where
  pub first : slice_get us 0 ≡ Some 0
  pub rises : Rises us
  pub last : (before : List ℕ) × (us ≡ before ++ v ∷ [])

-- so does each path
abbrev pub PathsLead : Type 0
PathsLead = (h : History) → IsWhole h → (v : ℕ) → v < length h.versions → LeadsTo v (path h v)

-- a further version leaves the path of each version that is there
abbrev pub PathsStay : Type 0
PathsStay = (h : History) (version : Version) (v : ℕ) → v < length h.versions → path (with_version h version) v ≡ path h v

-- the last version on a branch is its head
abbrev pub HeadIsLast : Type 0
HeadIsLast = (h : History) (v : ℕ) (version : Version) → slice_get h.versions v ≡ Some version
    → ((u : ℕ) (x : Version) → v < u → slice_get h.versions u ≡ Some x → x.branch ≢ version.branch) → head h version.branch ≡ v

-- a branch without a version has its start as its head
abbrev pub HeadIsStart : Type 0
HeadIsStart = (h : History) (branch : ℕ) → ((u : ℕ) (x : Version) → slice_get h.versions u ≡ Some x → x.branch ≢ branch) → head h branch ≡ start_of h branch

-- a further version is the head of its branch
abbrev pub LastIsHead : Type 0
LastIsHead = (h : History) (version : Version) → head (with_version h version) version.branch ≡ length h.versions

-- and leaves the head of each other branch
abbrev pub OtherHeadsStay : Type 0
OtherHeadsStay = (h : History) (version : Version) (branch : ℕ) → version.branch ≢ branch → head (with_version h version) branch ≡ head h branch

-- the last common version is on both paths, and no later one is
abbrev pub LastCommonIsLast : Type 0
LastCommonIsLast = (h : History) → IsWhole h → (a b : ℕ) → a < length h.versions → b < length h.versions → IsLastCommon h a b (last_common h a b)

-- the merge base is the last version on the other's path that is on the base's path or counts as merged
abbrev pub MergeBaseIsLast : Type 0
MergeBaseIsLast = (h : History) → IsWhole h → (base : ℕ) (pending : List ℕ) (other : ℕ) → base < length h.versions → other < length h.versions
    → IsMergeBase h base pending other (merge_base h base pending other)

-- it doesn't come before the last common version
abbrev pub MergeBaseIsAfterCommon : Type 0
MergeBaseIsAfterCommon = (h : History) → IsWhole h → (base : ℕ) (pending : List ℕ) (other : ℕ) → base < length h.versions → other < length h.versions
    → last_common h base other ≤ merge_base h base pending other
