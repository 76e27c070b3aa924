-- The last version that two paths have in common, and the version after which another branch is new to a workspace.
use Rattle.std.specs.Prelude.{◌≡◌, ℕ, ◌≤◌, nat_eq, List, [], Bool, true, ◌||◌, ◌⊎◌, max, fold, slice_get, Contains}
use Rattle.std.specs.List.{filter, list_any}
use Rattle.std.specs.Option.{option_map_or}
use Rattle.history_tree.specs.History.{History, path}

-- is the version one of these
abbrev pub is_among : List ℕ → ℕ → Bool
is_among versions v = list_any (nat_eq v) versions

-- is the version listed as merged by one of these
abbrev pub is_merged_by : History → List ℕ → ℕ → Bool
is_merged_by h versions v = list_any (λ u. is_among (option_map_or (λ version. version.merged) (slice_get h.versions u) []) v) versions

-- does the version count as merged at a base with that pending list
abbrev pub counts_as_merged : History → ℕ → List ℕ → ℕ → Bool
counts_as_merged h base pending v = is_among pending v || is_merged_by h (path h base) v

-- is the version on the base's path, or does it count as merged there
abbrev pub is_known : History → ℕ → List ℕ → ℕ → Bool
is_known h base pending v = is_among (path h base) v || counts_as_merged h base pending v

-- the greatest of some versions
abbrev pub greatest : List ℕ → ℕ
greatest versions = fold max 0 versions

-- the last version that is on the paths of both
abbrev pub last_common : History → ℕ → ℕ → ℕ
last_common h a b = greatest (filter (is_among (path h a)) (path h b))

-- the last version on the other's path that is on the base's path too, or that counts as merged
abbrev pub merge_base : History → ℕ → List ℕ → ℕ → ℕ
merge_base h base pending other = greatest (filter (is_known h base pending) (path h other))

-- the version is on both paths, and none that is on both comes after it
pub record IsLastCommon (h : History) (a b v : ℕ) : Type 0 where
  pub first : Contains (path h a) v
  pub second : Contains (path h b) v
  pub last : (u : ℕ) → Contains (path h a) u → Contains (path h b) u → u ≤ v

-- the version is on the base's path, or counts as merged there
abbrev pub IsKnown : History → ℕ → List ℕ → ℕ → Type 0
IsKnown h base pending v = Contains (path h base) v ⊎ (counts_as_merged h base pending v ≡ true)

-- the version is known on the other's path, and none that is known there comes after it
pub record IsMergeBase (h : History) (base : ℕ) (pending : List ℕ) (other v : ℕ) : Type 0 where
  pub on_other : Contains (path h other) v
  pub known : IsKnown h base pending v
  pub last : (u : ℕ) → Contains (path h other) u → IsKnown h base pending u → u ≤ v
