-- Versions, branches and tags: the path of a version, and the head of a branch.
use Rattle.std.specs.Prelude.{ℕ, suc, ◌==◌, List, [], ◌∷◌, ◌++◌, Option, None, Some, codes, length, slice_get, if◌then◌else◌}
use Rattle.std.specs.Option.{option_map_or, unwrap_or}
use Rattle.history_tree.specs.declared.version.Version.{Version}
use Rattle.history_tree.specs.declared.version.Branch.{Branch}
use Rattle.history_tree.specs.declared.version.Tag.{Tag}

-- the version of the number n is at the place n, and so is the branch; tags stand in the order made
pub record History : Type 0 where
  pub versions : List Version
  pub branches : List Branch
  pub tags : List Tag

-- no version and no branch
abbrev pub no_history : History
no_history = record { versions = []; branches = []; tags = [] }

-- version 0, the empty project
abbrev pub first_version : Version
first_version = record { branch = 0; parent = None; merged = []; author = None; moment = None; message = []; «package» = [] }

-- version 0 on the branch `trunk`
abbrev pub first_history : History
first_history = record { versions = first_version ∷ []; branches = record { name = codes "trunk"; start = 0 } ∷ []; tags = [] }

-- one version more
abbrev pub with_version : History → Version → History
with_version h version = record h { versions = h.versions ++ version ∷ [] }

-- one branch more
abbrev pub with_branch : History → List ℕ → ℕ → History
with_branch h name start = record h { branches = h.branches ++ record { name = name; start = start } ∷ [] }

-- one tag more
abbrev pub with_tag : History → List ℕ → ℕ → History
with_tag h name version = record h { tags = h.tags ++ record { name = name; version = version } ∷ [] }

-- the path of that number in a list of paths
abbrev pub path_at : List (List ℕ) → ℕ → List ℕ
path_at paths v = unwrap_or (slice_get paths v) []

-- the path that comes before a version's own number: its parent's, or none
abbrev pub path_before : List (List ℕ) → Option ℕ → List ℕ
path_before paths None = []
path_before paths (Some parent) = path_at paths parent

-- the paths of further versions after those that are known: each is its parent's, and then the version itself
abbrev pub paths_from : List (List ℕ) → List Version → List (List ℕ)
paths_from paths [] = paths
paths_from paths (version ∷ versions) = paths_from (paths ++ (path_before paths version.parent ++ length paths ∷ []) ∷ []) versions

-- the versions from the first to that one, each the parent of the next
abbrev pub path : History → ℕ → List ℕ
path h v = path_at (paths_from [] h.versions) v

-- the last of the versions, numbered from n on, that is on the branch, else what was found before them
abbrev pub last_on : ℕ → List Version → ℕ → ℕ → ℕ
last_on branch [] n found = found
last_on branch (version ∷ versions) n found = last_on branch versions (suc n) (if version.branch == branch then n else found)

-- the version where a branch starts
abbrev pub start_of : History → ℕ → ℕ
start_of h branch = option_map_or (λ b. b.start) (slice_get h.branches branch) 0

-- the last version on a branch, else the one where it starts
abbrev pub head : History → ℕ → ℕ
head h branch = last_on branch h.versions 0 (start_of h branch)
