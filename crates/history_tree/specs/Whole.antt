-- What holds of every history that the calls make: each number that stands in it names something, and an author has a moment.
use Rattle.std.specs.Prelude.{◌≡◌, ℕ, suc, ◌<◌, List, [], ◌∷◌, Option, None, Some, is_some, length, All}
use Rattle.history_tree.specs.declared.version.Version.{Version}
use Rattle.history_tree.specs.History.{History}

-- the parent comes before the version of that number; version 0 alone has none
abbrev pub ComesBefore : Option ℕ → ℕ → Type 0
ComesBefore None v = v ≡ 0
ComesBefore (Some parent) v = parent < v

-- so for each version, numbered from n on
abbrev pub ParentsComeBefore : ℕ → List Version → Type 0
ParentsComeBefore n [] = Unit {0}
ParentsComeBefore n (version ∷ versions) = ComesBefore version.parent n × ParentsComeBefore (suc n) versions

-- there are versions and branches; each number that stands in the history names one; a version has both an author and a moment, or neither
pub record IsWhole (h : History) : Type 0 where
  pub some_version : 0 < length h.versions
  pub some_branch : 0 < length h.branches
  pub parents : ParentsComeBefore 0 h.versions
  pub branches : All (λ version. version.branch < length h.branches) h.versions
  pub merged : All (λ version. All (λ v. v < length h.versions) version.merged) h.versions
  pub signed : All (λ version. is_some version.author ≡ is_some version.moment) h.versions
  pub starts : All (λ branch. branch.start < length h.versions) h.branches
  pub tags : All (λ tag. tag.version < length h.versions) h.tags
