-- What holds of the index of a history.
use Rattle.std.specs.Prelude.{◌≡◌, ℕ, ◌<◌, ◌≤◌, Bool, List, [], ◌∷◌, ◌++◌, Option, None, Some, All, take, length}
use Rattle.ecore_meta.specs.Meta.{Meta}
use Rattle.std.specs.FinMap.{get}
use Rattle.model_state.specs.Good.{Good, Sound}
use Rattle.model_state.specs.Keys.{IdBytes}
use Rattle.model_state.specs.State.{State, nothing}
use Rattle.history_tree.specs.declared.version.Version.{Version}
use Rattle.history_tree.specs.History.{History, path}
use Rattle.history_tree.specs.Whole.{IsWhole}
use Rattle.history_tree.specs.States.{package_of_version, state_folded}
use Rattle.history_tree.specs.Laws.{Rises}
use Rattle.change_index.specs.Last.{IsLast, last_of}
use Rattle.change_index.specs.Written.{wrote, written}
use Rattle.change_index.specs.Index.{wrote_in, index_of}

-- the last version on a version's path that wrote the feature
abbrev pub IsLastWrite : Meta → History → ℕ → IdBytes → ℕ → Option ℕ → Type 0
IsLastWrite meta h v e f last = IsLast (λ u. wrote meta (package_of_version h.versions u) e f) (path h v) last

-- what is added to the index of some versions makes that of one more
abbrev pub VersionsAreAdded : Type 0
VersionsAreAdded = (meta : Meta) (versions : List Version) (version : Version)
    → index_of meta (versions ++ version ∷ []) ≡ index_of meta versions ++ written meta version.«package» ∷ []

-- a path of the first n versions is one that the index can be asked for
abbrev pub PathsAreAsked : Type 0
PathsAreAsked = (meta : Meta) (h : History) → IsWhole h → (n v : ℕ) → n ≤ length h.versions → v < n
    → Rises (path h v) × All (λ u. u < length (index_of meta (take n h.versions))) (path h v)

-- what the index of the first n versions answers for the path of one of them is the last version there that wrote the feature
abbrev pub LastIsOfHistory : Type 0
LastIsOfHistory = (meta : Meta) (h : History) → IsWhole h → (n v : ℕ) → n ≤ length h.versions → v < n → (e : IdBytes) (f : ℕ) (last : Option ℕ)
    → IsLast (wrote_in (index_of meta (take n h.versions)) e f) (path h v) last → IsLastWrite meta h v e f last

-- there is one such answer
abbrev pub LastIsOne : Type 0
LastIsOne = (test : ℕ → Bool) (us : List ℕ) (a b : Option ℕ) → IsLast test us a → IsLast test us b → a ≡ b

-- of a list that rises the last that passes is that answer
abbrev pub LastIsFound : Type 0
LastIsFound = (test : ℕ → Bool) (us : List ℕ) → Rises us → IsLast test us (last_of test us)

-- the feature of the element has the same values and the same targets in both states
pub record HasSame (m n : State) (e : IdBytes) (f : ℕ) : Type 0 where
  pub values : get m.attr (e, f) ≡ get n.attr (e, f)
  pub targets : (b : IdBytes) → get m.row (e, f, b) ≡ get n.row (e, f, b)

-- what the operations up to a version lead to; without one, the empty project
abbrev pub state_at : Meta → History → Option ℕ → Option State
state_at meta h None = Some nothing
state_at meta h (Some u) = state_folded meta h u

-- In the state of a version the feature has what it has in that of the last version there that wrote it. Where none wrote it, it has what it
-- has in the empty project.
abbrev pub LastWriteStays : Type 0
LastWriteStays = (meta : Meta) → Sound meta → (h : History) → IsWhole h → (v : ℕ) → v < length h.versions → (e : IdBytes) (f : ℕ) (last : Option ℕ)
    → IsLastWrite meta h v e f last → (m n : State) → state_at meta h last ≡ Some m → Good meta m → state_folded meta h v ≡ Some n → HasSame m n e f
