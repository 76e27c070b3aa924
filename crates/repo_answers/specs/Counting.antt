-- How much a repository holds.
use Rattle.std.specs.Prelude.{◌≡◌, ℕ, ◌<◌, ◌^◌, Option, Some, None, length}
use Rattle.ecore_meta.specs.Meta.{Meta}
use Rattle.model_state.specs.Listing.{ids}
use Rattle.history_tree.specs.History.{head}
use Rattle.history_tree.specs.States.{state_of}
use Rattle.plain_repository.specs.State.{State}
use Rattle.repo_state.specs.Counting.{live_workspaces}
use Rattle.repo_answers.specs.declared.counting.Counts.{Counts}

-- the branch that version 0 begins
abbrev pub trunk : ℕ
trunk = 0

-- the live elements of the state at trunk's head, by the metamodel; none before there is one
abbrev pub elements_with : State → Option Meta → ℕ
elements_with s None = 0
elements_with s (Some meta) = length (ids (state_of meta s.history (head s.history trunk)))

-- how many elements there are at trunk's head
abbrev pub element_count : State → ℕ
element_count s = elements_with s s.meta

-- The counts are the state's. That of the workspaces is so where it has 32 bits, as it has after any events that could be made.
pub record AreCounts (s : State) (counts : Counts) : Type 0 where
  pub events : counts.events ≡ s.events
  pub versions : counts.versions ≡ length s.history.versions
  pub branches : counts.branches ≡ length s.history.branches
  pub tags : counts.tags ≡ length s.history.tags
  pub workspaces : live_workspaces s < 2 ^ 32 → counts.workspaces ≡ live_workspaces s
