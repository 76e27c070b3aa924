-- What is foreseen of an event.
use Rattle.std.specs.Prelude.{◌≡◌, ℕ, List, true}
use Rattle.op_form.specs.declared.event.Event.{Event}
use Rattle.op_form.specs.declared.event.Event.TheVariants as event
use Rattle.plain_repository.specs.Events.{effect, playable_with}
use Rattle.plain_repository.specs.State.{State, with_changed}
use Rattle.repo_state.specs.Planning.{AreTheirs, restarted, taken_up}
use Rattle.repo_state.specs.declared.merging.Updated.{Updated}
use Rattle.repo_state.specs.declared.merging.Merged.{Merged}
use Rattle.event_play.specs.declared.foreseen.Foreseen.{Foreseen}
use Rattle.event_play.specs.declared.foreseen.Foreseen.TheVariants.{Nothing, Update, Merge}

-- the update could be made, and makes this of the workspace, over those operations of others
pub record IsUpdate (s : State) (ws : ℕ) (letters : List ℕ) (u : Updated) : Type 0 where
  pub could : playable_with s s.meta (event.Update ws letters) ≡ true
  pub leads : with_changed (restarted u.base u.operations) ws s ≡ effect s (event.Update ws letters)
  pub theirs : AreTheirs s ws u.base u.theirs

-- the merge could be made, and brings this into the workspace
pub record IsMerge (s : State) (ws branch : ℕ) (letters : List ℕ) (m : Merged) : Type 0 where
  pub could : playable_with s s.meta (event.Merge ws branch letters) ≡ true
  pub leads : with_changed (taken_up m.more m.version) ws s ≡ effect s (event.Merge ws branch letters)

-- what is foreseen is of that event, and of that state
abbrev pub IsForeseen : State → Event → Foreseen → Type 0
IsForeseen s e Nothing = Unit {0}
IsForeseen s e (Update u) = (ws : ℕ) × (letters : List ℕ) × (e ≡ event.Update ws letters) × IsUpdate s ws letters u
IsForeseen s e (Merge m) = (ws : ℕ) × (branch : ℕ) × (letters : List ℕ) × (e ≡ event.Merge ws branch letters) × IsMerge s ws branch letters m
