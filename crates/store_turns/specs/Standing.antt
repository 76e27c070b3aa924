-- Where a run over turns stands, between two answers.
use Rattle.std.specs.Prelude.{◌≡◌, Bool, false, ◌||◌, List, IsTrue}
use Rattle.host_port.specs.Host.{Told, GoesOn, Rose, disk_now}
use Rattle.command_runs.specs.Runs.{Answer, refuses}
use Rattle.command_runs.proofs.Going.{Going}
use Rattle.op_form.specs.declared.event.Event.{Event}
use Rattle.plain_repository.specs.State.{State}
use Rattle.plain_repository.specs.Store.{StandsForEvents}
use Rattle.store_session.specs.declared.status.Status.{Status}
use Rattle.store_session.specs.declared.status.Status.TheVariants.{Accepted, Refused, BadWords, ReadFault, WriteFault, DiskFault, Damaged, Memory, Input}
use Rattle.store_session.specs.Session.{IsStoreOf}
use Rattle.store_session.specs.Endings.{IsDone}
use Rattle.store_session.specs.Tasks.{Task}

-- between two answers, where the store rests: those that are left, and how the task ends, by whether one was a refusal
pub record Between (entry now : Told) (made : List Event) (task : Task) (end : Bool → Status) (left : List (Answer Event)) (refused : Bool)
    (state : State) : Type 0 where
  pub going : Going StandsForEvents entry now made task.answers left (λ events. IsStoreOf (disk_now now) state events)
  pub end_is : task.end ≡ end (refused || refuses left)

-- the same since an entry where the store stood for any events, with a session that can go on
pub record Standing (entry now : Told) (first : State) (task : Task) (end : Bool → Status) (left : List (Answer Event)) (refused : Bool)
    (state : State) (broken : Bool) : Type 0 where
  pub unbroken : broken ≡ false
  pub course : GoesOn entry now
  pub holds : IsTrue entry.tells → (made : List Event) × IsStoreOf (disk_now now) state made
  pub between : IsTrue entry.tells → (made : List Event) → IsStoreOf (disk_now entry) first made → Between entry now made task end left refused state

-- a run that stood so has done its task, up to how it ends
abbrev pub IsOver : Told → Told → Told → State → Task → (Bool → Status) → List (Answer Event) → Bool → State → Bool → Status → Type 0
IsOver entry now after first task end left refused state broken status =
    Standing entry now first task end left refused state broken → (made : List Event) → IsStoreOf (disk_now entry) first made
    → IsDone task made entry after status

-- what may stop a run within a turn: no memory, or a call that prints or writes and whose count rose
abbrev pub IsStop : Status → Told → Told → Type 0
IsStop Accepted before now = ⊥
IsStop Refused before now = ⊥
IsStop BadWords before now = ⊥
IsStop ReadFault before now = ⊥
IsStop WriteFault before now = Rose before.say_faults now.say_faults
IsStop DiskFault before now = Rose before.disk_faults now.disk_faults
IsStop (Damaged at) before now = ⊥
IsStop Memory before now = Unit {0}
IsStop (Input fault at) before now = ⊥
