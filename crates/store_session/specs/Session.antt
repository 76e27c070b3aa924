-- What the calls of a session do.
use Rattle.std.specs.Prelude.{◌≡◌, ◌⊎◌, ℕ, ◌+◌, List, ◌++◌, ◌≤◌, Bool, true, false, IsTrue, length, map, Option, Some, None, Result, Ok, Err}
use Rattle.host_port.specs.Host.{Disk, CrashLeaves}
use Rattle.page_pool.specs.Frames.{Frames, out_of, pool_limit}
use Rattle.page_pool.specs.Paged.{PagedState, IsAmong, frames_for}
use Rattle.state_cache.specs.Entries.{Entries, IsCached, Keeps, held}
use Rattle.commit_journal.specs.Journal.{RecordFits, HoldsRecord, IsWalked}
use Rattle.commit_journal.specs.declared.fault.JournalFault.{JournalFault}
use Rattle.commit_journal.specs.declared.fault.JournalFault.TheVariants as journals
use Rattle.command_runs.specs.Runs.{Answer, listed, played}
use Rattle.op_form.specs.declared.event.Event.{Event}
use Rattle.op_form.specs.Events.{event_encoding}
use Rattle.plain_repository.specs.State.{State, empty}
use Rattle.plain_repository.specs.Answers as plain
use Rattle.plain_repository.specs.Answers.{is_refusal}
use Rattle.plain_repository.specs.Events.{play, playable, are_playable}
use Rattle.plain_repository.specs.Repository.{decide_line, answer_of}
use Rattle.plain_repository.specs.Store.{StandsForEvents, IsStoreAtRest}
use Rattle.script_lang.specs.Reply.{printed}
use Rattle.store_session.specs.declared.answered.Answered.{Answered}
use Rattle.store_session.specs.declared.answered.Answered.TheVariants.{Accepted, Refused}
use Rattle.store_session.specs.declared.answered.SessionFault.{SessionFault}
use Rattle.store_session.specs.declared.answered.SessionFault.TheVariants.{DiskFault, SayFault, Damaged, Memory}
use Rattle.store_session.specs.declared.preparing.PreparedAnswer.{PreparedAnswer}

-- what a line with its block is answered with
abbrev pub answer_to : State → List ℕ → Option (List ℕ) → Answer Event
answer_to state line block = answer_of (decide_line state line block)

-- a store at rest, and the state of its events
pub record IsStoreOf (disk : Disk) (state : State) (made : List Event) : Type 0 where
  pub rests : IsStoreAtRest disk state.end made
  pub state_is : state ≡ played play empty made

-- an event or none is on its way to the store
abbrev pub IsEntering : List Event → Option Event → Disk → Type 0
IsEntering first event disk = CrashLeaves (λ x. StandsForEvents x first ⊎ StandsForEvents x (first ++ listed event)) disk

-- how a command is answered, by whether its reply is a refusal
abbrev pub answered_as : Bool → Answered
answered_as true = Refused
answered_as false = Accepted

-- of a command that was carried out, though its reply may not have been printed
abbrev pub IfMade : Result Answered SessionFault → Type 0 → Type 0
IfMade (Ok answered) P = P
IfMade (Err SayFault) P = P
IfMade (Err DiskFault) P = Unit {0}
IfMade (Err Memory) P = Unit {0}
IfMade (Err (Damaged at)) P = Unit {0}

-- a record is ready: that of this encoding, in frames that are out of the pool
pub record IsReadyIn (pool : Frames) (form : List ℕ) (ready : Option PagedState) : Type 0 where
  pub prepared : PagedState
  pub is : ready ≡ Some prepared
  pub holds : HoldsRecord pool prepared form

-- the record that is ready is that of an event that can be made, and fits; none is ready where there is no event
abbrev pub IsRecordOf : Frames → State → Option Event → Option PagedState → Type 0
IsRecordOf pool state None ready = ready ≡ None
IsRecordOf pool state (Some event) ready =
    IsReadyIn pool (event_encoding event) ready × IsTrue (playable state event) × RecordFits state.end (length (event_encoding event))

-- how many frames the record takes that is ready
abbrev pub frames_held : Option PagedState → ℕ
frames_held None = 0
frames_held (Some prepared) = length prepared.frames

-- no frame of the record that is ready is one that the cache holds
abbrev pub IsRecordApart : Entries → Option PagedState → Type 0
IsRecordApart cache None = Unit {0}
IsRecordApart cache (Some prepared) = (k : ℕ) → IsAmong k prepared.frames → ¬ IsAmong k (held cache)

-- the frames that the cache holds and those of the record that is ready are all that are out of the pool
pub record HoldsBoth (pool : Frames) (cache : Entries) (ready : Option PagedState) : Type 0 where
  pub out : IsCached pool cache
  pub apart : IsRecordApart cache ready
  pub count : out_of pool ≡ length (held cache) + frames_held ready

-- Those entries of the cache stay that were used last. As many stay as leave room in the pool for the record of an encoding with
-- so many bytes.
abbrev pub LeavesRecord : ℕ → Entries → Entries → Type 0
LeavesRecord size old new = Keeps (λ entries frames. frames + frames_for (size + 5) ≤ pool_limit) old new

-- all of a decision is prepared: its reply's bytes, and its event's record
pub record IsPrepared (pool : Frames) (state : State) (decision : plain.Decision) (prepared_answer : PreparedAnswer) : Type 0 where
  pub reply : prepared_answer.reply.items ≡ printed decision.reply
  pub answered : prepared_answer.answered ≡ answered_as (is_refusal decision.reply)
  pub ready : IsRecordOf pool state decision.event prepared_answer.ready

-- A store while it is read. Its records up to an offset are those of events, each one that could be made, and the state is theirs.
pub record IsPlayedUpTo (disk : Disk) (state : State) (offset : ℕ) (made : List Event) : Type 0 where
  pub walked : IsWalked disk (map event_encoding made) offset
  pub playable : IsTrue (are_playable empty made)
  pub state_is : state ≡ played play empty made

-- a fault that is damage is at an offset that has P
abbrev pub AtDamage : SessionFault → (ℕ → Type 0) → Type 0
AtDamage (Damaged at) P = P at
AtDamage DiskFault P = Unit {0}
AtDamage SayFault P = Unit {0}
AtDamage Memory P = Unit {0}

-- a fault of the journal, as one of the session
abbrev pub fault_of : JournalFault → SessionFault
fault_of (journals.Damaged at) = Damaged at
fault_of journals.DiskFault = DiskFault
fault_of journals.Memory = Memory
