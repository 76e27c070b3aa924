-- How a run over turns ends.
use Rattle.std.proofs.Common.{◌≡◌, ℕ, List, [], ◌++◌, Bool, true, false, Option, Some, None, sym, ◌∙◌, ap}
use Rattle.std.specs.Prelude.{IsTrue}
use Rattle.host_port.specs.Host.{Told, GoesOn, KeepsDisk, KeepsSaid, disk_now}
use Rattle.host_port.proofs.Course.{told_next}
use Rattle.op_form.specs.declared.event.Event.{Event}
use Rattle.access_rules.specs.declared.policy.Grant.{Grant}
use Rattle.plain_repository.specs.State.{State}
use Rattle.turn_frames.specs.declared.fault.TurnFault.{TurnFault}
use Rattle.turn_frames.specs.declared.fault.TurnFault.TheVariants as turns
use Rattle.turn_frames.specs.Turns.{Turns, ended_by, turns_from, turns_of}
use Rattle.turn_frames.specs.Reads.{EndsTurns}
use Rattle.turn_frames.specs.Runs.{turns_answers}
use Rattle.store_session.specs.Session.{IsStoreOf}
use Rattle.store_session.specs.Endings.{IsDone}
use Rattle.store_session.specs.declared.status.Status.TheVariants.{Accepted, Refused}
use Rattle.store_session.specs.Tasks.{Task}
use Rattle.store_turns.specs.Serving.{end_by, manner, turn_status}
use Rattle.store_turns.specs.Standing.{Standing}
use Rattle.store_turns.proofs.Answering.{accepted_done, input_done, memory_done, read_done, refused_done}
use Rattle.store_turns.proofs.Loop.{no_turns}

-- a reader that has nothing at hand yet
pub at_start : (offset : ℕ) (pending left : List ℕ) → pending ≡ [] → offset ≡ 0 → turns_of left ≡ turns_from 0 offset (pending ++ left)
at_start offset pending left none first =
    ap (λ (k : ℕ). turns_from 0 k left) (sym first) ∙ ap (λ (l : List ℕ). turns_from 0 offset (l ++ left)) (sym none)

module _ (grants : List Grant) (entry a b : Told) (first : State) (task : Task) (fault : Option TurnFault) (whole : Turns) (refused : Bool) (state : State)
    (broken : Bool) (stands : Standing entry a first task (end_by fault) (turns_answers (manner grants) state whole.turns) refused state broken)
    (fault_is : IsTrue entry.tells → fault ≡ whole.fault) (on : GoesOn a b) (disk : KeepsDisk a b) (said : KeepsSaid a b) (made : List Event)
    (holds : IsStoreOf (disk_now entry) first made) where
  module _ (last : Option TurnFault) (is : IsTrue a.tells → whole ≡ ended_by last) where
    none_left : IsTrue entry.tells → turns_answers (manner grants) state whole.turns ≡ []
    none_left told = no_turns grants state whole last (is (told_next entry a stands.course told))

    end_is : IsTrue entry.tells → end_by fault refused ≡ end_by last refused
    end_is told =
        ap (λ (f : Option TurnFault). end_by f refused) (fault_is told ∙ ap (λ (t : Turns). t.fault) (is (told_next entry a stands.course told)))

  pub by_fault : (last : TurnFault) → IsTrue task.reads → (IsTrue a.tells → EndsTurns last whole) → IsDone task made entry b (turn_status last)
  by_fault (turns.NotFrame at) reads got =
      input_done entry a first task (end_by fault) (turns_answers (manner grants) state whole.turns) refused state broken stands b on disk said
      (none_left (Some (turns.NotFrame at)) got) made holds 6 at (end_is (Some (turns.NotFrame at)) got)
  by_fault (turns.InputTooLong at) reads got =
      input_done entry a first task (end_by fault) (turns_answers (manner grants) state whole.turns) refused state broken stands b on disk said
      (none_left (Some (turns.InputTooLong at)) got) made holds 5 at (end_is (Some (turns.InputTooLong at)) got)
  by_fault turns.Failed reads got =
      read_done entry a first task (end_by fault) (turns_answers (manner grants) state whole.turns) refused state broken stands b on disk said reads made holds
  by_fault turns.Memory reads got =
      memory_done entry a first task (end_by fault) (turns_answers (manner grants) state whole.turns) refused state broken stands b on disk said made holds

  module _ (got : IsTrue a.tells → whole ≡ ended_by None) (empty : IsTrue a.tells → b.left ≡ []) where
    pub all_refused : refused ≡ true → IsDone task made entry b Refused
    all_refused is =
        refused_done entry a first task (end_by fault) (turns_answers (manner grants) state whole.turns) refused state broken stands b on disk said
        (none_left None got) made holds (λ told. end_is None got told ∙ ap (λ (r : Bool). end_by None r) is)
        (λ told. empty (told_next entry a stands.course told))

    pub all_accepted : refused ≡ false → IsDone task made entry b Accepted
    all_accepted is =
        accepted_done entry a first task (end_by fault) (turns_answers (manner grants) state whole.turns) refused state broken stands b on disk said
        (none_left None got) made holds (λ told. end_is None got told ∙ ap (λ (r : Bool). end_by None r) is)
        (λ told. empty (told_next entry a stands.course told))
