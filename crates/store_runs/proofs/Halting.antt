-- A run that ends before its task is done: what was printed, and what is kept.
use Rattle.std.proofs.Common.{◌≡◌, ◌⊎◌, inl, inr, ⊎_elim, List, [], ◌∷◌, ◌++◌, append_assoc, sym, ◌∙◌, ap, subst}
use Rattle.std.specs.Prelude.{IsTrue, IsSome}
use Rattle.host_port.specs.Host.{Told, GoesOn, KeepsSaid, disk_now, said_now}
use Rattle.host_port.proofs.Course.{said_kept_now}
use Rattle.command_runs.specs.Runs.{Answer, listed, replies, events}
use Rattle.command_runs.proofs.RunLaws.{events-more}
use Rattle.command_runs.proofs.Going.{Going}
use Rattle.op_form.specs.declared.event.Event.{Event}
use Rattle.plain_repository.specs.State.{State}
use Rattle.plain_repository.specs.Store.{StandsForEvents}
use Rattle.store_session.specs.Session.{IsStoreOf}
use Rattle.store_session.proofs.Entering.{holds_stands}
use Rattle.store_session.specs.Endings.{IsUnanswered, IsHalted}
use Rattle.store_session.specs.Tasks.{Task}

-- no more is printed and kept
pub halted : (entry b : Told) (made : List Event) (task : Task) (left : List (Answer Event)) (state : State)
    → Going StandsForEvents entry b made task.answers left (λ events. IsStoreOf (disk_now b) state events) → IsHalted task made entry b
halted entry b made task left state going = record {
  done = going.done;
  left = left;
  whole = going.whole_is;
  said = going.said;
  stands = holds_stands (disk_now b) state (made ++ events going.done) going.rest;
}

-- the event of an answer is kept after those of the answers before it
pub kept_too : (d : Told) (made : List Event) (done : List (Answer Event)) (answer : Answer Event)
    → StandsForEvents (disk_now d).now ((made ++ events done) ++ listed answer.event) → StandsForEvents (disk_now d).now (made ++ events (done ++ answer ∷ []))
kept_too d made done answer stood = subst (λ (l : List Event). StandsForEvents (disk_now d).now l)
    (append_assoc made (events done) (listed answer.event) ∙ ap (λ (l : List Event). made ++ l) (sym (events-more done answer))) stood

-- an answer's event was being written, and is kept or not
pub unanswered : (entry b d : Told) (made : List Event) (task : Task) (done : List (Answer Event)) (answer : Answer Event) (next : List (Answer Event))
    → task.answers ≡ (done ++ answer ∷ []) ++ next → said_now b ≡ said_now entry ++ replies done → GoesOn b d → KeepsSaid b d → IsTrue b.tells
    → IsSome answer.event
    → StandsForEvents (disk_now d).now (made ++ events done) ⊎ StandsForEvents (disk_now d).now ((made ++ events done) ++ listed answer.event)
    → IsUnanswered task made entry d
unanswered entry b d made task done answer next whole said on quiet told_b event stood = record {
  done = done;
  answer = answer;
  left = next;
  whole = whole;
  event = event;
  said = said_kept_now b d on quiet told_b ∙ said;
  stands = ⊎_elim (λ before. inl before) (λ both. inr (kept_too d made done answer both)) stood;
}
