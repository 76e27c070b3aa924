-- A fault of a script is said, and then the mark.
use Rattle.std.specs.Prelude.{IsTrue}
use Rattle.std.proofs.Common.{◌≡◌, ◌||◌, ◌++◌, ◌∷◌, ◌∙◌, true, Bool, List, Option, ap, ℕ}
use Rattle.host_port.specs.Host.{Told, said_now}
use Rattle.host_port.proofs.Course.{course_still, still_input}
use Rattle.host_port.specs.declared.lines.LineFault.{LineFault}
use Rattle.command_runs.specs.Runs.{Answer}
use Rattle.op_form.specs.declared.event.Event.{Event}
use Rattle.plain_repository.specs.State.{State}
use Rattle.store_session.specs.declared.status.Status.{Status}
use Rattle.store_session.specs.declared.status.Status.TheVariants.{Input}
use Rattle.store_session.specs.Tasks.{Task, telling_one}
use Rattle.turn_frames.specs.Runs.{closing, mark}
use Rattle.store_turns.specs.Serving.{fault_line, said_of}
use Rattle.store_turns.specs.Standing.{Standing}
use Rattle.store_turns.proofs.Answering.{err_map, line_on, line_write_done, ok_map, or_true, refused_as, starved, told_as}
use Rattle.store_turns.proofs.Loop.{said_is}
use Rattle.store_turns.proofs.turns.close_turn.Goals as goal
use Rattle.store_turns.proofs.turns.close_turn.Goals.{After-say}
use Rattle.store_turns.proofs.turns.close_turn.Given.{Over}

-- no fault
pub returns-in_default-clause-on : goal.returns-in_default-clause-on
returns-in_default-clause-on g c =
    ok_map c.say_mark.result _ _
    (λ ended on entry first task end next state broken stands. on entry first task end next state broken
    (told_as entry (g.H.Host.told c.args.host.now) first task end (closing said_of c.args.fault ++ next) c.args.refused state broken stands (mark ∷ next)
    (λ told. ap (λ (f : Option LineFault). closing said_of f ++ next) c.in_default.is)))
    c.say_mark.ensures.on

pub returns-in_default-clause-stopped : goal.returns-in_default-clause-stopped
returns-in_default-clause-stopped g c =
    err_map c.say_mark.result _ _
    (λ status over entry first task end next state broken stands. over entry first task end next state broken
    (told_as entry (g.H.Host.told c.args.host.now) first task end (closing said_of c.args.fault ++ next) c.args.refused state broken stands (mark ∷ next)
    (λ told. ap (λ (f : Option LineFault). closing said_of f ++ next) c.in_default.is)))
    c.say_mark.ensures.stopped

-- a fault is said
module _ (g : Over) (c : After-say g) (entry : Told) (first : State) (task : Task) (end : Bool → Status) (next : List (Answer Event)) (state : State)
    (broken : Bool)
    (stands : Standing entry (g.H.Host.told c.args.host.now) first task end (closing said_of c.args.fault ++ next) c.args.refused state broken) where
  line : List ℕ
  line = fault_line (Input c.in-Input.fault c.in-Input.at)

  left_is : closing said_of c.args.fault ++ next ≡ telling_one (fault_line (Input c.in-Input.fault c.in-Input.at)) true ∷ (mark ∷ next)
  left_is =
      ap (λ (f : Option LineFault). closing said_of f ++ next) c.in-Some.is
      ∙ ap (λ (a : Answer Event). a ∷ (mark ∷ next)) (said_is c.in-Some.fault (Input c.in-Input.fault c.in-Input.at) c.in-Input.ensures)

  bytes_are : c.as_bytes.result.now ≡ fault_line (Input c.in-Input.fault c.in-Input.at)
  bytes_are = c.as_bytes.ensures.value ∙ c.as_str.ensures.value ∙ c.in-Ok.ensures

  said_on : (IsTrue (g.H.Host.told c.args.host.now).tells → said_now (g.H.Host.told c.say.new.self) ≡ said_now (g.H.Host.told c.args.host.now)
      ++ c.as_bytes.result.now)
      → Standing entry (g.H.Host.told c.say.new.self) first task end (mark ∷ next) true state broken
  said_on whole =
      refused_as entry (g.H.Host.told c.say.new.self) first task end (mark ∷ next) (c.args.refused || true) state broken
      (line_on entry (g.H.Host.told c.args.host.now) first task end (closing said_of c.args.fault ++ next) c.args.refused state broken stands
      (g.H.Host.told c.say.new.self) (fault_line (Input c.in-Input.fault c.in-Input.at)) c.as_bytes.result.now true (mark ∷ next) left_is bytes_are
      c.say.ensures.course c.say.ensures.disk c.say.ensures.part whole)
      true (or_true c.args.refused)

pub returns-in-Ok-say-clause-on : goal.returns-in-Ok-say-clause-on
returns-in-Ok-say-clause-on g c =
    let h = (goal.at.returns-in-Ok-say-clause-on g c).After-say in
    ok_map c.say_mark-in-Ok-say.result _ _
    (λ ended on entry first task end next state broken stands. on entry first task end next state broken
    (said_on g h entry first task end next state broken stands c.in-Ok-say.ensures.whole))
    c.say_mark-in-Ok-say.ensures.on

pub returns-in-Ok-say-clause-stopped : goal.returns-in-Ok-say-clause-stopped
returns-in-Ok-say-clause-stopped g c =
    let h = (goal.at.returns-in-Ok-say-clause-stopped g c).After-say in
    err_map c.say_mark-in-Ok-say.result _ _
    (λ status over entry first task end next state broken stands. over entry first task end next state broken
    (said_on g h entry first task end next state broken stands c.in-Ok-say.ensures.whole))
    c.say_mark-in-Ok-say.ensures.stopped

pub returns-clause-stopped : goal.returns-clause-stopped
returns-clause-stopped g c = λ entry first task end next state broken stands made holds.
    let h = (goal.at.returns-clause-stopped g c).After-say in
    line_write_done entry (g.H.Host.told c.args.host.now) first task end (closing said_of c.args.fault ++ next) c.args.refused state broken stands
    (g.H.Host.told c.say.new.self) (fault_line (Input c.in-Input.fault c.in-Input.at)) c.as_bytes.result.now true (mark ∷ next)
    (left_is g h entry first task end next state broken stands) (bytes_are g h entry first task end next state broken stands) c.say.ensures.course
    c.say.ensures.disk c.say.ensures.part made holds

-- memory ran out
pub returns-in_default-fault_line-clause-stopped : goal.returns-in_default-fault_line-clause-stopped
returns-in_default-fault_line-clause-stopped g c = λ entry first task end next state broken.
    starved entry (g.H.Host.told c.args.host.now) first task end (closing said_of c.args.fault ++ next) c.args.refused state broken

pub returns-in_default-status_of_input : goal.returns-in_default-status_of_input
returns-in_default-status_of_input g c = record {
  on = tt;
  stopped = λ entry first task end next state broken.
      starved entry (g.H.Host.told c.args.host.now) first task end (closing said_of c.args.fault ++ next) c.args.refused state broken;
  stop = tt;
  input = still_input (g.H.Host.told c.args.host.now);
  course = course_still (g.H.Host.told c.args.host.now);
}
