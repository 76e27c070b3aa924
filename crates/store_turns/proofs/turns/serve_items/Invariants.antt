use Rattle.std.proofs.Common.{◌≡◌, ◌-◌, ◌^◌, Bool, false, List}
use Rattle.std.specs.Prelude.{IsTrue}
use Rattle.host_port.specs.Host.{Told, GoesOn, KeepsInput, disk_now}
use Rattle.op_form.specs.declared.event.Event.{Event}
use Rattle.plain_repository.specs.State.{State}
use Rattle.turn_frames.specs.Turns as frames
use Rattle.turn_frames.specs.Runs.{in_turn}
use Rattle.store_session.specs.declared.status.Status.{Status}
use Rattle.store_session.specs.Session.{IsStoreOf}
use Rattle.store_session.specs.Tasks.{Task}
use Rattle.store_turns.specs.Serving.{manner}
use Rattle.store_turns.specs.Standing.{Standing}
use Rattle.store_turns.proofs.turns.serve_items.Given as goal

abbrev pub invariant-items : goal.invariant-items
invariant-items g l = record {
  fresh : l.items.failed ≡ false;
  whole : l.session.broken ≡ false;
  course : GoesOn (g.H.Host.told l.initial.host) (g.H.Host.told l.host);
  input : KeepsInput (g.H.Host.told l.initial.host) (g.H.Host.told l.host);
  at_rest : IsTrue (g.H.Host.told l.host).tells → ((made : List Event) × IsStoreOf (disk_now (g.H.Host.told l.host)) l.session.state made);
  stands : (entry : Told) (first : State) (task : Task) (end : Bool → Status) (rest : List frames.Turn)
      → Standing entry (g.H.Host.told l.initial.host) first task end
      (in_turn (manner l.fn.policy.grants) l.fn.user l.initial.session.state l.initial.items.script rest) l.initial.so_far l.initial.session.state
      l.initial.session.broken
      → Standing entry (g.H.Host.told l.host) first task end (in_turn (manner l.fn.policy.grants) l.fn.user l.session.state l.items.script rest) l.so_far
      l.session.state l.session.broken;
}

abbrev pub decreases-items : goal.decreases-items
decreases-items g l = 2 ^ 40 - l.items.offset
