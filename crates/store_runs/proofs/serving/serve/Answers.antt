use Rattle.std.proofs.Common.{◌≡◌, true, false, subst}
use Rattle.host_port.proofs.Course.{still_input}
use Rattle.script_items.specs.Items.{script}
use Rattle.store_session.specs.Endings.{IsDone}
use Rattle.store_session.specs.Tasks.{Task, gated, serving_by}
use Rattle.store_runs.proofs.Starting.{from_start, nothing_done}
use Rattle.store_runs.proofs.serving.serve.Goals as goal

pub returns-in_default-clause-done : goal.returns-in_default-clause-done
returns-in_default-clause-done g c =
    λ made holds. nothing_done (g.H.Host.told c.args.host.now) c.args.session.now.state
    (serving_by (gated (g.G.Gate.refusal c.args.gate.now)) c.args.session.now.state (script (g.H.Host.told c.args.host.now).left)) made holds

pub returns-in_default-clause-unread : goal.returns-in_default-clause-unread
returns-in_default-clause-unread g c = λ unread. still_input (g.H.Host.told c.args.host.now)

pub returns-clause-done : goal.returns-clause-done
returns-clause-done g c =
    λ made holds. subst (λ (t : Task). IsDone t made (g.H.Host.told c.args.host.now) (g.H.Host.told c.serve_lines.new.host) c.serve_lines.result)
    (from_start (gated (g.G.Gate.refusal c.args.gate.now)) c.args.session.now.state
    (g.H.Host.told c.args.host.now).left c.in-Ok.lines.offset c.in-Ok.lines.pending c.in-Ok.ensures.start.1 c.in-Ok.ensures.start.0)
    (c.serve_lines.ensures.done made holds)

pub returns-clause-unread : goal.returns-clause-unread
returns-clause-unread g c = λ unread. let other : true ≡ false = unread in absurd cc
