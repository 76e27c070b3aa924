use Rattle.std.proofs.Common.{◌∙◌, List, ℕ, false, refl, sym, subst, arith}
use Rattle.std.specs.Prelude.{All}
use Rattle.host_port.specs.Host.{disk_now}
use Rattle.host_port.specs.Cut.{Item}
use Rattle.host_port.proofs.Course.{still_input}
use Rattle.script_items.specs.Items.{IsAnswered}
use Rattle.script_items.proofs.Plain.{all_answered}
use Rattle.store_session.specs.Endings.{IsDone}
use Rattle.store_session.specs.Tasks.{telling}
use Rattle.store_runs.proofs.Starting.{nothing_done}
use Rattle.emf_top.specs.Tasks.{task_of, filling}
use Rattle.emf_top.proofs.Few.{few_workspaces}
use Rattle.emf_top.proofs.asked.AskedWork.fulfil.Goals as goal

pub returns-in-Serve-clause-done : goal.returns-in-Serve-clause-done
returns-in-Serve-clause-done g c = rw c.in-Serve.is c.serve.ensures.done

pub returns-in-Serve-clause-unread : goal.returns-in-Serve-clause-unread
returns-in-Serve-clause-unread g c = rw c.in-Serve.is c.serve.ensures.unread

pub returns-in_default-clause-done : goal.returns-in_default-clause-done
returns-in_default-clause-done g c =
    λ made holds. nothing_done (g.H.Host.told c.args.host.now) c.args.session.now.state
    (task_of c.args.self.now.request c.args.session.now.state (g.H.Host.told c.args.host.now).left) made holds

pub returns-in_default-clause-unread : goal.returns-in_default-clause-unread
returns-in_default-clause-unread g c = λ unread. still_input (g.H.Host.told c.args.host.now)

pub returns-in-Ok-clause-done : goal.returns-in-Ok-clause-done
returns-in-Ok-clause-done g c =
    rw c.in-Check.is (λ made holds.
    subst (λ (l : List ℕ). IsDone (telling l false) made (g.H.Host.told c.args.host.now) (g.H.Host.told c.show.new.host) c.show.result)
    (c.as_bytes.ensures.value ∙ c.in-Ok.ensures (few_workspaces (disk_now (g.H.Host.told c.args.host.now)) c.args.session.now.state made holds))
    (c.show.ensures.done c.args.session.now.state made holds))

pub returns-in-Ok-clause-unread : goal.returns-in-Ok-clause-unread
returns-in-Ok-clause-unread g c = rw c.in-Check.is (λ unread. c.show.ensures.unread refl)

pub returns-in_default-generated-clause-done : goal.returns-in_default-generated-clause-done
returns-in_default-generated-clause-done g c =
    λ made holds. nothing_done (g.H.Host.told c.args.host.now) c.args.session.now.state
    (task_of c.args.self.now.request c.args.session.now.state (g.H.Host.told c.args.host.now).left) made holds

pub returns-in_default-generated-clause-unread : goal.returns-in_default-generated-clause-unread
returns-in_default-generated-clause-unread g c = λ unread. still_input (g.H.Host.told c.args.host.now)

pub fill-requires-clause-plain : goal.fill-requires-clause-plain
fill-requires-clause-plain g c =
    subst (λ (l : List Item). All IsAnswered l) (sym (c.as_slice.ensures ∙ c.in-Ok-generated.ensures))
    (all_answered c.in-Generate.seed c.in-Generate.count (omega arith))

pub returns-in-Ok-generated-clause-done : goal.returns-in-Ok-generated-clause-done
returns-in-Ok-generated-clause-done g c =
    rw c.in-Generate.is (λ made holds.
    subst (λ (l : List Item).
    IsDone (filling c.args.session.now.state l) made (g.H.Host.told c.args.host.now) (g.H.Host.told c.fill.new.host) c.fill.result)
    (c.as_slice.ensures ∙ c.in-Ok-generated.ensures) (c.fill.ensures.done made holds))

pub returns-in-Ok-generated-clause-unread : goal.returns-in-Ok-generated-clause-unread
returns-in-Ok-generated-clause-unread g c = rw c.in-Generate.is (λ unread. c.fill.ensures.unread unread)
