-- what is printed is the reply
use Rattle.std.proofs.Common.{◌≡◌, ◌∙◌, sym, ap, subst}
use Rattle.host_port.proofs.Course.{still_input}
use Rattle.plain_repository.specs.Answers.{is_refusal}
use Rattle.script_lang.specs.Reply.{printed}
use Rattle.store_session.specs.Endings.{IsDone}
use Rattle.store_session.specs.Tasks.{Task, telling}
use Rattle.store_runs.proofs.Starting.{nothing_done}
use Rattle.tools_top.specs.Tasks.{replying}
use Rattle.tools_top.proofs.asked.tell.Goals as goal

pub returns-in-Err-clause-done : goal.returns-in-Err-clause-done
returns-in-Err-clause-done g c = λ state made holds. nothing_done (g.H.Host.told c.args.host.now) state (replying c.args.reply.now) made holds

pub returns-in-Ok-clause-done : goal.returns-in-Ok-clause-done
returns-in-Ok-clause-done g c = λ state made holds.
    let reply = c.args.reply.now in
    let same : telling c.as_slice.result.now c.is_refusal.result ≡ replying reply =
    ap (λ l. telling l c.is_refusal.result) (c.as_slice.ensures.value ∙ c.in-Ok.ensures.bytes) ∙ ap (telling (printed reply)) c.is_refusal.ensures
    in
    subst (λ (t : Task). IsDone t made (g.H.Host.told c.args.host.now) (g.H.Host.told c.show.new.host) c.show.result) same
    (c.show.ensures.done state made holds)
