-- Where memory runs out before a reply is made, nothing is done.
use Rattle.store_runs.proofs.Starting.{nothing_done}
use Rattle.tools_top.specs.Tasks.{task_of}
use Rattle.tools_top.proofs.asked.AskedWork.fulfil.Goals as goal

pub returns-in-Err-clause-done : goal.returns-in-Err-clause-done
returns-in-Err-clause-done g c = λ made holds.
    let a = g.H.Host.told c.args.host.now in
    nothing_done a c.args.session.now.state (task_of c.args.self.now.tool c.args.session.now.state a.left) made holds

pub returns-in-Err-blame-clause-done : goal.returns-in-Err-blame-clause-done
returns-in-Err-blame-clause-done g c = λ made holds.
    let a = g.H.Host.told c.args.host.now in
    nothing_done a c.args.session.now.state (task_of c.args.self.now.tool c.args.session.now.state a.left) made holds
