use Rattle.std.proofs.Common.{Bool, None, ap, refl}
use Rattle.host_port.proofs.Course.{course_still}
use Rattle.store_session.specs.Tasks.{end_of, telling}
use Rattle.store_runs.proofs.Printing.{accepted_told, refused_told, untold}
use Rattle.store_runs.proofs.Starting.{at_start}
use Rattle.store_runs.proofs.showing.show.Goals as goal

pub returns-then-refused-clause-done : goal.returns-then-refused-clause-done
returns-then-refused-clause-done g c = λ state made holds.
    let old = g.H.Host.told c.args.host.now in
    let new = g.H.Host.told c.say.new.self in
    let task = telling c.args.reply.now c.args.refused in
    refused_told old old new made task state c.args.reply.now c.args.reply.now refl c.args.refused (λ told. at_start old state task made holds)
    (course_still old) c.say.ensures.course c.say.ensures.disk c.say.ensures.part refl c.in-Ok.ensures.whole
    (ap (λ (r : Bool). end_of None r) c.if-refused.true)

pub returns-else-refused-clause-done : goal.returns-else-refused-clause-done
returns-else-refused-clause-done g c = λ state made holds.
    let old = g.H.Host.told c.args.host.now in
    let new = g.H.Host.told c.say.new.self in
    let task = telling c.args.reply.now c.args.refused in
    accepted_told old old new made task state c.args.reply.now c.args.reply.now refl c.args.refused (λ told. at_start old state task made holds)
    (course_still old) c.say.ensures.course c.say.ensures.disk c.say.ensures.part refl c.in-Ok.ensures.whole
    (ap (λ (r : Bool). end_of None r) c.if-refused.false)

pub returns-in-Err-clause-done : goal.returns-in-Err-clause-done
returns-in-Err-clause-done g c = λ state made holds.
    let old = g.H.Host.told c.args.host.now in
    let new = g.H.Host.told c.say.new.self in
    let task = telling c.args.reply.now c.args.refused in
    untold old old new made task state c.args.reply.now c.args.reply.now refl c.args.refused (λ told. at_start old state task made holds)
    (course_still old) c.say.ensures.course c.say.ensures.disk c.say.ensures.part
