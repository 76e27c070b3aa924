-- it is reached
use Rattle.std.proofs.Common.{◌<◌, sym, subst, ◌∙◌}
use Rattle.conflict_buckets.proofs.Spreading.{flag_read, reached_by}
use Rattle.conflict_buckets.proofs.labelling.Labels.reach_new.Goals as goal

pub returns-clause-spread : goal.returns-clause-spread
returns-clause-spread c =
    let is = c.requires.spread in
    let place = c.args.place in
    let flags = c.args.self.now.reached.items in
    let off = flag_read flags place c.index.result.now (subst (λ n. place < n) (sym is.reached_size) c.requires.there) c.index.ensures ∙ c.if-index.false in
    reached_by c.args.prints.now c.args.label c.args._at place c.args.self.now.labels.items c.reach.new.self.labels.items flags
    c.reach.new.self.reached.items c.args.self.now.order.items c.reach.new.self.order.items
    is c.requires.there off c.requires.linked c.in_ok-reach.ensures.labels c.in_ok-reach.ensures.reached c.in_ok-reach.ensures.order
