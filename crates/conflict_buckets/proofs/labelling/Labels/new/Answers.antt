use Rattle.conflict_buckets.proofs.Spreading.{spread_begin}
use Rattle.conflict_buckets.proofs.labelling.Labels.new.Goals as goal

pub returns : goal.returns
returns c = spread_begin c.args.prints.now c.in_ok-labels.labels.items c.in_ok-reached.reached.items c.new.result.items c.in_ok-labels.ensures.size
    c.in_ok-labels.ensures.own (c.in_ok-reached.ensures.items_if_clones_equal (λ y same. same)) c.new.ensures.items
