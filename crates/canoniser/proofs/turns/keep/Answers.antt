-- one operation less to be looked at
use Rattle.std.proofs.Common.{ap, ◌∙◌, arith, get_or, false, length}
use Rattle.canoniser.specs.Meetings.{standing_of}
use Rattle.canoniser.proofs.Keeping.{fewer, keep_turn}
use Rattle.canoniser.proofs.turns.keep.Goals as goal

pub loop-op-preserved : goal.loop-op-preserved
loop-op-preserved c =
    let low = fewer c.loop-op.list.items c.pop.new.self.items c.in-Some.op (length c.args.stands.now) c.in-Some.ensures.items c.loop-op.invariant.within in
    record {
      within = omega (arith, low);
      all = keep_turn c.args.stands.now c.loop-op.list.items c.pop.new.self.items c.loop-op.turned.items c.put_kept.new.list.items
          (standing_of c.args.stands.now c.args.list.items) c.in-Some.op (get_or c.args.stands.now c.len.result false)
          c.in-Some.ensures.items low
          (ap (λ n. get_or c.args.stands.now n false) (c.len.ensures ∙ c.pop.new.self.ok.0)) c.in_ok-put_kept.ensures c.loop-op.invariant.all;
    }
