-- one bucket more, and none
use Rattle.std.proofs.Common.{◌<◌, length, get_or, arith}
use Rattle.merge_laws.specs.declared.side.Side.{Side}
use Rattle.merge_laws.specs.declared.side.Side.TheVariants.{Mine}
use Rattle.merge_choices.proofs.Drops.{get_any, mine_more, mine_end}
use Rattle.merge_choices.proofs.choices.mine_dropped.Goals as goal

pub loop-k-preserved : goal.loop-k-preserved
loop-k-preserved c =
    let low : c.loop-k.k < length c.args.sides.now = omega (arith, c.loop-k-test.true, c.requires) in
    let side : Side = get_or c.args.sides.now c.loop-k.k Mine in
    mine_more c.args.buckets.now c.args.sides.now c.loop-k.k c.index-buckets-k.result side c.loop-k-test.true low c.index-buckets-k.is
    (get_any c.args.sides.now c.loop-k.k Mine side low) c.loop-k.flags.items c.flag_mine.new.flags.items c.args.size c.loop-k.invariant
    c.flag_mine.ensures

pub returns : goal.returns
returns c = mine_end c.args.buckets.now c.args.sides.now c.loop-k.k c.loop-k.flags.items c.args.size c.loop-k-test.false c.loop-k.invariant
