use Rattle.std.proofs.Common.{refl, arith, get_or}
use Rattle.metamodel_growth.proofs.PlaceLaws.{item_at, low_item, placed_all, placed_more}
use Rattle.metamodel_growth.proofs.order.places_of.Goals as goal

pub index_mut-requires : goal.index_mut-requires
index_mut-requires c =
    let at = item_at c.args.numbers.now c.loop-i.i (get_or c.args.numbers.now c.loop-i.i 0) 0 c.loop-i-test.true refl in
    let low = low_item c.args.numbers.now c.requires.order c.loop-i.i (get_or c.args.numbers.now c.loop-i.i 0) at in
    omega (arith, low, c.loop-i.invariant.0, c.loop-i.places.ok)

pub loop-i-preserved : goal.loop-i-preserved
loop-i-preserved c =
    placed_more c.args.numbers.now c.loop-i.places.items c.loop-i.i (get_or c.args.numbers.now c.loop-i.i 0) c.requires.order c.loop-i.invariant
    (item_at c.args.numbers.now c.loop-i.i (get_or c.args.numbers.now c.loop-i.i 0) 0 c.loop-i-test.true refl)

pub returns : goal.returns
returns c = placed_all c.args.numbers.now c.loop-i.places.items c.loop-i.i c.requires.order c.loop-i.invariant c.loop-i-test.false
