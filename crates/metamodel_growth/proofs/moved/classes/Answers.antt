use Rattle.std.proofs.Common.{refl, get_or}
use Rattle.std.specs.Prelude.{slice_get}
use Rattle.std.specs.Option.{option_map}
use Rattle.metamodel_growth.specs.Renumbered.{class_moved}
use Rattle.metamodel_growth.proofs.CodeLaws.{taken_all, taken_more}
use Rattle.metamodel_growth.proofs.moved.classes.Goals as goal

pub loop-c-preserved : goal.loop-c-preserved
loop-c-preserved c =
    taken_more (λ k. option_map (class_moved c.args.next.now c.args.to.now k) (slice_get c.args.next.now.classes k))
    c.numbers-c-items.result.now c.loop-c.c-index
    (get_or c.numbers-c-items.result.now c.loop-c.c-index 0) 0
    c.loop-c.moved.items c.push_class.new.moved.items
    c.loop-c-test.true refl c.loop-c.invariant c.in_ok-push_class.ensures

pub returns : goal.returns
returns c =
    taken_all (λ k. option_map (class_moved c.args.next.now c.args.to.now k) (slice_get c.args.next.now.classes k))
    c.numbers-c-items.result.now c.args.to.now.classes
    c.loop-c.c-index c.loop-c.moved.items c.numbers-c-items.ensures c.loop-c.invariant c.loop-c-test.false
