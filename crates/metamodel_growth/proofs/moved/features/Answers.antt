use Rattle.std.proofs.Common.{refl, get_or}
use Rattle.std.specs.Prelude.{slice_get}
use Rattle.std.specs.Option.{option_map}
use Rattle.metamodel_growth.specs.Renumbered.{feature_moved}
use Rattle.metamodel_growth.proofs.CodeLaws.{taken_all, taken_more}
use Rattle.metamodel_growth.proofs.moved.features.Goals as goal

pub loop-f-preserved : goal.loop-f-preserved
loop-f-preserved c =
    taken_more (λ k. option_map (feature_moved c.args.to.now) (slice_get c.args.next.now.features k))
    c.numbers-f-items.result.now c.loop-f.f-index
    (get_or c.numbers-f-items.result.now c.loop-f.f-index 0) 0
    c.loop-f.moved.items c.push_feature.new.moved.items
    c.loop-f-test.true refl c.loop-f.invariant c.in_ok-push_feature.ensures

pub returns : goal.returns
returns c =
    taken_all (λ k. option_map (feature_moved c.args.to.now) (slice_get c.args.next.now.features k))
    c.numbers-f-items.result.now c.args.to.now.features
    c.loop-f.f-index c.loop-f.moved.items c.numbers-f-items.ensures c.loop-f.invariant c.loop-f-test.false
