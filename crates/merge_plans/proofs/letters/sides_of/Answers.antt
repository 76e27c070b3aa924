use Rattle.merge_laws.specs.Choices.{side_of}
use Rattle.merge_plans.proofs.Gathered.{mapped_more}
use Rattle.merge_plans.proofs.letters.sides_of.Goals as goal

pub loop-letter-preserved : goal.loop-letter-preserved
loop-letter-preserved c =
    mapped_more side_of c.as_bytes-letter-items.result.now c.loop-letter.sides.items c.push.new.self.items c.loop-letter.letter-index 0
    c.side_of.result c.loop-letter-test.true c.loop-letter.invariant c.in_ok-push.ensures.items c.side_of.ensures
