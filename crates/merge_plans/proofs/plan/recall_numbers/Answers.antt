use Rattle.std.proofs.Common.{List, subst, sym, arith}
use Rattle.std.specs.Prelude.{All}
use Rattle.footprint.specs.declared.bucket.Bucket.{Bucket}
use Rattle.merge_plans.proofs.Numbered.{HasNumbers, numbered}
use Rattle.merge_plans.proofs.plan.recall_numbers.Goals as goal

pub returns : goal.returns
returns c = record {
  places = subst (λ (rows : List Bucket). All HasNumbers rows) (sym c.requires.same)
      (numbered c.args._meta.now c.args.theirs.now c.args.mine.now (omega (arith, c.len-theirs.ensures, c.len-theirs.type_inv))
      (omega (arith, c.len-mine.ensures, c.len-mine.type_inv)));
}
