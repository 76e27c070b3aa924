use Rattle.std.proofs.Common.{◌++◌, arith, ap, ◌∙◌}
use Rattle.std.specs.Fmt.{decimal}
use Rattle.working_model.specs.Taken.{deletes}
use Rattle.working_model.proofs.Freed.{other_id}
use Rattle.working_model.proofs.deletions.least_of.Goals as goal

pub returns-in-Gone-clause-kept : goal.returns-in-Gone-clause-kept
returns-in-Gone-clause-kept c = λ j low.
    ap (deletes (c.args.prefix.now ++ decimal j)) c.in-Gone.is
    ∙ other_id c.args.prefix.now c.in-Gone.e c.number_of.result c.lesser.result j c.number_of.ensures c.lesser.ensures.under (omega arith) low
