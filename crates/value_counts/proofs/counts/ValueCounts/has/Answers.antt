use Rattle.std.proofs.Common.{◌∙◌, ap, nat_lt}
use Rattle.value_counts.proofs.CountLaws.{counts_has}
use Rattle.value_counts.proofs.counts.ValueCounts.has.Goals as goal

pub returns : goal.returns
returns c = λ vs counts. ap (nat_lt 0) c.count.ensures ∙ counts_has c.args.self.now c.args.v.now vs counts
