use Rattle.std.proofs.Common.{nat_lt, rules}
use Rattle.std.proofs.lemmas.Fn.{filter_same}
use Rattle.change_index.proofs.table.cut_numbers.Goals as goal

pub returns : goal.returns
returns c = filter_same _ (λ u. nat_lt u c.args.version) _ (λ x b f' k. search rules) _ _ c.retain.ensures.filtered
