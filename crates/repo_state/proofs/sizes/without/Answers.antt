use Rattle.std.proofs.Common.{not, nat_eq, rules, tests}
use Rattle.std.proofs.lemmas.Fn.{filter_same}
use Rattle.repo_state.specs.declared.sizes.Size.{Size}
use Rattle.repo_state.proofs.sizes.without.Goals as goal

pub returns-clause-items : goal.returns-clause-items
returns-clause-items c = filter_same _ (λ (s : Size). not (nat_eq s.at c.args.at)) _ (λ x b q k. search (rules, tests)) _ _ c.retain.ensures.filtered
