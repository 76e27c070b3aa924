use Rattle.std.proofs.Common.{ℕ, not, nat_eq, rules, tests}
use Rattle.std.proofs.lemmas.Fn.{filter_same}
use Rattle.recently_used.proofs.recent.without.Goals as goal

pub returns-clause-items : goal.returns-clause-items
returns-clause-items c = filter_same _ (λ (n : ℕ). not (nat_eq n c.args.number)) _ (λ x b q k. search (rules, tests)) _ _ c.retain.ensures.filtered
