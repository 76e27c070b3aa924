use Rattle.std.proofs.Common.{◌≡◌, ◌++◌, drop, nat_eq, not}
use Rattle.std.specs.List.{filter, list_any}
use Rattle.emfjson_model.proofs.completed.without.Given as goal

abbrev pub invariant-loop-n : goal.invariant-loop-n
invariant-loop-n l = l.others
    ++ filter (λ n. not (list_any (nat_eq n) l.targets)) (drop l.n-index l.numbers) ≡ filter (λ n. not (list_any (nat_eq n) l.targets)) l.numbers
