use Rattle.std.proofs.Common.{◌≡◌, ◌++◌, map}
use Rattle.script_items.specs.Generator.{without_block, opening, rounds}
use Rattle.script_items.proofs.generator.generated.Given as goal

abbrev pub invariant-rounds : goal.invariant-rounds
invariant-rounds l = l.items ≡ opening ++ map without_block (rounds l.seed l.k)
