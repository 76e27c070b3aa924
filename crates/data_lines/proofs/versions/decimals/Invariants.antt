use Rattle.std.proofs.Common.{◌≡◌, ◌++◌, drop, map}
use Rattle.std.specs.Fmt.{decimal}
use Rattle.data_lines.proofs.versions.decimals.Given as goal

abbrev pub invariant-loop-number : goal.invariant-loop-number
invariant-loop-number l = l.texts ++ map decimal (drop l.number-index l.numbers) ≡ map decimal l.numbers
