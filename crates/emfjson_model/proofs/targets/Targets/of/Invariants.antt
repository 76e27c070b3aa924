use Rattle.std.proofs.Common.{◌≡◌, take}
use Rattle.emfjson_model.proofs.targets.Targets.of.Given as goal

abbrev pub invariant-loop-n : goal.invariant-loop-n
invariant-loop-n l = l.targets ≡ take l.n-index l.list
