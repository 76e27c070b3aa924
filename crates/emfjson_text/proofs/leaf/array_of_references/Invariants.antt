use Rattle.std.proofs.Common.{◌≡◌, ◌++◌, ◌∷◌, drop, false}
use Rattle.std.specs.String.{string_bytes}
use Rattle.emfjson_text.specs.Frames.{references_text}
use Rattle.emfjson_text.proofs.leaf.array_of_references.Given as goal

abbrev pub invariant-loop-target : goal.invariant-loop-target
invariant-loop-target l = string_bytes l.out ++ references_text l.later (drop l.target-index l.targets) ≡ 91 ∷ references_text false l.targets
