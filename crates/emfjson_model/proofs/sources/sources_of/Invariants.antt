use Rattle.std.proofs.Common.{take}
use Rattle.emfjson_model.specs.Sources.{SourcesOf}
use Rattle.emfjson_model.proofs.sources.sources_of.Given as goal

abbrev pub invariant-loop-n : goal.invariant-loop-n
invariant-loop-n l = SourcesOf (take l.n l.given) l.numbers
