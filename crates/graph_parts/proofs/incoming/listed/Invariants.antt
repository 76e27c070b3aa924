use Rattle.std.proofs.Common.{◌≡◌, map}
use Rattle.std.specs.Map.Iter.{deref_pair}
use Rattle.graph_parts.specs.Parts.{incoming_of}
use Rattle.graph_parts.proofs.incoming.listed.Given as goal

abbrev pub invariant-loop-key : goal.invariant-loop-key
invariant-loop-key l = l.found ≡ map incoming_of (map deref_pair l.yielded)
