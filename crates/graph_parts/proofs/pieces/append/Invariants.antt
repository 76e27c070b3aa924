use Rattle.std.proofs.Common.{◌≡◌, ◌++◌, take}
use Rattle.graph_parts.proofs.pieces.append.Given as goal

abbrev pub invariant-loop-v : goal.invariant-loop-v
invariant-loop-v l = l.found ≡ l.initial.found ++ take l.v-index l.values
