use Rattle.std.proofs.Common.{take}
use Rattle.value_counts.specs.Counts.{Counts}
use Rattle.graph_parts.specs.Pieces.{joined}
use Rattle.graph_parts.proofs.pieces.counted.Given as goal

abbrev pub invariant-loop-piece : goal.invariant-loop-piece
invariant-loop-piece l = Counts l.counts (joined (take l.piece-index l.pieces))
