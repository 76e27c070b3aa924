use Rattle.std.proofs.Common.{◌≡◌, ◌+◌, take, length}
use Rattle.graph_parts.specs.Pieces.{joined}
use Rattle.graph_parts.proofs.pieces.find.Given as goal

abbrev pub invariant-loop-piece : goal.invariant-loop-piece
invariant-loop-piece l = length (joined (take l.piece l.pieces)) + l.left ≡ l.at
