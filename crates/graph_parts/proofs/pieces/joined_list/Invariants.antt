use Rattle.std.proofs.Common.{◌≡◌, take}
use Rattle.graph_parts.specs.Pieces.{joined}
use Rattle.graph_parts.proofs.pieces.joined_list.Given as goal

abbrev pub invariant-loop-piece : goal.invariant-loop-piece
invariant-loop-piece l = l.found ≡ joined (take l.piece-index l.pieces)
