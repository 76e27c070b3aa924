use Rattle.std.proofs.Common.{◌≡◌, take}
use Rattle.graph_parts.proofs.pieces.copied_pieces.Given as goal

abbrev pub invariant-loop-piece : goal.invariant-loop-piece
invariant-loop-piece l = l.copy.items ≡ take l.piece-index l.pieces
