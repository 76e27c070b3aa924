use Rattle.std.proofs.Common.{◌<◌, [], sym, ap, subst, ◌∙◌, length, get_or}
use Rattle.std.specs.Prelude.{slice_get}
use Rattle.std.proofs.lemmas.List.{get_or_default}
use Rattle.graph_parts.specs.Pieces.{joined}
use Rattle.graph_parts.proofs.JoinLaws.{Many, read_piece}
use Rattle.graph_parts.proofs.pieces.Pieces.get.Goals as goal

pub returns : goal.returns
returns c =
    let ps : Many = c.as_slice.result.now in
    let k = c.find-piece.result.0 in
    let i = c.find-piece.result.1 in
    let piece = c.index.ensures ∙ ap (λ (qs : Many). get_or qs k c.index.result.now) (sym c.as_slice.ensures.value)
    ∙ get_or_default ps k c.index.result.now [] c.find-piece.ensures.piece in
    c.get.ensures ∙ ap (λ l. slice_get l i) piece
    ∙ sym (read_piece ps k i c.find-piece.ensures.piece c.find-piece.ensures.within)
    ∙ ap (slice_get (joined ps)) c.find-piece.ensures.index
    ∙ ap (λ (qs : Many). slice_get (joined qs) c.args.at) c.as_slice.ensures.value
    ∙ ap (λ l. slice_get l c.args.at) c.self.view_is
