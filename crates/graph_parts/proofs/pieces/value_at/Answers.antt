use Rattle.std.proofs.Common.{◌≡◌, [], List, refl, sym, ap, ◌∙◌, length, get_or}
use Rattle.std.specs.Prelude.{slice_get}
use Rattle.std.proofs.lemmas.List.{get_or_default}
use Rattle.std.proofs.lemmas.Option.{slice_get_read}
use Rattle.ecore_meta.specs.declared.meta.Value.{Value}
use Rattle.graph_parts.specs.Pieces.{joined}
use Rattle.graph_parts.proofs.JoinLaws.{Many, read_piece}
use Rattle.graph_parts.proofs.pieces.value_at.Goals as goal

pub returns : goal.returns
returns c =
    let ps : Many = c.args.pieces.now in
    let k = c.find-piece.result.0 in
    let i = c.find-piece.result.1 in
    let x = c.index-values-index.result in
    let piece : c.as_slice-values.result.now ≡ get_or ps k [] =
    c.as_slice-values.ensures ∙ c.index-pieces-piece.is ∙ get_or_default ps k c.index-pieces-piece.result [] c.find-piece.ensures.piece in
    ap (slice_get (joined ps)) (sym c.find-piece.ensures.index)
    ∙ read_piece ps k i c.find-piece.ensures.piece c.find-piece.ensures.within
    ∙ slice_get_read (get_or ps k []) (length (get_or ps k [])) i x refl c.find-piece.ensures.within
    (c.index-values-index.is ∙ ap (λ (l : List Value). get_or l i x) piece)
