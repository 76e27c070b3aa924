use Rattle.std.proofs.lemmas.Option.{get_or_from_slice_get}
use Rattle.value_counts.proofs.CountLaws.{counts_remove, counts_some}
use Rattle.graph_parts.specs.Pieces.{joined}
use Rattle.graph_parts.proofs.pieces.take_at.Goals as goal

pub take-requires : goal.take-requires
take-requires c =
    let vs = joined c.args.pieces.now in
    let v = c.value_at.result.now in
    counts_some c.args.counts.now vs c.args.at v c.requires.counts c.requires.at (get_or_from_slice_get vs c.args.at v v c.value_at.ensures)

pub returns : goal.returns
returns c =
    let vs = joined c.args.pieces.now in
    let v = c.value_at.result.now in
    counts_remove c.args.counts.now c.take.new.self vs c.args.at v c.requires.counts c.requires.at (get_or_from_slice_get vs c.args.at v v c.value_at.ensures)
    c.take.ensures
