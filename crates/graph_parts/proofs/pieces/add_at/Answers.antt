use Rattle.std.proofs.Common.{◌≡◌}
use Rattle.std.specs.Prelude.{OnErr, OnOk, Ok, Err, Result}
use Rattle.std.proofs.lemmas.Option.{get_or_from_slice_get}
use Rattle.std.specs.List.{remove}
use Rattle.value_counts.specs.Counts.{Counts}
use Rattle.value_counts.proofs.CountLaws.{counts_back, counts_same}
use Rattle.graph_parts.specs.Pieces.{joined}
use Rattle.graph_parts.proofs.Results.{on_ok, on_err}
use Rattle.graph_parts.proofs.pieces.add_at.Goals as goal

pub returns-clause-ok : goal.returns-clause-ok
returns-clause-ok c =
    let vs = joined c.args.pieces.now in
    let v = c.value_at.result.now in
    on_ok c.add.result c.add.ensures.ok
    (counts_back c.args.counts.now c.add.new.self vs c.args.at v c.requires.counts c.requires.at (get_or_from_slice_get vs c.args.at v v c.value_at.ensures))

pub returns-clause-err : goal.returns-clause-err
returns-clause-err c =
    on_err c.add.result c.add.ensures.err (counts_same c.args.counts.now c.add.new.self (remove (joined c.args.pieces.now) c.args.at) c.requires.counts)
