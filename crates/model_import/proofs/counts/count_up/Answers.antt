use Rattle.model_import.proofs.PlaceCounts.{up}
use Rattle.model_import.proofs.counts.count_up.Goals as goal

pub returns-in_ok-insert-in-Some : goal.returns-in_ok-insert-in-Some
returns-in_ok-insert-in-Some c = λ q.
    up c.args.counts.now c.insert.new.self c.args.parent c.in-Some.place q c.args.n c.in-Some.is c.requires.before
    (c.in_ok-insert-in-Some.ensures.updates.0 (q.row, q.feature))
