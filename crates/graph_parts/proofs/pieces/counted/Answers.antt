use Rattle.std.proofs.Common.{◌++◌, List, sym, ap, subst, ◌∙◌, take}
use Rattle.ecore_meta.specs.declared.meta.Value.{Value}
use Rattle.value_counts.specs.Counts.{Counts}
use Rattle.graph_parts.specs.Pieces.{joined}
use Rattle.graph_parts.proofs.JoinLaws.{joined_more}
use Rattle.graph_parts.proofs.pieces.counted.Goals as goal

pub loop-piece-preserved : goal.loop-piece-preserved
loop-piece-preserved c =
    let ps = c.args.pieces.now in
    let i = c.loop-piece.piece-index in
    let p = c.piece-item.result in
    subst (λ (l : List Value). Counts c.add_all.new.self l)
    (ap (λ q. joined (take i ps) ++ q) c.as_slice.ensures ∙ sym (joined_more ps i p c.loop-piece-test.true c.piece-item.is))
    (c.in_ok-add_all.ensures (joined (take i ps)) c.loop-piece.invariant)
