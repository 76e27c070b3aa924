-- one operation more
use Rattle.std.proofs.Common.{◌+◌, ◌++◌, ◌∷◌, [], drop, ap, ◌∙◌}
use Rattle.merge_laws.specs.Merge.{kept}
use Rattle.merge_choices.specs.Flags.{is_flagged}
use Rattle.merge_choices.proofs.Picks.{keeps_one, keeps_none, at_index}
use Rattle.merge_choices.proofs.picking.keep.Goals as goal
use Rattle.merge_choices.proofs.picking.keep.Goals.{then-not-flags-i+in_ok-copy+in_ok-push, else-not-flags-i}

pub loop-i-preserved : goal.loop-i-preserved
loop-i-preserved c =
    let p = is_flagged c.args.flags.now in
    let ops = c.args.ops.now in
    let i = c.loop-i.i in
    elim c.if-not-flags-i.branch [
      | then-not-flags-i+in_ok-copy+in_ok-push w ↦
          ap (λ l. l ++ kept (λ j. p ((i + 1) + j)) (drop (i + 1) ops))
          (w.out-is ∙ w.in_ok-push.ensures.ok ∙ ap (λ x. c.loop-i.out ++ x ∷ []) w.in_ok-copy.ensures)
          ∙ keeps_one p ops c.loop-i.out i w.index-ops-i.result c.loop-i-test.true w.index-ops-i.is
          (c.args.out.now ++ kept p ops) w.if-not-flags-i.true c.loop-i.invariant
      | else-not-flags-i w ↦
          let at = at_index ops i c.loop-i-test.true in
          ap (λ l. l ++ kept (λ j. p ((i + 1) + j)) (drop (i + 1) ops)) w.out-is
          ∙ keeps_none p ops c.loop-i.out i at.0 c.loop-i-test.true at.1 (c.args.out.now ++ kept p ops) w.if-not-flags-i.false c.loop-i.invariant
    ]
