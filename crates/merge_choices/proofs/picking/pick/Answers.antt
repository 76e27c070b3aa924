-- one operation more
use Rattle.std.proofs.Common.{◌+◌, ◌++◌, ◌∷◌, [], drop, ap, ◌∙◌}
use Rattle.merge_laws.specs.Merge.{dropped}
use Rattle.merge_choices.specs.Flags.{is_flagged}
use Rattle.merge_choices.proofs.Picks.{drops_one, drops_none, at_index}
use Rattle.merge_choices.proofs.picking.pick.Goals as goal
use Rattle.merge_choices.proofs.picking.pick.Goals.{then-flags-i+in_ok-copy+in_ok-push, else-flags-i}

pub loop-i-preserved : goal.loop-i-preserved
loop-i-preserved c =
    let p = is_flagged c.args.flags.now in
    let ops = c.args.ops.now in
    let i = c.loop-i.i in
    elim c.if-flags-i.branch [
      | then-flags-i+in_ok-copy+in_ok-push w ↦
          ap (λ l. l ++ dropped (λ j. p ((i + 1) + j)) (drop (i + 1) ops))
          (w.out-is ∙ w.in_ok-push.ensures.ok ∙ ap (λ x. c.loop-i.out ++ x ∷ []) w.in_ok-copy.ensures)
          ∙ drops_one p ops c.loop-i.out i w.index-ops-i.result c.loop-i-test.true w.index-ops-i.is (dropped p ops) w.if-flags-i.true c.loop-i.invariant
      | else-flags-i w ↦
          let at = at_index ops i c.loop-i-test.true in
          ap (λ l. l ++ dropped (λ j. p ((i + 1) + j)) (drop (i + 1) ops)) w.out-is
          ∙ drops_none p ops c.loop-i.out i at.0 c.loop-i-test.true at.1 (dropped p ops) w.if-flags-i.false c.loop-i.invariant
    ]
