use Rattle.std.proofs.Common.{◌∙◌, ap, map}
use Rattle.ecore_drafts.proofs.Items.{named_more}
use Rattle.ecore_drafts.proofs.names.literal_names.Goals as goal

pub loop-row-preserved : goal.loop-row-preserved
loop-row-preserved c =
    ap (map (λ n. n.now)) c.in_ok-push.ensures.items
    ∙ named_more (λ n. n.now)
    (λ x. x.name) c.loop-row.names.items c.as_str.result c.args.rows.now c.loop-row.row-index c.row-item.result c.loop-row-test.true
    c.loop-row.invariant c.as_str.ensures c.row-item.is
