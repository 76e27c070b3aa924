use Rattle.std.proofs.Common.{◌≡◌, ◌∙◌, arith, map, sym}
use Rattle.std.proofs.lemmas.Grind.{common_steps}
use Rattle.ecore_drafts.proofs.OwnLaws.{own_features_counted, own_features_from}
use Rattle.ecore_drafts.proofs.tables.own_features.Goals as goal

pub returns : goal.returns
returns c =
    let counted : map (λ fs. fs.items) c.loop-row.own.items ≡ own_features_from 0 c.args.rows.now = grind (arith, common_steps) in
    counted ∙ sym (own_features_counted c.args.rows.now)
