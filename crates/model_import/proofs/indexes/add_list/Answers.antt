use Rattle.std.proofs.Common.{◌∙◌, ap, subst, List, ℕ}
use Rattle.model_documents.specs.Completed.{targets_at}
use Rattle.model_import.specs.Indexes.{Tells}
use Rattle.model_import.proofs.FirstPlaces.{told_more}
use Rattle.model_import.proofs.indexes.add_list.Goals as goal

pub returns : goal.returns
returns c =
    let tells = subst (λ (ts : List ℕ). Tells c.in_ok-list.list ts)
    (c.targets_at-targets.ensures ∙ ap (targets_at c.args.feature) c.refs_at.ensures) c.in_ok-list.ensures in
    told_more c.args.rows.now c.args.lists.now c.insert.new.self c.args.b c.args.feature c.in_ok-list.list c.requires tells c.in_ok-insert.ensures.updates.0
