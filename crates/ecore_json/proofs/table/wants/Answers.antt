use Rattle.std.proofs.Common.{ap, ◌∙◌}
use Rattle.ecore_json.specs.Table.{row_of, wants}
use Rattle.ecore_json.proofs.table.wants.Goals as goal

pub returns : goal.returns
unfolding wants
returns c = c.row_of.ensures ∙ ap (λ rows. row_of rows c.args.key.now) c.table.ensures
