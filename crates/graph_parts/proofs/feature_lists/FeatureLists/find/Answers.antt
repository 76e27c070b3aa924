use Rattle.std.proofs.Common.{sym, ◌∙◌}
use Rattle.std.specs.FinMap.{get-empty}
use Rattle.model_state.specs.Keys.{id_cmp}
use Rattle.graph_parts.proofs.feature_lists.FeatureLists.find.Goals as goal

pub returns-in-None : goal.returns-in-None
returns-in-None c = sym (get-empty id_cmp c.args.e.now) ∙ c.in-None.ensures c.args.e.now
