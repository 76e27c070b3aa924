use Rattle.std.proofs.Common.{sym, ap, subst, ◌∙◌}
use Rattle.graph_parts.specs.Parts.{feature_lists, AreFilled}
use Rattle.graph_parts.proofs.feature_lists.FeatureLists.copy.Goals as goal

pub invariant_of-result : goal.invariant_of-result
invariant_of-result c = subst AreFilled (sym (c.in_ok-copied_lists.ensures ∙ c.as_slice.ensures.value)) c.self.invariant

pub returns : goal.returns
returns c = ap feature_lists (c.in_ok-copied_lists.ensures ∙ c.as_slice.ensures.value) ∙ c.self.view_is
