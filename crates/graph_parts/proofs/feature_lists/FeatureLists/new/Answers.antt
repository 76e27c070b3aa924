use Rattle.std.proofs.Common.{[], sym, ap, subst, ◌∙◌}
use Rattle.std.specs.FinMap.{get}
use Rattle.finite_maps.proofs.Cases.{some_none}
use Rattle.graph_parts.specs.Parts.{flat, feature_lists, AreFilled}
use Rattle.graph_parts.proofs.Flat.{get-flat}
use Rattle.graph_parts.proofs.ListLaws.{lists_none}
use Rattle.graph_parts.proofs.feature_lists.FeatureLists.new.Goals as goal

no_list : AreFilled []
no_list f g found = absurd (some_none (get (flat []) f) g found (get-flat [] f))

pub invariant_of-result : goal.invariant_of-result
invariant_of-result c = subst AreFilled (sym c.new.ensures.items) no_list

pub returns : goal.returns
returns c = ap feature_lists c.new.ensures.items ∙ lists_none
