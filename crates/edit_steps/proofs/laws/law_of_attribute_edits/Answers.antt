use Rattle.edit_steps.proofs.AttributeEdits.{set_attr_meets, unset_attr_meets}
use Rattle.edit_steps.proofs.laws.law_of_attribute_edits.Goals as goal

pub returns-clause-set_attr : goal.returns-clause-set_attr
returns-clause-set_attr c = set_attr_meets

pub returns-clause-unset_attr : goal.returns-clause-unset_attr
returns-clause-unset_attr c = unset_attr_meets
