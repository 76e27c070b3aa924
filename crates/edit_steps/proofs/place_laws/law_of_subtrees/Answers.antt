use Rattle.edit_steps.proofs.DeleteLaws.{subtree_is_below, subtree_is_in_order, subtree_is_live}
use Rattle.edit_steps.proofs.place_laws.law_of_subtrees.Goals as goal

pub returns-clause-in_order : goal.returns-clause-in_order
returns-clause-in_order c = subtree_is_in_order

pub returns-clause-below : goal.returns-clause-below
returns-clause-below c = subtree_is_below

pub returns-clause-live : goal.returns-clause-live
returns-clause-live c = subtree_is_live
