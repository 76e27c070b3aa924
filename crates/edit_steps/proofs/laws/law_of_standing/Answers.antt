use Rattle.edit_steps.proofs.SpotOrder.{spot_stands}
use Rattle.edit_steps.proofs.RowStanding.{link_stands, set_ref_stands, reorder_stands}
use Rattle.edit_steps.proofs.PlaceStanding.{create_stands, move_within_stands, move_to_stands}
use Rattle.edit_steps.proofs.laws.law_of_standing.Goals as goal

pub returns-clause-spot : goal.returns-clause-spot
returns-clause-spot c = spot_stands

pub returns-clause-link : goal.returns-clause-link
returns-clause-link c = link_stands

pub returns-clause-set_ref : goal.returns-clause-set_ref
returns-clause-set_ref c = set_ref_stands

pub returns-clause-reorder : goal.returns-clause-reorder
returns-clause-reorder c = reorder_stands

pub returns-clause-create : goal.returns-clause-create
returns-clause-create c = create_stands

pub returns-clause-within : goal.returns-clause-within
returns-clause-within c = move_within_stands

pub returns-clause-to_another : goal.returns-clause-to_another
returns-clause-to_another c = move_to_stands
