-- By the cells that what is kept, and what is dropped, writes.
use Rattle.merge_laws.proofs.States.{three_way_is_one, no_change_is_lost, no_element_is_lost}
use Rattle.merge_laws.proofs.ThreeWay.{choices_part, kept_sides_meet, merged_cell_by_cell, merged_is_three_way, merged_without_conflict, merged_as_chosen}
use Rattle.merge_laws.proofs.ThreeWay.{merged_is_of_either}
use Rattle.merge_laws.proofs.ThreeWay.{kept_sides_lead, only_letters_drop}
use Rattle.merge_laws.proofs.three_way_laws.law_of_three_way.Goals as goal

pub returns-clause-apart : goal.returns-clause-apart
returns-clause-apart c = choices_part

pub returns-clause-lead : goal.returns-clause-lead
returns-clause-lead c = kept_sides_lead

pub returns-clause-meet : goal.returns-clause-meet
returns-clause-meet c = kept_sides_meet

pub returns-clause-cells : goal.returns-clause-cells
returns-clause-cells c = merged_cell_by_cell

pub returns-clause-states : goal.returns-clause-states
returns-clause-states c = merged_is_three_way

pub returns-clause-unconflicted : goal.returns-clause-unconflicted
returns-clause-unconflicted c = merged_without_conflict

pub returns-clause-chosen : goal.returns-clause-chosen
returns-clause-chosen c = merged_as_chosen

pub returns-clause-either : goal.returns-clause-either
returns-clause-either c = merged_is_of_either

pub returns-clause-one : goal.returns-clause-one
returns-clause-one c = three_way_is_one

pub returns-clause-changes : goal.returns-clause-changes
returns-clause-changes c = no_change_is_lost

pub returns-clause-elements : goal.returns-clause-elements
returns-clause-elements c = no_element_is_lost

pub returns-clause-letters : goal.returns-clause-letters
returns-clause-letters c = only_letters_drop
