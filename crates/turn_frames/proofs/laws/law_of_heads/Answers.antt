use Rattle.turn_frames.proofs.Reading.{frames_are_one, frames_are_read, inputs_are_spelled, whole_frames_are_read}
use Rattle.turn_frames.proofs.laws.law_of_heads.Goals as goal

pub returns-clause-read : goal.returns-clause-read
returns-clause-read c = frames_are_read

pub returns-clause-whole : goal.returns-clause-whole
returns-clause-whole c = whole_frames_are_read

pub returns-clause-one : goal.returns-clause-one
returns-clause-one c = frames_are_one

pub returns-clause-spelled : goal.returns-clause-spelled
returns-clause-spelled c = inputs_are_spelled
