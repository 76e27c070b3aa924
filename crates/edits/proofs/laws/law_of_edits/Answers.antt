use Rattle.edits.proofs.Taken.{edits_meet, edits_keep_good}
use Rattle.edits.proofs.Stands.{edits_stand}
use Rattle.edits.proofs.Unchanged.{edits_idle}
use Rattle.edits.proofs.laws.law_of_edits.Goals as goal

pub returns-clause-meets : goal.returns-clause-meets
returns-clause-meets c = edits_meet

pub returns-clause-idle : goal.returns-clause-idle
returns-clause-idle c = edits_idle

pub returns-clause-good : goal.returns-clause-good
returns-clause-good c = edits_keep_good

pub returns-clause-stands : goal.returns-clause-stands
returns-clause-stands c = edits_stand
