use Rattle.edits.proofs.Recordings.{recording_leads}
use Rattle.edits.proofs.laws.law_of_recording.Goals as goal

pub returns : goal.returns
returns c = record { leads = recording_leads }
