use Rattle.edits.proofs.Recordings.{keeps_good}
use Rattle.recorder.proofs.record.take_edit.Goals as goal

pub returns-clause-keeps : goal.returns-clause-keeps
returns-clause-keeps g c =
    keeps_good c.args.meta.now c.recall_soundness.ensures
    (g.L.Look.state c.args.look.now) c.requires.good c.args.ws c.args.edit.now c.record.result c.record.ensures
