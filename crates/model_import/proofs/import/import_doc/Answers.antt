use Rattle.import_laws.proofs.NameLists.{is_recorded}
use Rattle.model_import.proofs.import.import_doc.Goals as goal

pub returns-clause-recorded : goal.returns-clause-recorded
returns-clause-recorded g c = is_recorded c.args.meta.now (g.L.Look.state c.args.look.now) c.args.ws c.args.doc.now.rows c.imported.result c.imported.ensures
