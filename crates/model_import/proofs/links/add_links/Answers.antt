use Rattle.std.proofs.Common.{◌≡◌, ◌++◌, List, subst}
use Rattle.std.specs.Prelude.{OnOk}
use Rattle.model_documents.specs.declared.doc.DocRow.{DocRow}
use Rattle.import_laws.specs.Links.{links_from}
use Rattle.model_import.proofs.links.add_links.Goals as goal

pub returns : goal.returns
returns c =
    subst (λ (all : List DocRow).
    OnOk c.add_all.result (c.add_all.new.steps ≡ c.args.steps.now ++ links_from c.args.meta.now c.args.names.now all 0 c.args.rows.now))
    c.in_ok-indexes.ensures c.add_all.ensures
