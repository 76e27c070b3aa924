use Rattle.std.proofs.Common.{◌∙◌, sym, ap}
use Rattle.model_documents.specs.Completed.{targets_at}
use Rattle.import_laws.specs.Links.{index_in, refs_at}
use Rattle.model_import.proofs.indexes.Indexes.index.Goals as goal

pub returns-in-Some : goal.returns-in-Some
returns-in-Some c =
    sym (c.found.ensures c.self.inside.rows.now c.in-Some.index c.self.invariant c.in-Some.is)
    ∙ ap (λ rows. index_in c.args.n (targets_at c.args.feature (refs_at rows c.args.b))) c.self.view_is

pub returns-in-None : goal.returns-in-None
returns-in-None c =
    c.index_in.ensures ∙ ap (index_in c.args.n)
    (c.targets_at.ensures ∙ ap (targets_at c.args.feature) (c.refs_at.ensures ∙ ap (λ rows. refs_at rows c.args.b) c.self.view_is))
