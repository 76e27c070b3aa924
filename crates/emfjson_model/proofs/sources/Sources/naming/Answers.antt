use Rattle.std.proofs.Common.{◌∙◌, [], ap}
use Rattle.std.specs.Prelude.{unwrap_or}
use Rattle.model_documents.specs.Completed.{naming}
use Rattle.emfjson_model.proofs.sources.Sources.naming.Goals as goal

pub returns-in-None : goal.returns-in-None
returns-in-None c =
    ap (λ o. unwrap_or o []) c.in-None.ensures.value
    ∙ c.self.invariant (record { row = c.args.row; feature = c.args.feature })
    ∙ ap (naming c.args.feature c.args.row [] 0) c.self.view_is

pub returns-in-Some : goal.returns-in-Some
returns-in-Some c =
    c.as_slice.ensures
    ∙ ap (λ o. unwrap_or o []) c.in-Some.ensures.value
    ∙ c.self.invariant (record { row = c.args.row; feature = c.args.feature })
    ∙ ap (naming c.args.feature c.args.row [] 0) c.self.view_is
