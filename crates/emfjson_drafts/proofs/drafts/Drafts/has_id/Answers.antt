use Rattle.std.proofs.Common.{◌∙◌, ap}
use Rattle.std.specs.Prelude.{Some, is_some}
use Rattle.std.specs.List.{list_any}
use Rattle.finite_maps.specs.Equal.{option_eq, text_eq}
use Rattle.model_documents.specs.Parts.{ids_of}
use Rattle.model_documents.proofs.Finding.{named_had}
use Rattle.emfjson_drafts.proofs.drafts.Drafts.has_id.Goals as goal

pub returns : goal.returns
returns c =
    c.contains_key.ensures
    ∙ ap is_some (c.self.invariant c.args.id.now)
    ∙ named_had c.self.inside.rows.items c.args.id.now
    ∙ ap (λ rows. list_any (option_eq text_eq (Some c.args.id.now)) (ids_of rows)) c.self.view_is
