use Rattle.std.proofs.Common.{◌∙◌, [], ap, sym, cond, length}
use Rattle.std.specs.Prelude.{None, Some}
use Rattle.model_documents.specs.declared.draft.ElementDraft.{ElementDraft}
use Rattle.model_documents.specs.Finder.{first_of}
use Rattle.model_documents.specs.Places.{has_id, named}
use Rattle.model_documents.proofs.Finding.{named_last}
use Rattle.emfjson_drafts.proofs.Lists.{get_between}
use Rattle.emfjson_drafts.proofs.drafts.Drafts.push.Goals as goal

pub invariant_of-self-in-Ok : goal.invariant_of-self-in-Ok
invariant_of-self-in-Ok c = λ t.
    let rows = c.self.inside.rows.items in
    let row = c.args.row in
    let is = c.in_ok-push.ensures.items in
    let last = c.len-own.ensures ∙ ap length (sym c.self.view_is) in
    c.in-Ok.ensures.found t
    ∙ ap (λ o. first_of o (cond (has_id t c.index.result.now) (Some c.len-own.result) None)) (c.self.invariant t)
    ∙ ap (λ (r : ElementDraft). first_of (named rows t) (cond (has_id t r) (Some c.len-own.result) None))
    (c.index.ensures ∙ get_between rows [] row c.index.result.now _ c.len-own.result is (sym last))
    ∙ ap (λ n. first_of (named rows t) (cond (has_id t row) (Some n) None)) last
    ∙ sym (named_last rows row t)
    ∙ ap (λ rs. named rs t) (sym is)
