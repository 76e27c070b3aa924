use Rattle.std.proofs.Common.{◌∙◌, ◌++◌, ◌∷◌, ap, sym, refl}
use Rattle.model_documents.specs.declared.draft.ElementDraft.{ElementDraft}
use Rattle.model_documents.proofs.Finding.{named_set}
use Rattle.emfjson_drafts.proofs.Lists.{set_between, get_between}
use Rattle.emfjson_drafts.proofs.drafts.Drafts.fill.Goals as goal

pub invariant_of-self : goal.invariant_of-self
invariant_of-self c = λ t.
    c.self.invariant t ∙ sym (named_set c.self.inside.rows.items c.args.own c.index_mut-row.result.now _ t c.index_mut-row.ensures.value refl)

pub returns : goal.returns
returns c = λ before row after is at.
    set_between before after row _ c.self.inside.rows.items c.args.own (c.self.view_is ∙ is) at
    ∙ ap (λ (r : ElementDraft). before ++ record r { attrs = c.args.held.attrs; links = c.args.held.links } ∷ after)
    (c.index_mut-row.ensures.value ∙ get_between before after row c.index_mut-row.result.now c.self.inside.rows.items c.args.own (c.self.view_is ∙ is) at)
