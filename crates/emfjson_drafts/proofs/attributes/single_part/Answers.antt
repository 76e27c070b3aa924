use Rattle.std.proofs.Common.{◌∙◌, ◌++◌, ◌∷◌, [], List, refl, sym, ap, append-nil, true, false}
use Rattle.serde_json.specs.View.{view}
use Rattle.ecore_meta.specs.declared.meta.Value.{Value}
use Rattle.model_documents.specs.Attributes.{attr_part}
use Rattle.model_documents.specs.Parts.{no_part}
use Rattle.model_documents.proofs.Features.{single_null, single_set}
use Rattle.emfjson_drafts.proofs.attributes.single_part.Goals as goal

pub returns-then-is_null : goal.returns-then-is_null
returns-then-is_null c = (
  no_part,
  single_null c.args.meta.now c.args.feature c.args.scalar.now (view c.args.json.now) (sym c.is_null.ensures ∙ c.if-is_null.true),
  sym (append-nil _),
  sym (append-nil _),
  refl,
)

pub returns-then-is_default : goal.returns-then-is_default
returns-then-is_default c = (
  no_part,
  single_set c.args.meta.now c.args.feature c.args.scalar.now (view c.args.json.now) c.in_ok-value.value true
      (sym c.is_null.ensures ∙ c.if-is_null.false) c.in_ok-value.ensures (sym c.is_default.ensures ∙ c.if-is_default.true),
  sym (append-nil _),
  sym (append-nil _),
  refl,
)

pub returns : goal.returns
returns c = (
  attr_part c.args.feature (c.in_ok-value.value ∷ []),
  single_set c.args.meta.now c.args.feature c.args.scalar.now (view c.args.json.now) c.in_ok-value.value false
      (sym c.is_null.ensures ∙ c.if-is_null.false) c.in_ok-value.ensures (sym c.is_default.ensures ∙ c.if-is_default.false),
  c.in_ok-push.ensures.ok ∙ ap (λ (vs : List Value). c.args.held.now.attrs ++ record { feature = c.args.feature; values = vs } ∷ []) c.in_ok-values.ensures,
  sym (append-nil _),
  refl,
)
