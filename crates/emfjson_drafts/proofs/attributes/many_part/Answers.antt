use Rattle.std.proofs.Common.{◌∙◌, refl, sym, ap, append-nil, true, map}
use Rattle.std.specs.Prelude.{Ok}
use Rattle.serde_json.specs.View.{view}
use Rattle.model_documents.specs.Attributes.{attr_part, may_hold}
use Rattle.model_documents.specs.Parts.{Part, no_part}
use Rattle.model_documents.proofs.Features.{many_null, many_read, no_values, some_values}
use Rattle.emfjson_drafts.proofs.attributes.many_part.Goals as goal

pub returns-then-is_null : goal.returns-then-is_null
returns-then-is_null c = (
  no_part,
  many_null c.args.meta.now c.args.feature c.args.scalar.now c.args.unique (view c.args.json.now) (sym c.is_null.ensures ∙ c.if-is_null.true),
  sym (append-nil _),
  sym (append-nil _),
  refl,
)

pub returns-then-len-eq0 : goal.returns-then-len-eq0
returns-then-len-eq0 c = (
  no_part,
  many_read c.args.meta.now c.args.feature c.args.scalar.now c.args.unique (view c.args.json.now) c.in_ok-values.values true
      (map view c.elements.result.now) (sym c.is_null.ensures ∙ c.if-is_null.false) c.elements.ensures c.in_ok-values.ensures
      (ap (may_hold c.args.meta.now c.args.feature) (sym c.len.ensures) ∙ sym c.may_hold.ensures ∙ c.if-not-may_hold.false)
      ∙ ap (λ (p : Part). Ok p) (no_values c.args.feature c.in_ok-values.values (sym c.len-2.ensures ∙ c.if-len-eq0.true)),
  sym (append-nil _),
  sym (append-nil _),
  refl,
)

pub returns : goal.returns
returns c = (
  attr_part c.args.feature c.in_ok-values.values,
  many_read c.args.meta.now c.args.feature c.args.scalar.now c.args.unique (view c.args.json.now) c.in_ok-values.values true
      (map view c.elements.result.now) (sym c.is_null.ensures ∙ c.if-is_null.false) c.elements.ensures c.in_ok-values.ensures
      (ap (may_hold c.args.meta.now c.args.feature) (sym c.len.ensures) ∙ sym c.may_hold.ensures ∙ c.if-not-may_hold.false)
      ∙ ap (λ (p : Part). Ok p) (some_values c.args.feature c.in_ok-values.values (λ h. c.if-len-eq0.false (c.len-2.ensures ∙ h))),
  c.in_ok-push.ensures.ok,
  sym (append-nil _),
  refl,
)
