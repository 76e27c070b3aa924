use Rattle.std.proofs.Common.{◌≡◌, ◌+◌, ◌∷◌, ◌++◌, [], List, sym, ap, subst, ◌∙◌, drop, map, refl}
use Rattle.serde_json.specs.View.{view}
use Rattle.serde_json.specs.Data.{Data}
use Rattle.ecore_meta.specs.declared.meta.Value.{Value}
use Rattle.model_documents.specs.Attributes.{next_value}
use Rattle.model_documents.specs.Reads.{collected}
use Rattle.emfjson_drafts.proofs.Lists.{next_of}
use Rattle.emfjson_drafts.proofs.Reading.{fault_is, fault_then, gives_fault}
use Rattle.emfjson_drafts.proofs.attributes.values_in.Goals as goal

pub returns-in_err-value : goal.returns-in_err-value
returns-in_err-value c =
    let give = next_value c.args.meta.now c.args.scalar.now c.args.unique in
    let xs = c.args.items.now in
    let i = c.loop-item.item-index in
    let x = c.item-item.result in
    let e = c.in_err-value.field-0.0 in
    let vs : List Value = c.loop-item.values in
    let rest = next_of xs xs i x refl c.loop-item-test.true c.item-item.is in
    let split : collected give [] (map view xs) ≡ collected give vs (view x ∷ map view (drop (i + 1) xs)) =
    c.loop-item.invariant.same ∙ ap (λ l. collected give vs (map view l)) rest in
    let fault = c.in_err-value.ensures vs c.loop-item.invariant.seen in
    gives_fault e c.from_residual.result (collected give [] (map view xs)) c.from_residual.ensures.0 c.from_residual.ensures.1
    (fault_is e (collected give vs (view x ∷ map view (drop (i + 1) xs))) (collected give [] (map view xs))
    (fault_then e (give vs (view x)) (λ v. collected give (vs ++ v ∷ []) (map view (drop (i + 1) xs))) fault) (sym split))
