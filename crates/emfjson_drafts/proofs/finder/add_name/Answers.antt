use Rattle.std.proofs.Common.{◌∙◌, ap, sym}
use Rattle.std.specs.Prelude.{is_some}
use Rattle.std.specs.BTreeMap.{get_by_text}
use Rattle.std.proofs.lemmas.Map.Text.{btree_map_updates_text}
use Rattle.finite_maps.proofs.Cases.{no_some}
use Rattle.model_documents.proofs.Finding.{name_added}
use Rattle.emfjson_drafts.proofs.finder.add_name.Goals as goal

pub returns-in_ok-insert-in-Some-clause-found : goal.returns-in_ok-insert-in-Some-clause-found
returns-in_ok-insert-in-Some-clause-found c = λ t.
    btree_map_updates_text _ c.args.names.now c.insert.new.self _ c.in_ok-insert-in-Some.ensures.updates t
    ∙ name_added (get_by_text c.args.names.now) c.args.id.now c.in-Some.id _ t c.args.n c.in-Some.is
    (c.in_ok-key-in-Some.ensures.ok ∙ c.as_str-then-not-contains_key.ensures.bytes)
    (no_some _ (ap (λ x. is_some (get_by_text c.args.names.now x)) (sym c.as_str.ensures.bytes) ∙ sym c.contains_key.ensures ∙ c.if-not-contains_key.true))
