use Rattle.std.proofs.Common.{ap, sym, ◌∙◌, map}
use Rattle.serde_json.specs.View.{view}
use Rattle.ecore_json.specs.Rows.{alone_or}
use Rattle.ecore_json.proofs.Values.{list_of_items}
use Rattle.emfjson_drafts.proofs.attributes.elements.Goals as goal

pub returns-in-Some : goal.returns-in-Some
returns-in-Some c =
    ap (map view) c.as_slice.ensures.value ∙ sym (list_of_items (map view c.in-Some.items.now.items)) ∙ ap (alone_or (view c.args.json.now)) c.in-Some.ensures
