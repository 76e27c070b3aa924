use Rattle.std.proofs.Common.{ap, sym, ◌∙◌, map}
use Rattle.serde_json.specs.View.{view}
use Rattle.ecore_json.specs.Rows.{alone_or, elements}
use Rattle.ecore_json.proofs.Values.{list_of_items}
use Rattle.ecore_json.proofs.rows.elements_at.Goals as goal

pub returns-in-Some-as_array : goal.returns-in-Some-as_array
returns-in-Some-as_array c =
    ap (map view) c.as_slice.ensures.value ∙ sym (list_of_items (map view c.in-Some-as_array.items.now.items))
    ∙ ap (alone_or (view c.in-Some.held.now)) c.in-Some-as_array.ensures ∙ ap elements c.in-Some.ensures

pub returns-in-None : goal.returns-in-None
returns-in-None c = ap elements c.in-None.ensures
