-- what all items give is what those that are left give after the values so far, which are counted where each is held once
use Rattle.std.proofs.Common.{◌≡◌, [], drop, map, true}
use Rattle.serde_json.specs.View.{view}
use Rattle.model_documents.specs.Attributes.{next_value}
use Rattle.model_documents.specs.Reads.{collected}
use Rattle.value_counts.specs.Counts.{Counts}
use Rattle.emfjson_drafts.proofs.attributes.values_in.Given as goal

abbrev pub invariant-loop-item : goal.invariant-loop-item
invariant-loop-item l = record {
  same : collected (next_value l.meta l.scalar l.unique) [] (map view l.items) ≡ collected (next_value l.meta l.scalar l.unique) l.values
      (map view (drop l.item-index l.items));
  seen : l.unique ≡ true → Counts l.seen l.values;
}
