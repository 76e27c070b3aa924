use Rattle.std.proofs.Common.{◌≡◌, map, take}
use Rattle.serde_json.specs.View.{view}
use Rattle.model_documents.specs.Links.{entry_of}
use Rattle.emfjson_drafts.proofs.links.entries_in.Given as goal

abbrev pub invariant-loop-value : goal.invariant-loop-value
invariant-loop-value l = l.entries ≡ map entry_of (map view (take l.value-index l.values))
