use Rattle.std.proofs.Common.{◌≡◌, drop}
use Rattle.model_documents.specs.References.{entries_at}
use Rattle.emfjson_model.proofs.references.entries_at.Given as goal

abbrev pub invariant-loop-link : goal.invariant-loop-link
invariant-loop-link l = entries_at l.f (drop l.link-index l.links) ≡ entries_at l.f l.links
