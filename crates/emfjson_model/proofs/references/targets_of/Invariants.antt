use Rattle.std.proofs.Common.{◌≡◌, [], drop}
use Rattle.model_documents.specs.References.{target_of}
use Rattle.model_documents.specs.Reads.{collected}
use Rattle.emfjson_model.proofs.references.targets_of.Given as goal

abbrev pub invariant-loop-entry : goal.invariant-loop-entry
invariant-loop-entry l = collected (target_of l.meta l.rows l.f) [] l.entries ≡ collected (target_of l.meta l.rows l.f) l.targets (drop l.entry-index l.entries)
