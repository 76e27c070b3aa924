use Rattle.std.proofs.Common.{◌≡◌, take}
use Rattle.std.specs.List.{list_any}
use Rattle.model_documents.specs.declared.doc.DocParent.{DocParent}
use Rattle.model_documents.specs.Finder.{numbers_at}
use Rattle.emfjson_model.specs.Sources.{also}
use Rattle.emfjson_model.proofs.Naming.{gives}
use Rattle.emfjson_model.proofs.sources.add_given.Given as goal

abbrev pub invariant-loop-r : goal.invariant-loop-r
invariant-loop-r l = (q : DocParent) → numbers_at l.numbers q ≡ also l.n (list_any (gives l.refs q) (take l.r-index l.refs)) (numbers_at l.initial.numbers q)
