use Rattle.std.proofs.Common.{◌≡◌, ◌&&◌, nat_eq, take}
use Rattle.std.specs.List.{list_any}
use Rattle.model_documents.specs.declared.doc.DocParent.{DocParent}
use Rattle.model_documents.specs.Finder.{numbers_at}
use Rattle.emfjson_model.specs.Sources.{also}
use Rattle.emfjson_model.proofs.sources.add_sources.Given as goal

abbrev pub invariant-loop-row : goal.invariant-loop-row
invariant-loop-row l = (q : DocParent)
    → numbers_at l.numbers q ≡ also l.n (list_any (nat_eq q.row) (take l.row-index l.targets) && nat_eq l.feature q.feature)
    (numbers_at l.initial.numbers q)
