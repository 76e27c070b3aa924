use Rattle.std.proofs.Common.{take}
use Rattle.model_documents.specs.Finder.{NamesOf}
use Rattle.emfjson_drafts.proofs.finder.names_of.Given as goal

abbrev pub invariant-loop-n : goal.invariant-loop-n
invariant-loop-n l = NamesOf (take l.n l.rows) l.names
