use Rattle.std.proofs.Common.{take}
use Rattle.model_documents.specs.Finder.{ChildrenOf}
use Rattle.emfjson_drafts.proofs.finder.children_of.Given as goal

abbrev pub invariant-loop-n : goal.invariant-loop-n
invariant-loop-n l = ChildrenOf (take l.n l.rows) l.children
