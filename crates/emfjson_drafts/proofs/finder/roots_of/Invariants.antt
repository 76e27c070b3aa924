use Rattle.std.proofs.Common.{◌≡◌, take}
use Rattle.std.specs.Prelude.{None}
use Rattle.model_documents.specs.Places.{numbers_where, stands_in}
use Rattle.emfjson_drafts.proofs.finder.roots_of.Given as goal

abbrev pub invariant-loop-n : goal.invariant-loop-n
invariant-loop-n l = l.roots ≡ numbers_where (stands_in None) 0 (take l.n l.rows)
