use Rattle.std.proofs.Common.{◌≡◌, ◌++◌, ◌+◌, drop}
use Rattle.edit_steps.specs.Spot.{evened}
use Rattle.import_laws.specs.Roots.{with_ranks}
use Rattle.model_import.proofs.roots.even_entries.Given as goal

abbrev pub invariant-loop-x : goal.invariant-loop-x
invariant-loop-x l = record {
  so_far : l.even ++ with_ranks (drop l.x-index l.list) (evened l.n (drop l.x-index l.list)) ≡ with_ranks l.list (evened 1 l.list);
  count : l.n ≡ l.x-index + 1;
}
