use Rattle.std.proofs.Common.{◌≡◌, ◌+◌, drop}
use Rattle.import_laws.specs.Links.{index_in}
use Rattle.model_import.proofs.indexes.index_in.Given as goal

abbrev pub invariant-loop-other : goal.invariant-loop-other
invariant-loop-other l = record {
  so_far : l.index + index_in l.n (drop l.other-index l.numbers) ≡ index_in l.n l.numbers;
  count : l.index ≡ l.other-index;
}
