-- the number so far
use Rattle.std.proofs.Common.{◌≡◌, ◌<◌, drop}
use Rattle.cell_index.specs.Keys.{key_range, text_key}
use Rattle.cell_index.proofs.keys.id_key.Given as goal

abbrev pub invariant-loop-b : goal.invariant-loop-b
invariant-loop-b l = record {
  low : l.key < key_range;
  key : text_key l.key (drop l.b-index l.b-items) ≡ text_key 0 l.id;
}
