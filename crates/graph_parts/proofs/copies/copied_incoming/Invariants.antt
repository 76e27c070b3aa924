use Rattle.std.proofs.Common.{◌≡◌, map}
use Rattle.std.specs.Map.Iter.{deref_pair}
use Rattle.std.specs.FinMap.{empty}
use Rattle.spread_maps.specs.Writes.{puts}
use Rattle.finite_maps.specs.Maps.{set_all}
use Rattle.finite_maps.specs.Tables.{table}
use Rattle.model_state.specs.Keys.{attr_cmp}
use Rattle.graph_parts.proofs.copies.copied_incoming.Given as goal

abbrev pub invariant-loop-key : goal.invariant-loop-key
invariant-loop-key l = table attr_cmp l.copy ≡ set_all empty (puts (map deref_pair l.yielded))
