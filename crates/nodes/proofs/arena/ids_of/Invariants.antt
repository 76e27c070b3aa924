use Rattle.std.proofs.Common.{◌≡◌, map}
use Rattle.std.specs.Map.Iter.{deref_pair}
use Rattle.nodes.specs.Tied.{id_in}
use Rattle.nodes.proofs.arena.ids_of.Given as goal

abbrev pub invariant-loop-at : goal.invariant-loop-at
invariant-loop-at g l = l.found.items ≡ map (λ e. id_in l.slots e.1) (map deref_pair l.yielded)
