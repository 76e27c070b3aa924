-- the cells of the ids so far stand, and those of the rest come
use Rattle.std.proofs.Common.{◌≡◌, ◌++◌, drop, map}
use Rattle.model_laws.specs.Cells.{OfPlace}
use Rattle.footprint.specs.Prints.{cells}
use Rattle.footprint.proofs.printing.put_places.Given as goal

abbrev pub invariant-loop-id : goal.invariant-loop-id
invariant-loop-id l = cells l.list ++ map OfPlace (drop l.id-index l.ids) ≡ cells l.initial.list ++ map OfPlace l.ids
