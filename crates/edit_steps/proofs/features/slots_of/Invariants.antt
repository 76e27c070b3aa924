use Rattle.std.proofs.Common.{◌≡◌, ◌++◌, drop}
use Rattle.edit_steps.specs.Deletes.{slots_of}
use Rattle.edit_steps.specs.Sorts.{passes}
use Rattle.edit_steps.proofs.features.slots_of.Given as goal

abbrev pub invariant-loop-x : goal.invariant-loop-x
invariant-loop-x g l = l.slots
    ++ slots_of l.meta (g.L.Look.state l.look) (passes l.sort) (drop l.x-index l.elements) ≡ slots_of l.meta (g.L.Look.state l.look)
    (passes l.sort) l.elements
