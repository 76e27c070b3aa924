-- what is found, and the subtrees of the elements on the stack, are the subtree
use Rattle.std.proofs.Common.{◌≡◌, List, ◌++◌, reverse}
use Rattle.model_state.specs.Keys.{IdBytes}
use Rattle.edit_steps.specs.Subtree.{subtree_of}
use Rattle.edit_steps.proofs.Forests.{IsForest}
use Rattle.edit_steps.proofs.walk.subtree.Given as goal

abbrev pub invariant-loop : goal.invariant-loop
invariant-loop g l = (rest : List IdBytes) × IsForest l.meta (g.L.Look.state l.look) (reverse l.stack.items) rest
    × (l.found ++ rest ≡ subtree_of l.meta (g.L.Look.state l.look) l.e)
