use Rattle.std.proofs.Common.{◌≡◌, ◌++◌, drop}
use Rattle.edit_steps.specs.Subtree.{each, subtree_of}
use Rattle.state_steps.proofs.elements.subtrees.Given as goal
use Rattle.edit_steps.specs.Standing.{ids_of}

abbrev pub invariant-loop-root : goal.invariant-loop-root
invariant-loop-root g l =
    let h = subtree_of l.meta (g.L.Look.state l.look) in
    l.found ++ each h (ids_of (drop l.root-index l.roots)) ≡ each h (ids_of l.roots)
