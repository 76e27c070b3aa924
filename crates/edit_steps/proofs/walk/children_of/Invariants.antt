use Rattle.std.proofs.Common.{◌≡◌, take}
use Rattle.std.specs.List.{filter}
use Rattle.model_state.specs.Typing.{is_containment, kind_of}
use Rattle.edit_steps.specs.Subtree.{children_by}
use Rattle.edit_steps.proofs.walk.children_of.Given as goal

-- the children in the features so far
abbrev pub invariant-loop-f : goal.invariant-loop-f
invariant-loop-f g l = l.found.items ≡ children_by (g.L.Look.state l.look) l.e (filter (λ f. is_containment (kind_of l.meta f)) (take l.f-index l.features))
