use Rattle.std.proofs.Common.{◌≡◌, ◌∙◌}
use Rattle.edit_steps.proofs.Joined.{four}
use Rattle.edit_steps.specs.Deletes.{slots_of}
use Rattle.edit_steps.specs.Sorts.{passes}
use Rattle.edit_steps.specs.declared.features.Sort.TheVariants.{Attribute, Reference}
use Rattle.edit_steps.proofs.delete.removal.Goals as goal

pub returns : goal.returns
returns g c =
    let m = g.L.Look.state c.args.look.now in
    let meta = c.args.meta.now in
    let xs = c.args.elements.now in
    let references : c.as_slice.result.now ≡ slots_of meta m (passes Reference) xs = c.as_slice.ensures ∙ c.in_ok-references.ensures in
    let attributes : c.as_slice-2.result.now ≡ slots_of meta m (passes Attribute) xs = c.as_slice-2.ensures ∙ c.in_ok-attributes.ensures in
    rw (← references, ← attributes)
    (four _ _ _ _ _ _ _ _ _ c.new-steps.ensures c.in_ok-unlinked.ensures.steps (c.in_ok-incoming.ensures c.as_slice.result.now c.in_ok-unlinked.ensures.slots)
    c.in_ok-empty_all.ensures c.in_ok-gone.ensures)
