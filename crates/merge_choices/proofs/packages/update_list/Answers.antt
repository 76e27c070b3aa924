-- by the flags for each side
use Rattle.std.proofs.Common.{◌≡◌, ◌++◌, Bool, List, ◌∙◌}
use Rattle.model_state.specs.declared.operation.Operation.{Operation}
use Rattle.model_state.specs.Packages.{rev_package}
use Rattle.merge_laws.specs.Merge.{kept, dropped, drops_theirs, drops_mine}
use Rattle.merge_choices.specs.Flags.{is_flagged}
use Rattle.merge_choices.proofs.Picks.{flags_dropped, flags_kept}
use Rattle.merge_choices.proofs.packages.update_list.Goals as goal

pub returns : goal.returns
returns c =
    let theirs : List Operation = c.args.theirs.now in
    let mine : List Operation = c.args.mine.now in
    let flags_theirs : List Bool = c.in_ok-drops_theirs.drops_theirs.items in
    let flags_mine : List Bool = c.in_ok-drops_mine.drops_mine.items in
    let gone : dropped (is_flagged c.deref.result.now) c.as_slice.result.now ≡ dropped (drops_theirs c.args.buckets.now c.args.sides.now) theirs =
    (λ t. dropped (is_flagged (c.deref.ensures.value t)) (c.as_slice.ensures t))
    ∙ flags_dropped flags_theirs c.len.result (drops_theirs c.args.buckets.now c.args.sides.now) theirs c.in_ok-drops_theirs.ensures c.len.ensures in
    let left : kept (is_flagged c.deref-2.result.now) c.as_slice-2.result.now ≡ kept (drops_mine c.args.buckets.now c.args.sides.now) mine =
    (λ t. kept (is_flagged (c.deref-2.ensures.value t)) (c.as_slice-2.ensures t))
    ∙ flags_kept flags_mine c.len-2.result (drops_mine c.args.buckets.now c.args.sides.now) mine c.in_ok-drops_mine.ensures c.len-2.ensures in
    c.in_ok-list.ensures ∙ (λ t. rev_package (gone t) ++ left t)
