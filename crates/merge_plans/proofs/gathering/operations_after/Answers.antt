use Rattle.std.proofs.Common.{◌≡◌, [], Option, slice_index_or, sym, ◌∙◌, ap}
use Rattle.std.specs.Option.{option_map_or}
use Rattle.history_tree.specs.declared.version.Version.{Version}
use Rattle.history_tree.specs.States.{package_of_version}
use Rattle.merge_plans.proofs.Gathered.{operations_more}
use Rattle.merge_plans.proofs.gathering.operations_after.Goals as goal

pub loop-u-preserved : goal.loop-u-preserved
loop-u-preserved c =
    let vs = c.args.history.now.history.versions in
    let us = c.as_slice-u-items.result.now in
    let i = c.loop-u.u-index in
    let at : package_of_version vs (slice_index_or us i 0) ≡ c.as_slice.result.now =
    ap (λ (o : Option Version). option_map_or (λ v. v.«package») o []) c.version.ensures.version ∙ sym c.as_slice.ensures in
    operations_more vs us c.loop-u.out c.push_copies.new.out c.as_slice.result.now i 0 c.loop-u-test.true c.loop-u.invariant c.in_ok-push_copies.ensures at
