use Rattle.std.proofs.Common.{◌≡◌, ℕ, Bool, [], Option, sym, ◌∙◌, ap, slice_index_or, refl}
use Rattle.std.specs.Option.{option_map_or}
use Rattle.history_tree.specs.declared.version.Version.{Version}
use Rattle.history_tree.specs.States.{package_of_version}
use Rattle.merge_laws.specs.Pairs.{have_pair}
use Rattle.merge_plans.proofs.Paired.{found_here, found_later}
use Rattle.merge_plans.proofs.pairs.first_interfering.Goals as goal

pub loop-u-init : goal.loop-u-init
loop-u-init c = refl

pub returns-then-branch : goal.returns-then-branch
returns-then-branch c =
    let vs = c.args.history.now.history.versions in
    let us = c.args.versions.now in
    let i = c.loop-u.u-index in
    let p : ℕ → Bool = λ u. have_pair c.args.meta.now c.args.operations.now (package_of_version vs u) in
    let at : package_of_version vs (slice_index_or us i 0) ≡ c.as_slice-others.result.now =
    ap (λ (o : Option Version). option_map_or (λ v. v.«package») o []) c.version.ensures.version ∙ sym c.as_slice-others.ensures in
    record {
      first = sym (found_here p us i 0 c.loop-u-test.true c.loop-u.invariant
          (ap (have_pair c.args.meta.now c.args.operations.now) at ∙ sym c.in_ok-interferes_with.ensures.found ∙ c.if-branch.true));
    }

pub loop-u-preserved : goal.loop-u-preserved
loop-u-preserved c =
    let vs = c.args.history.now.history.versions in
    let us = c.args.versions.now in
    let i = c.loop-u.u-index in
    let p : ℕ → Bool = λ u. have_pair c.args.meta.now c.args.operations.now (package_of_version vs u) in
    let at : package_of_version vs (slice_index_or us i 0) ≡ c.as_slice-others.result.now =
    ap (λ (o : Option Version). option_map_or (λ v. v.«package») o []) c.version.ensures.version ∙ sym c.as_slice-others.ensures in
    found_later p us i 0 c.loop-u-test.true c.loop-u.invariant
    (ap (have_pair c.args.meta.now c.args.operations.now) at ∙ sym c.in_ok-interferes_with.ensures.found ∙ c.if-branch.false)
