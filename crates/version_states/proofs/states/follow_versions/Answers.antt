use Rattle.std.proofs.Common.{◌≡◌, List, [], None, Some, sym, ◌∙◌, ap, subst, slice_index_or}
use Rattle.std.specs.Prelude.{◌≢◌, Option}
use Rattle.std.specs.Option.{option_map_or}
use Rattle.model_state.specs.declared.step.StepFault.TheVariants.{Memory}
use Rattle.model_state.specs.declared.operation.Operation.{Operation}
use Rattle.model_state.specs.Packages.{fold_package}
use Rattle.history_tree.specs.declared.version.Version.{Version}
use Rattle.history_tree.specs.States.{package_of_version}
use Rattle.version_states.proofs.Folding.{cannot_follow, version_on}
use Rattle.version_states.proofs.states.follow_versions.Goals as goal

pub returns-in_err-follow-clause-cannot : goal.returns-in_err-follow-clause-cannot
returns-in_err-follow-clause-cannot c =
    let meta = c.args.meta.now in
    let h = c.args.history.now.history in
    let us = c.args.versions.now in
    let at : package_of_version h.versions (slice_index_or us c.loop-u.u-index 0) ≡ c.as_slice.result.now =
    ap (λ (o : Option Version). option_map_or (λ v. v.«package») o []) c.version.ensures.version ∙ sym c.as_slice.ensures in
    cannot_follow meta c.args.model.now c.loop-u.model h.versions us c.loop-u.u-index 0 c.in_err-follow.field-0.0 c.from_residual.result
    c.from_residual.ensures.0 c.from_residual.ensures.1 c.loop-u-test.true c.loop-u.invariant.same
    (subst (λ (p : List Operation). c.in_err-follow.field-0.0 ≢ Memory → fold_package meta c.loop-u.model p ≡ None) (sym at) c.in_err-follow.ensures.cannot)

pub loop-u-preserved : goal.loop-u-preserved
loop-u-preserved c =
    let meta = c.args.meta.now in
    let h = c.args.history.now.history in
    let us = c.args.versions.now in
    let at : package_of_version h.versions (slice_index_or us c.loop-u.u-index 0) ≡ c.as_slice.result.now =
    ap (λ (o : Option Version). option_map_or (λ v. v.«package») o []) c.version.ensures.version ∙ sym c.as_slice.ensures in
    record {
      same = c.loop-u.invariant.same ∙ version_on meta c.loop-u.model c.follow.new.model h.versions us c.loop-u.u-index 0 c.loop-u-test.true
          (subst (λ (p : List Operation). fold_package meta c.loop-u.model p ≡ Some c.follow.new.model) (sym at) c.in_ok-follow.ensures.done);
      good = c.follow.ensures.good;
    }
