-- The package is that of the state, and has too many steps only where it has as many bytes.
use Rattle.std.proofs.Common.{◌≡◌, ◌∙◌, ap, sym, subst, arith, length, ◌<◌, ◌^◌}
use Rattle.op_form.specs.Formed.{IsPackage}
use Rattle.op_form.specs.Packages.{package_encoding}
use Rattle.state_steps.specs.Whole.{as_steps}
use Rattle.state_form.specs.Form.{as_package, whole_package}
use Rattle.state_form.proofs.Packages.{long_size, whole_is_spelled, whole_leads}
use Rattle.state_form.proofs.whole.encode_state.Goals as goal

pub returns-then-len-clause-none : goal.returns-then-len-clause-none
returns-then-len-clause-none g c =
    let m = g.L.Look.state c.args.look.now in
    let is : length c.in_ok-steps.steps ≡ length (as_steps c.args.meta.now m) = ap length c.in_ok-steps.ensures.steps in
    long_size c.args.meta.now m (2 ^ 32) (omega (arith, is))

pub encode_steps-requires : goal.encode_steps-requires
encode_steps-requires g c =
    let m = g.L.Look.state c.args.look.now in
    let is : length c.in_ok-steps.steps ≡ length (as_steps c.args.meta.now m) = ap length c.in_ok-steps.ensures.steps in
    let few : length (as_steps c.args.meta.now m) < 2 ^ 32 = omega (arith, is) in
    subst IsPackage (sym (ap as_package c.in_ok-steps.ensures.steps)) (whole_is_spelled c.args.meta.now m c.requires.good c.requires.spelled few)

pub returns-clause-bytes : goal.returns-clause-bytes
returns-clause-bytes g c = c.in_ok-encode_steps.ensures ∙ ap package_encoding (ap as_package c.in_ok-steps.ensures.steps)

pub returns-clause-form : goal.returns-clause-form
returns-clause-form g c =
    let m = g.L.Look.state c.args.look.now in
    let is : length c.in_ok-steps.steps ≡ length (as_steps c.args.meta.now m) = ap length c.in_ok-steps.ensures.steps in
    let few : length (as_steps c.args.meta.now m) < 2 ^ 32 = omega (arith, is) in
    record {
      operations = whole_package c.args.meta.now m;
      spelled = whole_is_spelled c.args.meta.now m c.requires.good c.requires.spelled few;
      is = c.in_ok-encode_steps.ensures ∙ ap package_encoding (ap as_package c.in_ok-steps.ensures.steps);
      leads = whole_leads c.args.meta.now c.recall_soundness.ensures m c.requires.good;
    }
