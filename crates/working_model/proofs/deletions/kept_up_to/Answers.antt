use Rattle.std.proofs.Common.{◌<◌, arith, ap, ◌∙◌}
use Rattle.std.specs.List.{list_any}
use Rattle.working_model.specs.Taken.{deletes}
use Rattle.working_model.proofs.Freed.{prefixed}
use Rattle.working_model.proofs.deletions.kept_up_to.Goals as goal

pub returns-in-Ok-clause-kept : goal.returns-in-Ok-clause-kept
returns-in-Ok-clause-kept c = λ j low high.
    let under : j < c.least_freed.result = omega (arith, c.max.ensures, low, high) in
    ap (λ e. list_any (deletes e) c.args.steps.now) (prefixed c.args.ws j c.as_str.result.now (c.as_str.ensures.value ∙ c.in-Ok.ensures.ok))
    ∙ c.least_freed.ensures.kept j under
