use Rattle.std.proofs.Common.{◌∙◌, ap, sym}
use Rattle.ecore_drafts.specs.Classifiers.{scalar_in}
use Rattle.ecore_drafts.specs.Drafts.{own_scalar, value_target}
use Rattle.ecore_drafts.proofs.PlaceLaws.{scalar_is}
use Rattle.ecore_drafts.proofs.classifiers.Classifiers.value_target.Goals as goal

pub returns-in-Own : goal.returns-in-Own
returns-in-Own c =
    c.scalar_in.ensures ∙ ap scalar_in c.named.ensures.found ∙ scalar_is c.args.self.now c.as_str-in-Own.result.now c.named.ensures.apart
    ∙ ap (own_scalar c.args.self.now) c.as_str-in-Own.ensures ∙ sym (ap (value_target c.args.self.now) c.in-Own.is)
