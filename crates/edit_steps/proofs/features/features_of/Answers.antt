use Rattle.std.proofs.Common.{sym, ap, ◌∙◌}
use Rattle.std.specs.List.{filter}
use Rattle.model_state.specs.Typing.{kind_of}
use Rattle.edit_steps.specs.Subtree.{features_of}
use Rattle.edit_steps.proofs.OwnFeatures.{features_are, no_features}
use Rattle.edit_steps.proofs.features.features_of.Goals as goal

pub returns-in-None : goal.returns-in-None
returns-in-None c = λ p. no_features c.args.meta.now p ∙ ap (features_of c.args.meta.now p) (sym c.in-None.is)

pub returns-in-Some : goal.returns-in-Some
returns-in-Some c = λ p.
    ap (filter (λ f. p (kind_of c.args.meta.now f))) c.features_of.ensures
    ∙ features_are c.args.meta.now c.recall_promises.ensures.lists c.in-Some.class p
    ∙ ap (features_of c.args.meta.now p) (sym c.in-Some.is)
