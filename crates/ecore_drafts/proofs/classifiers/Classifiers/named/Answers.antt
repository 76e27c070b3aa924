use Rattle.std.proofs.Common.{◌∙◌, ap}
use Rattle.std.specs.Prelude.{slice_get}
use Rattle.std.specs.Option.{option_and_then}
use Rattle.ecore_drafts.specs.Classifiers.{classifier_named}
use Rattle.ecore_drafts.proofs.ClassifierLaws.{named_is}
use Rattle.ecore_drafts.proofs.classifiers.Classifiers.named.Goals as goal

pub returns-in-None-clause-found : goal.returns-in-None-clause-found
returns-in-None-clause-found c =
    ap (λ o. option_and_then (λ p. slice_get c.self.inside.numbered.items p) o) c.in-None.ensures.value
    ∙ named_is _ _ _ _ c.self.invariant c.args.name.now ∙ ap (λ rows. classifier_named rows c.args.name.now) c.self.view_is

pub returns-in-Some-clause-found : goal.returns-in-Some-clause-found
returns-in-Some-clause-found c =
    c.at.ensures ∙ ap (λ ns. slice_get ns c.in-Some.place.now) c.as_slice.ensures.value
    ∙ ap (λ o. option_and_then (λ p. slice_get c.self.inside.numbered.items p) o) c.in-Some.ensures.value
    ∙ named_is _ _ _ _ c.self.invariant c.args.name.now ∙ ap (λ rows. classifier_named rows c.args.name.now) c.self.view_is
