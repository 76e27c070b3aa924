use Rattle.std.proofs.Common.{◌∙◌, ap}
use Rattle.std.specs.Option.{option_and_then}
use Rattle.ecore_drafts.specs.Document.{feature_number}
use Rattle.ecore_drafts.specs.Classifiers.{number_at}
use Rattle.ecore_drafts.proofs.ClassifierLaws.{feature_is}
use Rattle.std.proofs.Common.{List, ℕ, subst, sym}
use Rattle.std.specs.BTreeMap.{BTreeMap}
use denote.Ref.{Bor}
use Rattle.ecore_drafts.specs.Classifiers.{AllPlaced}
use Rattle.ecore_meta.specs.Names.{Name}
use Rattle.ecore_drafts.proofs.classifiers.Classifiers.feature_number.Goals as goal

pub feature_at-requires-clause-own : goal.feature_at-requires-clause-own
feature_at-requires-clause-own c =
    let P : List (BTreeMap (Bor Name) ℕ) → Type 0 = λ ms. AllPlaced c.self.inside.rows.now ms in
    subst P (sym c.as_slice-in-Some.ensures.value) c.self.invariant.placed

pub returns-in-None : goal.returns-in-None
returns-in-None c =
    ap (λ o. option_and_then (λ p. number_at c.self.inside.rows.now p c.args.feature.now) o) c.in-None.ensures.value
    ∙ feature_is _ _ _ _ c.self.invariant c.args.class.now c.args.feature.now
    ∙ ap (λ rows. feature_number rows c.args.class.now c.args.feature.now) c.self.view_is

pub returns-in-Some : goal.returns-in-Some
returns-in-Some c =
    c.feature_at.ensures
    ∙ ap (λ o. option_and_then (λ p. number_at c.self.inside.rows.now p c.args.feature.now) o) c.in-Some.ensures.value
    ∙ feature_is _ _ _ _ c.self.invariant c.args.class.now c.args.feature.now
    ∙ ap (λ rows. feature_number rows c.args.class.now c.args.feature.now) c.self.view_is
