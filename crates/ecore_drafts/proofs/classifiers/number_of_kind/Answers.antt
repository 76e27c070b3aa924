use Rattle.std.proofs.Common.{◌∙◌, ap, arith, sym}
use Rattle.std.specs.Prelude.{Some}
use Rattle.ecore_drafts.specs.declared.classifiers.Classifier.{Classifier}
use Rattle.ecore_drafts.proofs.ClassifierLaws.{fits_place}
use Rattle.ecore_drafts.proofs.classifiers.number_of_kind.Goals as goal

pub overflow_cast-result : goal.overflow_cast-result
overflow_cast-result c =
    let fits = fits_place c.args.row.now
    (Some c.args.kind) c.in-Class.field-0 c.in-Class-kind.number c.in-Class-kind.first c.in-Some.n c.args.places.now c.args.feature.now
    c.in-Class.is (ap (λ (k : Classifier). Some k) c.in-Class-kind.is) c.requires.fits c.requires.places (sym c.place_of.ensures ∙ c.in-Some.is) in
    omega (arith, fits)

pub overflow_add-result : goal.overflow_add-result
overflow_add-result c =
    let fits = fits_place c.args.row.now
    (Some c.args.kind) c.in-Class.field-0 c.in-Class-kind.number c.in-Class-kind.first c.in-Some.n c.args.places.now c.args.feature.now
    c.in-Class.is (ap (λ (k : Classifier). Some k) c.in-Class-kind.is) c.requires.fits c.requires.places (sym c.place_of.ensures ∙ c.in-Some.is) in
    omega (arith, fits)
