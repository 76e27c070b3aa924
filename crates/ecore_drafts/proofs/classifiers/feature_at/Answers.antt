use Rattle.std.proofs.Common.{◌∙◌, ap, sym}
use Rattle.std.specs.Prelude.{slice_get}
use Rattle.ecore_drafts.specs.Classifiers.{number_in, numbered}
use Rattle.ecore_drafts.proofs.ClassifierLaws.{fits_at, placed_at, placed_some}
use Rattle.ecore_drafts.proofs.classifiers.feature_at.Goals as goal

pub number_in-requires-clause-fits : goal.number_in-requires-clause-fits
number_in-requires-clause-fits c =
    fits_at c.args.rows.now c.args.place c.in-Some.row.now c.at.result c.requires.few (sym c.in-Some.ensures)
    (ap (λ ns. slice_get ns c.args.place) (sym c.requires.kinds) ∙ sym c.at.ensures)

pub number_in-requires-clause-places : goal.number_in-requires-clause-places
number_in-requires-clause-places c =
    placed_at c.args.rows.now c.args.own.now c.args.place c.in-Some.row.now c.in-Some-places_at.places.now c.requires.own c.in-Some.ensures
    c.in-Some-places_at.ensures

pub returns-in-Some-places_at : goal.returns-in-Some-places_at
returns-in-Some-places_at c =
    c.number_in.ensures
    ∙ ap (λ r. number_in r c.at.result c.args.feature.now) c.in-Some.ensures
    ∙ ap (λ k. number_in (slice_get c.args.rows.now c.args.place) k c.args.feature.now) (c.at.ensures ∙ ap (λ ns. slice_get ns c.args.place) c.requires.kinds)

pub returns-in-None-places_at : goal.returns-in-None-places_at
returns-in-None-places_at c =
    absurd (placed_some c.args.rows.now c.args.own.now c.args.place c.in-Some.row.now c.requires.own c.in-Some.ensures c.in-None-places_at.ensures)

pub returns-in-None : goal.returns-in-None
returns-in-None c = ap (λ r. number_in r (slice_get (numbered 0 0 0 c.args.rows.now) c.args.place) c.args.feature.now) c.in-None.ensures
