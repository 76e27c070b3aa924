use Rattle.std.proofs.Common.{◌∙◌, ap, sym, arith, map, length}
use Rattle.std.proofs.lemmas.List.{length-map}
use Rattle.ecore_drafts.specs.Document.{supers_in}
use Rattle.ecore_drafts.specs.Supers.{all_above}
use Rattle.ecore_build.proofs.BuildLaws.{supers_inside, supers_few}
use Rattle.ecore_build.proofs.building.resolve.Goals as goal

pub all_above-requires-clause-inside : goal.all_above-requires-clause-inside
all_above-requires-clause-inside c =
    supers_inside c.args.rows.now (map (λ ups. ups.items) c.as_slice.result.now)
    (ap (map (λ ups. ups.items)) c.as_slice.ensures.value ∙ c.in_ok-supers.ensures ∙ ap (λ k. supers_in k c.args.rows.now) c.requires.same)

pub all_above-requires-clause-few : goal.all_above-requires-clause-few
all_above-requires-clause-few c =
    omega (
      arith,
      ap length c.as_slice.ensures.value,
      ap length c.in_ok-supers.ensures,
      length-map c.in_ok-supers.supers.items (λ ups. ups.items),
      supers_few c.args.classifiers.now c.args.rows.now,
      c.requires.numbered.classifiers,
    )

pub listed-requires-clause-supers : goal.listed-requires-clause-supers
listed-requires-clause-supers c =
    ap (map (λ ups. ups.items)) c.as_slice-2.ensures.value ∙ c.in_ok-supers.ensures ∙ ap (λ k. supers_in k c.args.rows.now) c.requires.same

pub listed-requires-clause-rising : goal.listed-requires-clause-rising
listed-requires-clause-rising c =
    ap (map (λ s. s.keys)) c.as_slice-3.ensures.value ∙ c.in_ok-above.ensures
    ∙ ap (λ v. all_above (map (λ ups. ups.items) v)) (c.as_slice.ensures.value ∙ sym c.as_slice-2.ensures.value)

pub returns : goal.returns
returns c = record {
  drafted = c.in_ok-drafts.ensures;
  supers = c.in_ok-supers.ensures ∙ ap (λ k. supers_in k c.args.rows.now) c.requires.same;
  above =
      c.in_ok-above.ensures
      ∙ ap all_above (ap (map (λ ups. ups.items)) c.as_slice.ensures.value ∙ c.in_ok-supers.ensures ∙ ap (λ k. supers_in k c.args.rows.now) c.requires.same);
  features = c.in_ok-features.ensures;
  enums = c.in_ok-enums.ensures;
}
