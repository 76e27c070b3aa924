use Rattle.std.proofs.Common.{◌∙◌, ap, map}
use Rattle.ecore_build.specs.Build.{classes_from, feature_from}
use Rattle.ecore_build.specs.Faults.{enums_in, features_of}
use Rattle.ecore_build.proofs.PromiseLaws.{built_is}
use Rattle.ecore_build.proofs.building.parts_of.Goals as goal

pub returns : goal.returns
returns c =
    built_is c.args.rows.now _ c.in_ok-uri.ensures
    (c.in_ok-classes.ensures
    ∙ ap (λ fs. classes_from (map (λ ns. ns.items) fs) c.as_slice-2.result.now) c.as_slice.ensures.value
    ∙ ap (λ fs. classes_from fs c.as_slice-2.result.now) c.requires.features
    ∙ ap (classes_from (features_of c.args.rows.now.classifiers)) c.as_slice-2.ensures)
    (c.in_ok-features.ensures
    ∙ ap (λ ls. map (feature_from ls c.as_slice-3.result.now) c.as_slice-3.result.now) c.requires.enums
    ∙ ap (λ ds. map (feature_from (enums_in c.args.rows.now.classifiers) ds) ds) (c.as_slice-3.ensures.value ∙ c.requires.drafted))
    c.requires.above
    c.requires.enums
