-- What holds of every metamodel holds of each that is built.
use Rattle.std.proofs.Common.{◌≡◌, sym, subst, map, arith}
use Rattle.std.proofs.lemmas.List.{length-map}
use Rattle.std.specs.Prelude.{None}
use Rattle.ecore_build.specs.Build.{classes_from, feature_from, meta_of}
use Rattle.ecore_drafts.specs.Document.{supers_in}
use Rattle.ecore_drafts.specs.Drafts.{drafts}
use Rattle.ecore_build.specs.Faults.{fault, features_of, enums_in}
use Rattle.ecore_meta.specs.Meta.{Meta}
use Rattle.ecore_drafts.specs.Fit.{NamesFit}
use Rattle.ecore_meta.specs.Promised.{IsMetamodel}
use Rattle.ecore_meta.specs.Holds.{Holds}
use Rattle.ecore_drafts.specs.Counts.{Numbered}
use Rattle.ecore_drafts.specs.Supers.{all_above}
use Rattle.ecore_drafts.specs.declared.rows.MetaRows.{MetaRows}
use Rattle.ecore_build.proofs.AboveLaws.{stands_above}
use Rattle.ecore_build.proofs.BoundLaws.{bounded}
use Rattle.ecore_build.proofs.BuildLaws.{classes_count, drafts_few}
use Rattle.ecore_build.proofs.BuiltNames.{built_named}
use Rattle.ecore_build.proofs.EndLaws.{ends_meet}
use Rattle.ecore_build.proofs.OwnerLaws.{lists_declared}
use Rattle.ecore_build.proofs.RangeLaws.{in_range}
use Rattle.ecore_build.proofs.SoundLaws.{sound}

pub promised : (rows : MetaRows) → fault rows.classifiers ≡ None → NamesFit rows.classifiers → IsMetamodel (meta_of rows)
promised rows none fit = record {
  above = stands_above rows none;
  sound = sound rows none;
  lists = lists_declared rows;
  ends = ends_meet rows none;
  named = built_named rows none fit;
  bounded = bounded rows none;
  in_range = in_range rows none;
}

-- a metamodel by its parts
pub built_is : (rows : MetaRows) (meta : Meta) → meta.uri ≡ rows.uri → meta.classes ≡ classes_from (features_of rows.classifiers) rows.classifiers
    → meta.features ≡ map (feature_from (enums_in rows.classifiers) (drafts rows.classifiers)) (drafts rows.classifiers)
    → meta.above ≡ all_above (supers_in rows.classifiers rows.classifiers) → meta.enums ≡ enums_in rows.classifiers → meta ≡ meta_of rows
built_is rows meta u c f s e = λ i. record { uri = u i; classes = c i; above = s i; features = f i; enums = e i }

-- a metamodel that is what a document without a fault stands for
pub holds_of : (rows : MetaRows) → Numbered rows.classifiers → fault rows.classifiers ≡ None → NamesFit rows.classifiers → (meta : Meta)
    → meta ≡ meta_of rows → Holds meta
holds_of rows few none fit meta is = subst Holds (sym is) all
  where
    all : Holds (meta_of rows)
    all = record {
      few_classes =
          let most = classes_count 0 (features_of rows.classifiers) rows.classifiers in
          omega (arith, most, few.classifiers);
      few_features = omega (
        arith,
        length-map (drafts rows.classifiers) (feature_from (enums_in rows.classifiers) (drafts rows.classifiers)),
        drafts_few rows.classifiers,
        few.features,
      );
      is = promised rows none fit;
    }
