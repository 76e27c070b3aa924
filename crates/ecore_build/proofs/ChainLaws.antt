-- A class of a built metamodel is another exactly where a list of classes leads there.
use Rattle.std.proofs.Common.{◌≡◌, ℕ, List, refl, sym, subst, arith}
use Rattle.ecore_build.specs.Build.{Chains, meta_of}
use Rattle.ecore_drafts.specs.Document.{supers_in}
use Rattle.ecore_build.specs.Faults.{features_of}
use Rattle.ecore_meta.specs.Meta.{Meta, is_a}
use Rattle.ecore_drafts.specs.declared.rows.MetaRows.{MetaRows}
use Rattle.ecore_build.proofs.BuildLaws.{classes_supers, supers_inside}
use Rattle.ecore_build.proofs.OwnerLaws.{is_a_is}
use Rattle.ecore_drafts.proofs.SuperLaws.{chain_is}

pub chains : (rows : MetaRows) (meta : Meta) → meta ≡ meta_of rows → Chains (supers_in rows.classifiers rows.classifiers) meta
chains rows meta is = subst (Chains supers) (sym is) built
  where
    supers : List (List ℕ)
    supers = supers_in rows.classifiers rows.classifiers

    built : Chains supers (meta_of rows)
    built c d below =
        chain_is supers (supers_inside rows.classifiers supers refl) c d
        (omega (arith, below, classes_supers rows.classifiers 0 (features_of rows.classifiers) rows.classifiers)) (is_a (meta_of rows) c d)
        (is_a_is rows c d)
