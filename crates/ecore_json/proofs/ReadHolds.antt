-- What holds of every metamodel holds of each that is read, and its supertypes are those of the package.
use Rattle.std.proofs.Common.{◌≡◌, refl, subst, sym, ap, ◌∙◌}
use Rattle.std.specs.Prelude.{Option, None, Some, Ok, option_and_then}
use Rattle.serde_json.specs.Data.{Data}
use Rattle.serde_json.specs.Read.{read}
use Rattle.ecore_build.specs.Build.{Chains, meta_of}
use Rattle.ecore_build.specs.Faults.{fault}
use Rattle.ecore_meta.specs.Meta.{Meta}
use Rattle.ecore_drafts.specs.Fit.{NamesFit}
use Rattle.ecore_meta.specs.Promised.{IsMetamodel}
use Rattle.ecore_build.specs.declared.fault.MetaFault.{MetaFault}
use Rattle.ecore_drafts.specs.declared.rows.MetaRows.{MetaRows}
use Rattle.ecore_build.proofs.PromiseLaws.{promised}
use Rattle.ecore_build.proofs.ChainLaws.{chains}
use Rattle.ecore_json.specs.declared.fault.WalkFault.{WalkFault}
use Rattle.ecore_json.specs.declared.fault.WalkFault.TheVariants.{BadKey, LeftOut}
use Rattle.ecore_json.specs.Walk.{package_fault}
use Rattle.ecore_json.specs.Rows.{own_prefix, rows_of}
use Rattle.ecore_json.specs.Metamodel.{metamodel_of, of_document, of_package, package_of, walked, built}
use Rattle.ecore_json.proofs.NamesFit.{names_fit}
use Rattle.ecore_json.specs.Laws.{ReadMetamodelsHold, SupertypesAreRead, supers_of}

module _ (m : Meta) where
  built_holds : (rows : MetaRows) → NamesFit rows.classifiers → (o : Option MetaFault) → fault rows.classifiers ≡ o → built o rows ≡ Ok m → IsMetamodel m
  built_holds rows fit None is h = let same : meta_of rows ≡ m = cc in subst IsMetamodel same (promised rows is fit)
  built_holds rows fit (Some e) is h = cc

  walked_holds : (d : Data) (o : Option WalkFault) → package_fault (own_prefix d) d ≡ o → walked o (rows_of d) ≡ Ok m → IsMetamodel m
  walked_holds d None is h = built_holds (rows_of d) (names_fit d is) (fault (rows_of d).classifiers) refl h
  walked_holds d (Some BadKey) is h = cc
  walked_holds d (Some LeftOut) is h = cc

  package_holds : (o : Option Data) → of_package o ≡ Ok m → IsMetamodel m
  package_holds None h = cc
  package_holds (Some d) h = walked_holds d (package_fault (own_prefix d) d) refl h

  document_holds : (o : Option Data) → of_document o ≡ Ok m → IsMetamodel m
  document_holds None h = cc
  document_holds (Some d) h = package_holds (package_of d) h

pub read_holds : ReadMetamodelsHold
unfolding metamodel_of
read_holds text m h = document_holds m (read text) h

module _ (m : Meta) (d : Data) where
  built_chains : (o : Option MetaFault) → built o (rows_of d) ≡ Ok m → Chains (supers_of d) m
  built_chains None h = let same : m ≡ meta_of (rows_of d) = cc in chains (rows_of d) m same
  built_chains (Some e) h = cc

  walked_chains : (o : Option WalkFault) → walked o (rows_of d) ≡ Ok m → Chains (supers_of d) m
  walked_chains None h = built_chains (fault (rows_of d).classifiers) h
  walked_chains (Some BadKey) h = cc
  walked_chains (Some LeftOut) h = cc

  package_chains : (o : Option Data) → o ≡ Some d → of_package o ≡ Ok m → Chains (supers_of d) m
  package_chains o is h = walked_chains (package_fault (own_prefix d) d) (ap of_package (sym is) ∙ h)

  document_chains : (o : Option Data) → option_and_then package_of o ≡ Some d → of_document o ≡ Ok m → Chains (supers_of d) m
  document_chains None is h = cc
  document_chains (Some root) is h = package_chains (package_of root) is h

pub supertypes_read : SupertypesAreRead
unfolding metamodel_of
supertypes_read text m h d is = document_chains m d (read text) is h
