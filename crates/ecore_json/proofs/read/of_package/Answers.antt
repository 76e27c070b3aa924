use Rattle.std.proofs.Common.{◌≡◌, ap, sym, subst, ◌∙◌, None}
use Rattle.serde_json.specs.View.{view}
use Rattle.ecore_build.specs.Faults.{fault}
use Rattle.ecore_drafts.specs.Fit.{NamesFit}
use Rattle.ecore_drafts.specs.declared.rows.MetaRows.{MetaRows}
use Rattle.ecore_json.specs.declared.table.Position.TheVariants.{Root}
use Rattle.ecore_json.specs.Walk.{package_fault, object_fault}
use Rattle.ecore_json.specs.Rows.{own_prefix, rows_of}
use Rattle.ecore_json.specs.Metamodel.{built, walked}
use Rattle.ecore_json.proofs.Gives.{gives_same}
use Rattle.ecore_json.proofs.NamesFit.{names_fit}
use Rattle.ecore_json.proofs.read.of_package.Goals as goal

pub returns : goal.returns
returns c =
    let d = view c.args.root.now in
    let none : package_fault (own_prefix d) d ≡ None =
    sym (c.in-None.ensures ∙ ap (λ own. object_fault own Root d) (c.as_str.ensures.value ∙ c.in_ok-own.ensures)) in
    gives_same c.built.result _ _ c.built.ensures
    (ap (λ (r : MetaRows). built (fault r.classifiers) r) c.in_ok-rows-in-None.ensures ∙ sym (ap (λ o. walked o (rows_of d)) none))

pub built-requires-clause-fit : goal.built-requires-clause-fit
built-requires-clause-fit c =
    let d = view c.args.root.now in
    let none : package_fault (own_prefix d) d ≡ None =
    sym (c.in-None.ensures ∙ ap (λ own. object_fault own Root d) (c.as_str.ensures.value ∙ c.in_ok-own.ensures)) in
    subst (λ (r : MetaRows). NamesFit r.classifiers) (sym c.in_ok-rows-in-None.ensures) (names_fit d none)
