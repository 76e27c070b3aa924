-- Answers that name what was read.
use Rattle.std.proofs.Common.{◌≡◌, ◌∙◌, ap, sym, subst, Option, None, Result, Ok, Err}
use Rattle.ecore_build.specs.Faults.{IsFault, fault}
use Rattle.ecore_meta.specs.Meta.{Meta}
use Rattle.ecore_build.specs.declared.fault.MetaFault.{MetaFault}
use Rattle.ecore_build.specs.declared.fault.MetaFault.TheVariants.{DupName, Unsupported, NoType, SuperCycle, Clash, SelfOpposite, BadOpposite}
use Rattle.ecore_build.specs.declared.fault.MetaFault.TheVariants.{BadBound, BadDefault, Memory}
use Rattle.ecore_drafts.specs.declared.rows.MetaRows.{MetaRows}
use Rattle.ecore_json.specs.declared.fault.EcoreFault.{EcoreFault}
use Rattle.ecore_build.specs.Build.{meta_of}
use Rattle.ecore_json.specs.Metamodel.{built, of_meta, GivesMetamodel}

pub of_fault : (e : MetaFault) (first : Option MetaFault) (rows : MetaRows) → IsFault first e → GivesMetamodel (Err (of_meta e)) (built first rows)
of_fault Memory first rows h = tt
of_fault DupName first rows h = ap (λ o. built o rows) h
of_fault Unsupported first rows h = ap (λ o. built o rows) h
of_fault NoType first rows h = ap (λ o. built o rows) h
of_fault SuperCycle first rows h = ap (λ o. built o rows) h
of_fault Clash first rows h = ap (λ o. built o rows) h
of_fault SelfOpposite first rows h = ap (λ o. built o rows) h
of_fault BadOpposite first rows h = ap (λ o. built o rows) h
of_fault BadBound first rows h = ap (λ o. built o rows) h
of_fault BadDefault first rows h = ap (λ o. built o rows) h

pub fault_named : (e : MetaFault) (f : EcoreFault) (first : Option MetaFault) (rows : MetaRows) → f ≡ of_meta e → IsFault first e
    → GivesMetamodel (Err f) (built first rows)
fault_named e f first rows is h = subst (λ f. GivesMetamodel (Err f) (built first rows)) (sym is) (of_fault e first rows h)

pub gives_metamodel : (meta : Meta) (rows : MetaRows) → fault rows.classifiers ≡ None → meta ≡ meta_of rows
    → GivesMetamodel (Ok meta) (built (fault rows.classifiers) rows)
gives_metamodel meta rows none is =
    let wrap : Meta → Result Meta EcoreFault = λ m. Ok m in
    ap (λ o. built o rows) none ∙ sym (ap wrap is)

pub gives_same : (r : Result Meta EcoreFault) (read other : Result Meta EcoreFault) → GivesMetamodel r read → read ≡ other → GivesMetamodel r other
gives_same r read other h is = subst (GivesMetamodel r) is h
