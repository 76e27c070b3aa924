-- The fault of a part is the fault of the whole.
use Rattle.std.proofs.Common.{◌≡◌, ap, sym, subst, Result, Ok, Err}
use Rattle.std.specs.Result.{IsErr, IsErrAnd}
use Rattle.model_documents.specs.declared.fault.ModelFault.{ModelFault}
use Rattle.model_documents.specs.declared.fault.ModelFault.TheVariants.{NotJson, NoClass, Abstract, NoFeature, BadValue, BadRef, DupId, BadId, Bound}
use Rattle.model_documents.specs.declared.fault.ModelFault.TheVariants.{WrongType, Memory}
use Rattle.emfjson_drafts.specs.Answers.{Gives, IsFault}
use Rattle.model_documents.specs.Reads.{Read, «then»}

-- the fault of the first part is the fault of the whole
pub fault_then : {A B : Type 0} (e : ModelFault) (r : Read A) (f : A → Read B) → IsFault e r → IsFault e («then» r f)
fault_then Memory r f h = tt
fault_then NotJson r f h = ap (λ r. «then» r f) h
fault_then NoClass r f h = ap (λ r. «then» r f) h
fault_then Abstract r f h = ap (λ r. «then» r f) h
fault_then NoFeature r f h = ap (λ r. «then» r f) h
fault_then BadValue r f h = ap (λ r. «then» r f) h
fault_then BadRef r f h = ap (λ r. «then» r f) h
fault_then DupId r f h = ap (λ r. «then» r f) h
fault_then BadId r f h = ap (λ r. «then» r f) h
fault_then Bound r f h = ap (λ r. «then» r f) h
fault_then WrongType r f h = ap (λ r. «then» r f) h

pub fault_is : {A : Type 0} (e : ModelFault) (r s : Read A) → IsFault e r → r ≡ s → IsFault e s
fault_is e r s h p = subst (IsFault e) p h

-- a fault that is handed on
pub gives_fault : {A : Type 0} (e : ModelFault) (r : Result A ModelFault) (s : Read A) → IsErr r → IsErrAnd r (λ f. f ≡ e) → IsFault e s → Gives r s
gives_fault e (Ok x) s is_err is h = absurd cc
gives_fault e (Err f) s is_err is h = subst (λ g. IsFault g s) (sym is) h
