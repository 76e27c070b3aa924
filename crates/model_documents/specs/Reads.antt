-- A value that is read, or the first fault.
use Rattle.std.specs.Prelude.{List, [], ◌∷◌, ◌++◌, Bool, true, false, Option, None, Some, Result, Ok, Err}
use Rattle.model_documents.specs.declared.fault.ModelFault.{ModelFault}

-- what reading gives: a value, or the first fault
abbrev pub Read : Type 0 → Type 0
Read A = Result A ModelFault

-- the fault, or what f makes of the value
abbrev pub «then» : {A B : Type 0} → Read A → (A → Read B) → Read B
«then» (Err e) f = Err e
«then» (Ok a) f = f a

-- the fault where the test fails
abbrev pub unless : {A : Type 0} → Bool → ModelFault → Read A → Read A
unless true e rest = rest
unless false e rest = Err e

-- the fault where there is nothing
abbrev pub found : {A : Type 0} → ModelFault → Option A → Read A
found e None = Err e
found e (Some a) = Ok a

-- each item in turn gives a value, after those before it, or the first fault
abbrev pub collected : {A B : Type 0} → (List B → A → Read B) → List B → List A → Read (List B)
collected give bs [] = Ok bs
collected give bs (a ∷ rest) = «then» (give bs a) (λ b. collected give (bs ++ b ∷ []) rest)
