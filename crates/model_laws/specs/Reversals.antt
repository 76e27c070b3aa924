-- What reversal does, of operations and packages.
use Rattle.std.specs.Prelude.{◌≡◌, List, Some}
use Rattle.ecore_meta.specs.Meta.{Meta}
use Rattle.model_state.specs.State.{State}
use Rattle.model_state.specs.Good.{Good, Sound}
use Rattle.model_state.specs.Packages.{fold_package, rev_package, rev_op}
use Rattle.model_state.specs.declared.operation.Operation.{Operation}

-- what a package did, its reversal undoes
abbrev pub PackageReversalUndoes : Type 0
PackageReversalUndoes = (meta : Meta) → Sound meta → (m n : State) → Good meta m → (p : List Operation) → fold_package meta m p ≡ Some n
    → fold_package meta n (rev_package p) ≡ Some m

-- packages keep the invariant
abbrev pub PackagesKeepGood : Type 0
PackagesKeepGood = (meta : Meta) → Sound meta → (m n : State) → Good meta m → (p : List Operation) → fold_package meta m p ≡ Some n → Good meta n

-- a package reversed twice is the package
abbrev pub TwiceReversedIsSame : Type 0
TwiceReversedIsSame = (p : List Operation) → rev_package (rev_package p) ≡ p

-- an operation reversed twice is the operation
abbrev pub OperationTwiceReversedIsSame : Type 0
OperationTwiceReversedIsSame = (o : Operation) → rev_op (rev_op o) ≡ o
