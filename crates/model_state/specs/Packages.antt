-- Operations and packages: their steps, their reversals, and what they lead to.
use Rattle.std.specs.Prelude.{List, [], ◌∷◌, ◌++◌, Option}
use Rattle.ecore_meta.specs.Meta.{Meta}
use Rattle.model_state.specs.declared.step.Step.{Step}
use Rattle.model_state.specs.State.{State}
use Rattle.model_state.specs.Steps.{fold, rev_all}
use Rattle.model_state.specs.declared.operation.OpKind.{OpKind}
use Rattle.model_state.specs.declared.operation.OpKind.TheVariants.{Create, Delete, Attribute, ManyAttribute, Reference, Move}
use Rattle.model_state.specs.declared.operation.Operation.{Operation}
use Rattle.model_state.specs.declared.operation.Operation.TheVariants.{Simple, Composite}

-- the steps of an operation
abbrev pub steps_of : Operation → List Step
steps_of (Simple kind steps) = steps
steps_of (Composite name steps) = steps

-- the steps of a package, one operation after another
abbrev pub steps_all : List Operation → List Step
steps_all [] = []
steps_all (o ∷ os) = steps_of o ++ steps_all os

-- the steps of a package one by one, where each can be taken in its turn
abbrev pub fold_package : Meta → State → List Operation → Option State
fold_package meta m p = fold meta m (steps_all p)

-- create and delete undo each other; the other kinds undo themselves
abbrev pub rev_kind : OpKind → OpKind
rev_kind Create = Delete
rev_kind Delete = Create
rev_kind Attribute = Attribute
rev_kind ManyAttribute = ManyAttribute
rev_kind Reference = Reference
rev_kind Move = Move

-- the operation that undoes an operation
abbrev pub rev_op : Operation → Operation
rev_op (Simple kind steps) = Simple (rev_kind kind) (rev_all steps)
rev_op (Composite name steps) = Composite name (rev_all steps)

-- the reversed operations in reversed order
abbrev pub rev_package : List Operation → List Operation
rev_package [] = []
rev_package (o ∷ os) = rev_package os ++ rev_op o ∷ []
