-- Simple operations cut into their steps.
use Rattle.std.specs.Prelude.{Bool, true, false, List, [], ◌∷◌, ◌++◌}
use Rattle.model_state.specs.declared.step.Step.{Step}
use Rattle.model_state.specs.declared.step.Step.TheVariants.{Put, Ins, Del, Shift, Link, Unlink, RerankRow, New, Gone, Move, RerankPlace}
use Rattle.model_state.specs.declared.operation.OpKind.{OpKind}
use Rattle.model_state.specs.declared.operation.OpKind.TheVariants.{Create, Delete, Attribute, ManyAttribute, Reference, Move as MoveKind}
use Rattle.model_state.specs.declared.operation.Operation.{Operation}
use Rattle.model_state.specs.declared.operation.Operation.TheVariants.{Simple, Composite}
use Rattle.merge_laws.specs.Equal.{kind_eq}

-- the kind of an operation of this step alone
abbrev pub own_kind : Step → OpKind
own_kind (Put e f old new) = Attribute
own_kind (Ins e f at v) = ManyAttribute
own_kind (Del e f at v) = ManyAttribute
own_kind (Shift e f from to) = ManyAttribute
own_kind (Link a f ra b rb) = Reference
own_kind (Unlink a f ra b rb) = Reference
own_kind (RerankRow a f b old new) = Reference
own_kind (New e class place rank) = Create
own_kind (Gone e class place rank) = Delete
own_kind (Move e from from_rank to to_rank above_from above_to) = MoveKind
own_kind (RerankPlace e old new) = MoveKind

-- one simple operation for each step
abbrev pub singles : List Step → List Operation
singles [] = []
singles (s ∷ ss) = Simple (own_kind s) (s ∷ []) ∷ singles ss

-- simple operations cut into their steps, composites whole
abbrev pub split : List Operation → List Operation
split [] = []
split (Simple kind steps ∷ os) = singles steps ++ split os
split (Composite name steps ∷ os) = Composite name steps ∷ split os

-- a composite, or a simple operation of one step
abbrev pub Alone : Operation → Type 0
Alone (Simple kind []) = ⊥
Alone (Simple kind (s ∷ [])) = Unit {0}
Alone (Simple kind (s ∷ t ∷ ss)) = ⊥
Alone (Composite name steps) = Unit {0}

-- each operation is one
abbrev pub EachAlone : List Operation → Type 0
EachAlone [] = Unit {0}
EachAlone (o ∷ os) = Alone o × EachAlone os

-- is the operation a composite, or a simple one of one step and of the kind of that step
abbrev pub is_single : Operation → Bool
is_single (Simple kind []) = false
is_single (Simple kind (s ∷ [])) = kind_eq kind (own_kind s)
is_single (Simple kind (s ∷ t ∷ ss)) = false
is_single (Composite name steps) = true
