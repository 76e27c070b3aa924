-- A package has at least as many bytes as steps.
use Rattle.std.proofs.Common.{ℕ, ◌≤◌, List, [], ◌∷◌, ◌++◌, length, arith, length-append}
use Rattle.byte_form.specs.Fields.{text_encoding, u32_encoding}
use Rattle.model_state.specs.Packages.{steps_of, steps_all}
use Rattle.model_state.specs.declared.operation.Operation.{Operation}
use Rattle.model_state.specs.declared.operation.Operation.TheVariants.{Simple, Composite}
use Rattle.model_state.specs.declared.step.Step.{Step}
use Rattle.model_state.specs.declared.step.Step.TheVariants.{Put, Ins, Del, Shift, Link, Unlink, RerankRow, New, Gone, Move, RerankPlace}
use Rattle.op_form.specs.Lists.{items_encoding, list_encoding}
use Rattle.op_form.specs.Steps.{step_encoding}
use Rattle.op_form.specs.Packages.{kind_encoding, operation_encoding, package_encoding}
use Rattle.state_form.specs.Laws.{StepsTakeBytes}

-- the kind of a step takes one
step_byte : (s : Step) → 1 ≤ length (step_encoding s)
unfolding step_encoding
step_byte (Put e f old new) = omega arith
step_byte (Ins e f at v) = omega arith
step_byte (Del e f at v) = omega arith
step_byte (Shift e f from to) = omega arith
step_byte (Link a f ra b rb) = omega arith
step_byte (Unlink a f ra b rb) = omega arith
step_byte (RerankRow a f b old new) = omega arith
step_byte (New e class place rank) = omega arith
step_byte (Gone e class place rank) = omega arith
step_byte (Move e from from_rank to to_rank above_from above_to) = omega arith
step_byte (RerankPlace e old new) = omega arith

steps_bytes : (ss : List Step) → length ss ≤ length (items_encoding step_encoding ss)
steps_bytes [] = omega arith
steps_bytes (s ∷ ss) =
    let one = step_byte s in
    let rest = steps_bytes ss in
    let sum = length-append (step_encoding s) (items_encoding step_encoding ss) in
    omega (arith, one, rest, sum)

behind : (xs ys : List ℕ) (n : ℕ) → n ≤ length ys → n ≤ length (xs ++ ys)
behind xs ys n within = let sum = length-append xs ys in omega (arith, within, sum)

operation_bytes : (o : Operation) → length (steps_of o) ≤ length (operation_encoding o)
unfolding operation_encoding
operation_bytes (Simple kind steps) =
    behind (1 ∷ []) (kind_encoding kind ++ list_encoding step_encoding steps) (length steps)
    (behind (kind_encoding kind) (list_encoding step_encoding steps) (length steps)
    (behind (u32_encoding (length steps)) (items_encoding step_encoding steps) (length steps) (steps_bytes steps)))
operation_bytes (Composite name steps) =
    behind (2 ∷ []) (text_encoding name ++ list_encoding step_encoding steps) (length steps)
    (behind (text_encoding name) (list_encoding step_encoding steps) (length steps)
    (behind (u32_encoding (length steps)) (items_encoding step_encoding steps) (length steps) (steps_bytes steps)))

operations_bytes : (os : List Operation) → length (steps_all os) ≤ length (items_encoding operation_encoding os)
operations_bytes [] = omega arith
operations_bytes (o ∷ os) =
    let one = operation_bytes o in
    let rest = operations_bytes os in
    let steps = length-append (steps_of o) (steps_all os) in
    let sum = length-append (operation_encoding o) (items_encoding operation_encoding os) in
    omega (arith, one, rest, steps, sum)

pub steps_take_bytes : StepsTakeBytes
unfolding package_encoding
steps_take_bytes os = behind (u32_encoding (length os)) (items_encoding operation_encoding os) (length (steps_all os)) (operations_bytes os)
