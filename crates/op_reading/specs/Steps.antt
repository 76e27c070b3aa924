-- Steps as they are read: a kind's byte from 1 to 11, and the step's fields in their order.
use Rattle.std.specs.Prelude.{ℕ, ◌==◌, Result, Err, if◌then◌else◌}
use Rattle.byte_form.specs.Rest.{Rest}
use Rattle.byte_form.specs.Fields.{◌>>=◌}
use Rattle.model_state.specs.declared.step.Step.{Step}
use Rattle.model_state.specs.declared.step.Step.TheVariants.{Put, Ins, Del, Shift, Link, Unlink, RerankRow, New, Gone, Move, RerankPlace}
use Rattle.op_reading.specs.declared.fault.FormFault.{FormFault}
use Rattle.op_reading.specs.declared.fault.FormFault.TheVariants.{NotForm}
use Rattle.op_reading.specs.Reading.{Reading, made, ◌⊗◌, u8_at, u32_at, u64_at, option_at, list_at}
use Rattle.op_reading.specs.Values.{id_at, value_at, place_at}

-- Put: the element, the feature, and the values before and after
unfoldable pub put_at : Reading Step
put_at r = made (λ t. Put t.0 t.1.0 t.1.1.0 t.1.1.1) ((id_at ⊗ u32_at ⊗ option_at value_at ⊗ option_at value_at) r)

-- Ins: the element, the feature, the index and the value
unfoldable pub ins_at : Reading Step
ins_at r = made (λ t. Ins t.0 t.1.0 t.1.1.0 t.1.1.1) ((id_at ⊗ u32_at ⊗ u32_at ⊗ value_at) r)

-- Del: the element, the feature, the index and the value
unfoldable pub del_at : Reading Step
del_at r = made (λ t. Del t.0 t.1.0 t.1.1.0 t.1.1.1) ((id_at ⊗ u32_at ⊗ u32_at ⊗ value_at) r)

-- Shift: the element, the feature, and the indices before and after
unfoldable pub shift_at : Reading Step
shift_at r = made (λ t. Shift t.0 t.1.0 t.1.1.0 t.1.1.1) ((id_at ⊗ u32_at ⊗ u32_at ⊗ u32_at) r)

-- Link: the source, the feature, its rank, the target, and the mirror's rank or none
unfoldable pub link_at : Reading Step
link_at r = made (λ t. Link t.0 t.1.0 t.1.1.0 t.1.1.1.0 t.1.1.1.1) ((id_at ⊗ u32_at ⊗ u64_at ⊗ id_at ⊗ option_at u64_at) r)

-- Unlink: the source, the feature, its rank, the target, and the mirror's rank or none
unfoldable pub unlink_at : Reading Step
unlink_at r = made (λ t. Unlink t.0 t.1.0 t.1.1.0 t.1.1.1.0 t.1.1.1.1) ((id_at ⊗ u32_at ⊗ u64_at ⊗ id_at ⊗ option_at u64_at) r)

-- RerankRow: the source, the feature, the target, and the ranks before and after
unfoldable pub rerank_row_at : Reading Step
rerank_row_at r = made (λ t. RerankRow t.0 t.1.0 t.1.1.0 t.1.1.1.0 t.1.1.1.1) ((id_at ⊗ u32_at ⊗ id_at ⊗ u64_at ⊗ u64_at) r)

-- New: the element, its class, its place and its rank
unfoldable pub new_at : Reading Step
new_at r = made (λ t. New t.0 t.1.0 t.1.1.0 t.1.1.1) ((id_at ⊗ u32_at ⊗ place_at ⊗ u64_at) r)

-- Gone: the element, its class, its place and its rank
unfoldable pub gone_at : Reading Step
gone_at r = made (λ t. Gone t.0 t.1.0 t.1.1.0 t.1.1.1) ((id_at ⊗ u32_at ⊗ place_at ⊗ u64_at) r)

-- Move: the element, its place and rank before and after, and the containers of both places
unfoldable pub move_at : Reading Step
move_at r = made (λ t. Move t.0 t.1.0 t.1.1.0 t.1.1.1.0 t.1.1.1.1.0 t.1.1.1.1.1.0 t.1.1.1.1.1.1)
    ((id_at ⊗ place_at ⊗ u64_at ⊗ place_at ⊗ u64_at ⊗ list_at id_at ⊗ list_at id_at) r)

-- RerankPlace: the element, and the ranks before and after
unfoldable pub rerank_place_at : Reading Step
rerank_place_at r = made (λ t. RerankPlace t.0 t.1.0 t.1.1) ((id_at ⊗ u64_at ⊗ u64_at) r)

-- the kind's byte chooses
abbrev pub step_of : ℕ → ℕ × Rest → Result (Step × Rest) FormFault
step_of offset kind =
    if kind.0 == 1 then put_at kind.1
    else if kind.0 == 2 then ins_at kind.1
    else if kind.0 == 3 then del_at kind.1
    else if kind.0 == 4 then shift_at kind.1
    else if kind.0 == 5 then link_at kind.1
    else if kind.0 == 6 then unlink_at kind.1
    else if kind.0 == 7 then rerank_row_at kind.1
    else if kind.0 == 8 then new_at kind.1
    else if kind.0 == 9 then gone_at kind.1
    else if kind.0 == 10 then move_at kind.1
    else if kind.0 == 11 then rerank_place_at kind.1
    else Err (NotForm offset)

-- a step: its kind's byte, and the fields of that kind
unfoldable pub step_at : Reading Step
step_at r = u8_at r >>= step_of r.offset
