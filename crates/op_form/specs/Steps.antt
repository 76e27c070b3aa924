-- The encodings of steps: a kind's byte from 1 to 11, and the step's fields in their order.
use Rattle.std.specs.Prelude.{ℕ, List, ◌∷◌, ◌++◌}
use Rattle.byte_form.specs.Fields.{text_encoding, u32_encoding, u64_encoding}
use Rattle.model_state.specs.declared.step.Step.{Step}
use Rattle.model_state.specs.declared.step.Step.TheVariants.{Put, Ins, Del, Shift, Link, Unlink, RerankRow, New, Gone, Move, RerankPlace}
use Rattle.op_form.specs.Lists.{option_encoding, list_encoding}
use Rattle.op_form.specs.Values.{value_encoding, place_encoding}

-- the encoding of a step
unfoldable pub step_encoding : Step → List ℕ
step_encoding (Put e f old new) = 1 ∷ (text_encoding e ++ (u32_encoding f ++ (option_encoding value_encoding old ++ option_encoding value_encoding new)))
step_encoding (Ins e f at v) = 2 ∷ (text_encoding e ++ (u32_encoding f ++ (u32_encoding at ++ value_encoding v)))
step_encoding (Del e f at v) = 3 ∷ (text_encoding e ++ (u32_encoding f ++ (u32_encoding at ++ value_encoding v)))
step_encoding (Shift e f from to) = 4 ∷ (text_encoding e ++ (u32_encoding f ++ (u32_encoding from ++ u32_encoding to)))
step_encoding (Link a f ra b rb) = 5 ∷ (text_encoding a ++ (u32_encoding f ++ (u64_encoding ra ++ (text_encoding b ++ option_encoding u64_encoding rb))))
step_encoding (Unlink a f ra b rb) = 6 ∷ (text_encoding a ++ (u32_encoding f ++ (u64_encoding ra ++ (text_encoding b ++ option_encoding u64_encoding rb))))
step_encoding (RerankRow a f b old new) = 7 ∷ (text_encoding a ++ (u32_encoding f ++ (text_encoding b ++ (u64_encoding old ++ u64_encoding new))))
step_encoding (New e class place rank) = 8 ∷ (text_encoding e ++ (u32_encoding class ++ (place_encoding place ++ u64_encoding rank)))
step_encoding (Gone e class place rank) = 9 ∷ (text_encoding e ++ (u32_encoding class ++ (place_encoding place ++ u64_encoding rank)))
step_encoding (Move e from from_rank to to_rank above_from above_to) =
    10 ∷ (text_encoding e ++ (place_encoding from
    ++ (u64_encoding from_rank
    ++ (place_encoding to ++ (u64_encoding to_rank ++ (list_encoding text_encoding above_from ++ list_encoding text_encoding above_to))))))
step_encoding (RerankPlace e old new) = 11 ∷ (text_encoding e ++ (u64_encoding old ++ u64_encoding new))
