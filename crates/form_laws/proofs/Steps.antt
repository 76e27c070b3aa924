-- Steps: their faults. One row a kind.
use Rattle.std.proofs.Common.{◌≡◌, [], ◌∷◌, ◌++◌, List, codes, refl, ap, arith}
use Rattle.model_state.specs.declared.step.Step.{Step}
use Rattle.model_state.specs.declared.step.Step.TheVariants.{Put, Ins, Del, Shift, Link, Unlink, RerankRow, New, Gone, Move, RerankPlace}
use Rattle.op_reading.specs.Steps.{put_at, ins_at, del_at, shift_at, link_at, unlink_at, rerank_row_at, new_at, gone_at, move_at, rerank_place_at, step_at}
use Rattle.op_form.specs.Steps.{step_encoding}
use Rattle.op_form.specs.Formed.{IsStep}
use Rattle.op_reading.proofs.StepCodes.{step_codes}
use Rattle.form_laws.specs.Fields.{fields_encoding}
use Rattle.form_laws.specs.Events.{long_fields, text_fields, step_fields}
use Rattle.form_laws.proofs.Faults.{Exact, u32_exact, u64_exact}
use Rattle.form_laws.proofs.Parts.{both_exact, option_exact, list_exact, Row, known, tagged_faults}
use Rattle.form_laws.proofs.Values.{id_exact, value_exact, place_exact}

put_row : Row IsStep step_fields
unfolding put_at step_fields
put_row =
    known (both_exact id_exact (both_exact u32_exact (both_exact (option_exact value_exact) (option_exact value_exact)))) IsStep step_fields
    (λ t. Put t.0 t.1.0 t.1.1.0 t.1.1.1) 1 (λ t is. is) (λ t is. refl)

ins_row : Row IsStep step_fields
unfolding ins_at step_fields
ins_row =
    known (both_exact id_exact (both_exact u32_exact (both_exact u32_exact value_exact))) IsStep step_fields
    (λ t. Ins t.0 t.1.0 t.1.1.0 t.1.1.1) 2 (λ t is. is) (λ t is. refl)

del_row : Row IsStep step_fields
unfolding del_at step_fields
del_row =
    known (both_exact id_exact (both_exact u32_exact (both_exact u32_exact value_exact))) IsStep step_fields
    (λ t. Del t.0 t.1.0 t.1.1.0 t.1.1.1) 3 (λ t is. is) (λ t is. refl)

shift_row : Row IsStep step_fields
unfolding shift_at step_fields
shift_row =
    known (both_exact id_exact (both_exact u32_exact (both_exact u32_exact u32_exact))) IsStep step_fields
    (λ t. Shift t.0 t.1.0 t.1.1.0 t.1.1.1) 4 (λ t is. is) (λ t is. refl)

link_row : Row IsStep step_fields
unfolding link_at step_fields
link_row =
    known (both_exact id_exact (both_exact u32_exact (both_exact u64_exact (both_exact id_exact (option_exact u64_exact))))) IsStep step_fields
    (λ t. Link t.0 t.1.0 t.1.1.0 t.1.1.1.0 t.1.1.1.1) 5 (λ t is. is) (λ t is. refl)

unlink_row : Row IsStep step_fields
unfolding unlink_at step_fields
unlink_row =
    known (both_exact id_exact (both_exact u32_exact (both_exact u64_exact (both_exact id_exact (option_exact u64_exact))))) IsStep step_fields
    (λ t. Unlink t.0 t.1.0 t.1.1.0 t.1.1.1.0 t.1.1.1.1) 6 (λ t is. is) (λ t is. refl)

rerank_row_row : Row IsStep step_fields
unfolding rerank_row_at step_fields
rerank_row_row =
    known (both_exact id_exact (both_exact u32_exact (both_exact id_exact (both_exact u64_exact u64_exact)))) IsStep step_fields
    (λ t. RerankRow t.0 t.1.0 t.1.1.0 t.1.1.1.0 t.1.1.1.1) 7 (λ t is. is) (λ t is. refl)

new_row : Row IsStep step_fields
unfolding new_at step_fields
new_row =
    known (both_exact id_exact (both_exact u32_exact (both_exact place_exact u64_exact))) IsStep step_fields
    (λ t. New t.0 t.1.0 t.1.1.0 t.1.1.1) 8 (λ t is. is) (λ t is. refl)

gone_row : Row IsStep step_fields
unfolding gone_at step_fields
gone_row =
    known (both_exact id_exact (both_exact u32_exact (both_exact place_exact u64_exact))) IsStep step_fields
    (λ t. Gone t.0 t.1.0 t.1.1.0 t.1.1.1) 9 (λ t is. is) (λ t is. refl)

move_row : Row IsStep step_fields
unfolding move_at step_fields
move_row =
    known (both_exact id_exact (both_exact place_exact
    (both_exact u64_exact (both_exact place_exact (both_exact u64_exact (both_exact (list_exact id_exact) (list_exact id_exact))))))) IsStep step_fields
    (λ t. Move t.0 t.1.0 t.1.1.0 t.1.1.1.0 t.1.1.1.1.0 t.1.1.1.1.1.0 t.1.1.1.1.1.1) 10 (λ t is. is) (λ t is. refl)

rerank_place_row : Row IsStep step_fields
unfolding rerank_place_at step_fields
rerank_place_row =
    known (both_exact id_exact (both_exact u64_exact u64_exact)) IsStep step_fields
    (λ t. RerankPlace t.0 t.1.0 t.1.1) 11 (λ t is. is) (λ t is. refl)

step_encoded : (step : Step) → step_encoding step ≡ fields_encoding (step_fields step)
unfolding step_encoding step_fields
step_encoded (Put a b c d) =
    ap (λ bs. 1 ∷ bs) ((both_exact id_exact (both_exact u32_exact (both_exact (option_exact value_exact) (option_exact value_exact)))).encoded (a, (b, (c, d))))
step_encoded (Ins a b c d) =
    ap (λ bs. 2 ∷ bs) ((both_exact id_exact (both_exact u32_exact (both_exact u32_exact value_exact))).encoded (a, (b, (c, d))))
step_encoded (Del a b c d) =
    ap (λ bs. 3 ∷ bs) ((both_exact id_exact (both_exact u32_exact (both_exact u32_exact value_exact))).encoded (a, (b, (c, d))))
step_encoded (Shift a b c d) =
    ap (λ bs. 4 ∷ bs) ((both_exact id_exact (both_exact u32_exact (both_exact u32_exact u32_exact))).encoded (a, (b, (c, d))))
step_encoded (Link a b c d e) =
    ap (λ bs. 5 ∷ bs) ((both_exact id_exact (both_exact u32_exact (both_exact u64_exact (both_exact id_exact (option_exact u64_exact))))).encoded
    (a, (b, (c, (d, e)))))
step_encoded (Unlink a b c d e) =
    ap (λ bs. 6 ∷ bs) ((both_exact id_exact (both_exact u32_exact (both_exact u64_exact (both_exact id_exact (option_exact u64_exact))))).encoded
    (a, (b, (c, (d, e)))))
step_encoded (RerankRow a b c d e) =
    ap (λ bs. 7 ∷ bs) ((both_exact id_exact (both_exact u32_exact (both_exact id_exact (both_exact u64_exact u64_exact)))).encoded (a, (b, (c, (d, e)))))
step_encoded (New a b c d) =
    ap (λ bs. 8 ∷ bs) ((both_exact id_exact (both_exact u32_exact (both_exact place_exact u64_exact))).encoded (a, (b, (c, d))))
step_encoded (Gone a b c d) =
    ap (λ bs. 9 ∷ bs) ((both_exact id_exact (both_exact u32_exact (both_exact place_exact u64_exact))).encoded (a, (b, (c, d))))
step_encoded (Move a b c d e f g) =
    ap (λ bs. 10 ∷ bs) ((both_exact id_exact
    (both_exact place_exact (both_exact u64_exact
    (both_exact place_exact (both_exact u64_exact (both_exact (list_exact id_exact) (list_exact id_exact))))))).encoded (a, (b, (c, (d, (e, (f, g)))))))
step_encoded (RerankPlace a b c) =
    ap (λ bs. 11 ∷ bs) ((both_exact id_exact (both_exact u64_exact u64_exact)).encoded (a, (b, c)))

step_rows : List (Row IsStep step_fields)
step_rows = put_row ∷ ins_row ∷ del_row ∷ shift_row ∷ link_row ∷ unlink_row ∷ rerank_row_row ∷ new_row ∷ gone_row ∷ move_row ∷ rerank_place_row ∷ []

pub step_exact : Exact step_codes step_fields
unfolding step_at step_fields step_rows put_at ins_at del_at shift_at link_at unlink_at rerank_row_at new_at gone_at move_at rerank_place_at put_row
    ins_row del_row shift_row link_row unlink_row rerank_row_row new_row gone_row move_row rerank_place_row
step_exact = record {
  sample = RerankPlace (codes "a") 0 0;
  has = (refl, (omega arith, omega arith));
  encoded = step_encoded;
  faults = λ bytes offset are fault e.
      tagged_faults step_rows (RerankPlace (codes "a") 0 0) (refl, (omega arith, omega arith)) 11
      (text_fields (codes "a") ++ (long_fields 0 ++ long_fields 0)) refl bytes offset are fault e;
}
