-- Steps: read again, and spelled so. One line a kind.
use Rattle.std.proofs.Common.{inl, inr, nat_eq, Ok, refl}
use Rattle.byte_form.specs.Fields.{byte_at}
use Rattle.byte_form.specs.Laws.{IsReadAgain, IsSpelledSo}
use Rattle.byte_form.proofs.FieldLemmas.{reached}
use Rattle.model_state.specs.declared.step.Step.TheVariants.{Put, Ins, Del, Shift, Link, Unlink, RerankRow, New, Gone, Move, RerankPlace}
use Rattle.op_reading.specs.Reading.{u8_at}
use Rattle.op_reading.specs.Steps.{put_at, ins_at, del_at, shift_at, link_at, unlink_at, rerank_row_at, new_at, gone_at, move_at, rerank_place_at}
use Rattle.op_reading.specs.Steps.{step_of, step_at}
use Rattle.op_form.specs.Steps.{step_encoding}
use Rattle.op_form.specs.Formed.{IsStep}
use Rattle.op_reading.proofs.Codes.{Codes, both, either, u32_codes, u64_codes, option_codes, list_codes, made_again, made_spelled, byte_stood}
use Rattle.op_reading.proofs.ValueCodes.{id_codes, value_codes, place_codes}

step_again : IsReadAgain IsStep step_encoding step_at
unfolding step_at step_encoding byte_at put_at ins_at del_at shift_at link_at unlink_at rerank_row_at new_at gone_at move_at rerank_place_at
step_again (Put a b c d) is rest offset =
    made_again (both id_codes (both u32_codes (both (option_codes value_codes) (option_codes value_codes)))) (λ t. Put t.0 t.1.0 t.1.1.0 t.1.1.1) 1
    (a, (b, (c, d))) is rest offset
step_again (Ins a b c d) is rest offset =
    made_again (both id_codes (both u32_codes (both u32_codes value_codes))) (λ t. Ins t.0 t.1.0 t.1.1.0 t.1.1.1) 2 (a, (b, (c, d))) is rest offset
step_again (Del a b c d) is rest offset =
    made_again (both id_codes (both u32_codes (both u32_codes value_codes))) (λ t. Del t.0 t.1.0 t.1.1.0 t.1.1.1) 3 (a, (b, (c, d))) is rest offset
step_again (Shift a b c d) is rest offset =
    made_again (both id_codes (both u32_codes (both u32_codes u32_codes))) (λ t. Shift t.0 t.1.0 t.1.1.0 t.1.1.1) 4 (a, (b, (c, d))) is rest offset
step_again (Link a b c d e) is rest offset =
    made_again (both id_codes (both u32_codes (both u64_codes (both id_codes (option_codes u64_codes)))))
    (λ t. Link t.0 t.1.0 t.1.1.0 t.1.1.1.0 t.1.1.1.1) 5 (a, (b, (c, (d, e)))) is rest offset
step_again (Unlink a b c d e) is rest offset =
    made_again (both id_codes (both u32_codes (both u64_codes (both id_codes (option_codes u64_codes)))))
    (λ t. Unlink t.0 t.1.0 t.1.1.0 t.1.1.1.0 t.1.1.1.1) 6 (a, (b, (c, (d, e)))) is rest offset
step_again (RerankRow a b c d e) is rest offset =
    made_again (both id_codes (both u32_codes (both id_codes (both u64_codes u64_codes)))) (λ t. RerankRow t.0 t.1.0 t.1.1.0 t.1.1.1.0 t.1.1.1.1) 7
    (a, (b, (c, (d, e)))) is rest offset
step_again (New a b c d) is rest offset =
    made_again (both id_codes (both u32_codes (both place_codes u64_codes))) (λ t. New t.0 t.1.0 t.1.1.0 t.1.1.1) 8 (a, (b, (c, d))) is rest offset
step_again (Gone a b c d) is rest offset =
    made_again (both id_codes (both u32_codes (both place_codes u64_codes))) (λ t. Gone t.0 t.1.0 t.1.1.0 t.1.1.1) 9 (a, (b, (c, d))) is rest offset
step_again (Move a b c d e f g) is rest offset =
    made_again (both id_codes
    (both place_codes (both u64_codes (both place_codes (both u64_codes (both (list_codes id_codes) (list_codes id_codes)))))))
    (λ t. Move t.0 t.1.0 t.1.1.0 t.1.1.1.0 t.1.1.1.1.0 t.1.1.1.1.1.0 t.1.1.1.1.1.1) 10 (a, (b, (c, (d, (e, (f, g)))))) is rest offset
step_again (RerankPlace a b c) is rest offset =
    made_again (both id_codes (both u64_codes u64_codes)) (λ t. RerankPlace t.0 t.1.0 t.1.1) 11 (a, (b, c)) is rest offset

step_spelled : IsSpelledSo IsStep step_encoding step_at
unfolding step_at step_encoding put_at ins_at del_at shift_at link_at unlink_at rerank_row_at new_at gone_at move_at rerank_place_at
step_spelled before bytes s after e =
    let k = reached (u8_at before) (step_of before.offset) (s, after) e in
    let stood = byte_stood before k.0.0 k.0.1 bytes k.1 in
    elim (either (nat_eq k.0.0 1) (put_at k.0.1) _ (Ok (s, after)) k.2) [
      | inl h1 ↦ made_spelled (both id_codes (both u32_codes (both (option_codes value_codes) (option_codes value_codes))))
          (λ t. Put t.0 t.1.0 t.1.1.0 t.1.1.1) 1 IsStep step_encoding (λ t is. is) (λ t is. refl) before k.0.1 after s bytes (stood 1 h1.0) h1.1
      | inr h1 ↦
          elim (either (nat_eq k.0.0 2) (ins_at k.0.1) _ (Ok (s, after)) h1.1) [
            | inl h2 ↦ made_spelled (both id_codes (both u32_codes (both u32_codes value_codes)))
                (λ t. Ins t.0 t.1.0 t.1.1.0 t.1.1.1) 2 IsStep step_encoding (λ t is. is) (λ t is. refl) before k.0.1 after s bytes (stood 2 h2.0) h2.1
            | inr h2 ↦
                elim (either (nat_eq k.0.0 3) (del_at k.0.1) _ (Ok (s, after)) h2.1) [
                  | inl h3 ↦ made_spelled (both id_codes (both u32_codes (both u32_codes value_codes)))
                      (λ t. Del t.0 t.1.0 t.1.1.0 t.1.1.1) 3 IsStep step_encoding (λ t is. is) (λ t is. refl) before k.0.1 after s bytes
                      (stood 3 h3.0) h3.1
                  | inr h3 ↦
                      elim (either (nat_eq k.0.0 4) (shift_at k.0.1) _ (Ok (s, after)) h3.1) [
                        | inl h4 ↦ made_spelled (both id_codes (both u32_codes (both u32_codes u32_codes)))
                            (λ t. Shift t.0 t.1.0 t.1.1.0 t.1.1.1) 4 IsStep step_encoding (λ t is. is) (λ t is. refl) before k.0.1 after s bytes
                            (stood 4 h4.0) h4.1
                        | inr h4 ↦
                            elim (either (nat_eq k.0.0 5) (link_at k.0.1) _ (Ok (s, after)) h4.1) [
                              | inl h5 ↦ made_spelled (both id_codes (both u32_codes (both u64_codes (both id_codes (option_codes u64_codes)))))
                                  (λ t. Link t.0 t.1.0 t.1.1.0 t.1.1.1.0 t.1.1.1.1) 5 IsStep step_encoding (λ t is. is)
                                  (λ t is. refl) before k.0.1 after s bytes (stood 5 h5.0) h5.1
                              | inr h5 ↦
                                  elim (either (nat_eq k.0.0 6) (unlink_at k.0.1) _ (Ok (s, after)) h5.1) [
                                    | inl h6 ↦ made_spelled (both id_codes (both u32_codes (both u64_codes (both id_codes (option_codes u64_codes)))))
                                        (λ t. Unlink t.0 t.1.0 t.1.1.0 t.1.1.1.0 t.1.1.1.1) 6 IsStep step_encoding (λ t is. is)
                                        (λ t is. refl) before k.0.1 after s bytes (stood 6 h6.0) h6.1
                                    | inr h6 ↦
                                        elim (either (nat_eq k.0.0 7) (rerank_row_at k.0.1) _ (Ok (s, after)) h6.1) [
                                          | inl h7 ↦ made_spelled (both id_codes (both u32_codes (both id_codes (both u64_codes u64_codes))))
                                              (λ t. RerankRow t.0 t.1.0 t.1.1.0 t.1.1.1.0 t.1.1.1.1) 7 IsStep step_encoding (λ t is. is)
                                              (λ t is. refl) before k.0.1 after s bytes (stood 7 h7.0) h7.1
                                          | inr h7 ↦
                                              elim (either (nat_eq k.0.0 8) (new_at k.0.1) _ (Ok (s, after)) h7.1) [
                                                | inl h8 ↦ made_spelled (both id_codes (both u32_codes (both place_codes u64_codes)))
                                                    (λ t. New t.0 t.1.0 t.1.1.0 t.1.1.1) 8 IsStep step_encoding (λ t is. is)
                                                    (λ t is. refl) before k.0.1 after s bytes (stood 8 h8.0) h8.1
                                                | inr h8 ↦
                                                    elim (either (nat_eq k.0.0 9) (gone_at k.0.1) _ (Ok (s, after)) h8.1) [
                                                      | inl h9 ↦ made_spelled (both id_codes (both u32_codes (both place_codes u64_codes)))
                                                          (λ t. Gone t.0 t.1.0 t.1.1.0 t.1.1.1) 9 IsStep step_encoding (λ t is. is)
                                                          (λ t is. refl) before k.0.1 after s bytes (stood 9 h9.0) h9.1
                                                      | inr h9 ↦
                                                          elim (either (nat_eq k.0.0 10) (move_at k.0.1) _ (Ok (s, after)) h9.1) [
                                                            | inl h10 ↦ made_spelled
                                                                (both id_codes
                                                                (both place_codes
                                                                (both u64_codes
                                                                (both place_codes
                                                                (both u64_codes (both (list_codes id_codes) (list_codes id_codes)))))))
                                                                (λ t. Move t.0 t.1.0 t.1.1.0 t.1.1.1.0 t.1.1.1.1.0 t.1.1.1.1.1.0 t.1.1.1.1.1.1) 10
                                                                IsStep step_encoding (λ t is. is) (λ t is. refl) before k.0.1 after s bytes
                                                                (stood 10 h10.0) h10.1
                                                            | inr h10 ↦
                                                                elim (either (nat_eq k.0.0 11) (rerank_place_at k.0.1) _ (Ok (s, after)) h10.1) [
                                                                  | inl h11 ↦ made_spelled (both id_codes (both u64_codes u64_codes))
                                                                      (λ t. RerankPlace t.0 t.1.0 t.1.1) 11 IsStep step_encoding (λ t is. is)
                                                                      (λ t is. refl) before k.0.1 after s bytes (stood 11 h11.0) h11.1
                                                                  | inr h11 ↦
                                                                      cc
                                                                ]
                                                          ]
                                                    ]
                                              ]
                                        ]
                                  ]
                            ]
                      ]
                ]
          ]
    ]

pub step_codes : Codes IsStep step_encoding step_at
step_codes = record { again = step_again; spelled = step_spelled }
