-- A state as the tuple of its maps.
use Rattle.std.specs.Prelude.{ℕ, List, refl}
use Rattle.std.specs.FinMap.{FinMap, code}
use Rattle.std.specs.Coded.{Coded, code_by, coded×, coded_ℕ, coded_list}
use Rattle.ecore_meta.specs.declared.meta.Value.{Value}
use Rattle.ecore_meta.specs.contracts.meta.Value as value_type
use Rattle.model_state.specs.declared.step.Place.{Place}
use Rattle.model_state.specs.contracts.step.Place as place_type
use Rattle.model_state.specs.Keys.{IdBytes, RowKey, id_cmp, attr_cmp, row_cmp}
use Rattle.model_state.specs.State.{State}
use Rattle.ranked_lists.specs.Ranks.{coded_id}

-- the code of a row's key
abbrev pub coded_row : Coded RowKey
coded_row = code_by (IdBytes × (ℕ × IdBytes)) (coded× coded_id (coded× coded_ℕ coded_id)) (λ k. (k.0, (k.1, k.2))) (λ p. (p.0, p.1.0, p.1.1)) (λ _. refl)

-- the code of a state
abbrev pub state_code : Coded State
state_code = code_by
    (FinMap id_cmp ℕ × (FinMap id_cmp Place × (FinMap id_cmp ℕ × (FinMap attr_cmp (List Value) × FinMap row_cmp ℕ))))
    (coded× (code coded_id coded_ℕ)
    (coded× (code coded_id place_type.the_row.coded)
    (coded× (code coded_id coded_ℕ) (coded× (code (coded× coded_id coded_ℕ) (coded_list value_type.the_row.coded)) (code coded_row coded_ℕ)))))
    (λ s. (s.kind, (s.place, (s.prank, (s.attr, s.row)))))
    (λ p. record { kind = p.0; place = p.1.0; prank = p.1.1.0; attr = p.1.1.1.0; row = p.1.1.1.1 })
    (λ _. refl)
