-- What the parts of a model are seen as, with their codes.
use Rattle.std.specs.Prelude.{ℕ, List, refl}
use Rattle.std.specs.FinMap.{FinMap, code}
use Rattle.std.specs.Coded.{Coded, code_by, coded×, coded_ℕ, coded_list}
use Rattle.ecore_meta.specs.declared.meta.Value.{Value}
use Rattle.ecore_meta.specs.contracts.meta.Value as value_type
use Rattle.model_state.specs.declared.step.Place.{Place}
use Rattle.model_state.specs.contracts.step.Place as place_type
use Rattle.model_state.specs.Keys.{IdBytes, id_cmp, attr_cmp, row_cmp}
use Rattle.ranked_lists.specs.Ranks.{coded_id}

-- where elements stand, and their ranks there
pub record Spots : Type 0 where
  pub place : FinMap id_cmp Place
  pub rank : FinMap id_cmp ℕ

-- the code of where elements stand
abbrev pub spots_code : Coded Spots
spots_code = code_by (FinMap id_cmp Place × FinMap id_cmp ℕ) (coded× (code coded_id place_type.the_row.coded) (code coded_id coded_ℕ))
    (λ s. (s.place, s.rank)) (λ p. record { place = p.0; rank = p.1 }) (λ _. refl)

-- the values of each attribute that is set
abbrev pub Values : Type 0
Values = FinMap attr_cmp (List Value)

-- the code of those values
abbrev pub values_code : Coded Values
values_code = code (coded× coded_id coded_ℕ) (coded_list value_type.the_row.coded)

-- the rank of each row
abbrev pub RowRanks : Type 0
RowRanks = FinMap row_cmp ℕ

-- the code of those ranks
abbrev pub ranks_code : Coded RowRanks
ranks_code = code (code_by (IdBytes × (ℕ × IdBytes)) (coded× coded_id (coded× coded_ℕ coded_id)) (λ k. (k.0, (k.1, k.2))) (λ p. (p.0, p.1.0, p.1.1))
    (λ _. refl)) coded_ℕ
