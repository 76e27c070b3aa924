-- The elements of a list with their ranks, and the list that they are.
use Rattle.std.specs.Prelude.{ℕ, List, map, Option, None, Some, cond}
use Rattle.std.specs.FinMap.{FinMap, code, entries}
use Rattle.std.specs.Coded.{Coded, coded_ℕ, coded_list}
use Rattle.finite_maps.specs.Sorts.{in_order}
use Rattle.model_state.specs.declared.entry.Entry.{Entry}
use Rattle.model_state.specs.declared.step.Place.{Place}
use Rattle.model_state.specs.declared.step.Placed.{Placed}
use Rattle.model_state.specs.State.{place_eq}
use Rattle.model_state.specs.Keys.{IdBytes, id_cmp}
use Rattle.model_state.specs.Listing.{entry_cmp}

-- the code of an id
abbrev pub coded_id : Coded IdBytes
coded_id = coded_list coded_ℕ

-- the elements of a list and their ranks
abbrev pub Ranks : Type 0
Ranks = FinMap id_cmp ℕ

-- the code of these
abbrev pub ranks_code : Coded Ranks
ranks_code = code coded_id coded_ℕ

-- the entry of an element with its rank
abbrev pub ranked_entry : IdBytes × ℕ → Entry
ranked_entry e = record { rank = e.1; id = e.0 }

-- the list: its entries by rank and then by id
abbrev pub entries_by_rank : Ranks → List Entry
entries_by_rank m = in_order entry_cmp (map ranked_entry (entries m))

-- the rank in a place of the element that stands as given
abbrev pub stood : Place → Option Placed → Option ℕ
stood p None = None
stood p (Some x) = cond (place_eq p x.place) (Some x.rank) None
