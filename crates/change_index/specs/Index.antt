-- What an index answers: contracts see it as the pairs that each version wrote.
use Rattle.std.specs.Prelude.{◌≡◌, ℕ, Bool, false, List, map, slice_get}
use Rattle.std.specs.List.{list_any}
use Rattle.std.specs.Option.{option_map_or}
use Rattle.std.specs.FinSet.{contains}
use Rattle.ecore_meta.specs.Meta.{Meta}
use Rattle.model_state.specs.Keys.{IdBytes}
use Rattle.history_tree.specs.declared.version.Version.{Version}
use Rattle.history_tree.specs.Laws.{Rises}
use Rattle.history_tree.specs.MergeBase.{is_among}
use Rattle.change_index.specs.Written.{Pairs, written}

-- did the version of that number write the feature
abbrev pub wrote_in : List Pairs → IdBytes → ℕ → ℕ → Bool
wrote_in index e f u = option_map_or (λ pairs. contains pairs (e, f)) (slice_get index u) false

-- the index to which the versions were added, one after another
abbrev pub index_of : Meta → List Version → List Pairs
index_of meta versions = map (λ version. written meta version.«package») versions

-- The features rise. They are those of the element that a version of the path wrote.
pub record AreFeatures (index : List Pairs) (path : List ℕ) (e : IdBytes) (features : List ℕ) : Type 0 where
  pub rise : Rises features
  pub those : (f : ℕ) → is_among features f ≡ list_any (wrote_in index e f) path
