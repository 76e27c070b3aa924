-- Which version of a path wrote a feature of an element last, and the lines that say so.
use Rattle.std.specs.Prelude.{ℕ, List, ◌++◌, codes, length, filter_map, option_map, Option}
use Rattle.std.specs.Fmt.{decimal}
use Rattle.std.specs.List.{range_with_len}
use Rattle.ecore_meta.specs.Meta.{Meta}
use Rattle.metamodel_growth.specs.Extension.{full_name}
use Rattle.model_state.specs.Keys.{IdBytes}
use Rattle.history_tree.specs.History.{History, path}
use Rattle.history_tree.specs.States.{package_of_version}
use Rattle.change_index.specs.Last.{last_of}
use Rattle.change_index.specs.Written.{wrote}

-- the last version on a version's path whose operations wrote the feature, or none
abbrev pub last_write : Meta → History → ℕ → IdBytes → ℕ → Option ℕ
last_write meta h v e f = last_of (λ u. wrote meta (package_of_version h.versions u) e f) (path h v)

-- a feature with the class that declares it, and the version that wrote it last
abbrev pub blame_line : Meta → ℕ → ℕ → List ℕ
blame_line meta f u = full_name meta f ++ (codes " " ++ decimal u)

-- the lines of the features for which there is a version, by number
abbrev pub lines_by : Meta → (ℕ → Option ℕ) → List (List ℕ)
lines_by meta last = filter_map (λ f. option_map (blame_line meta f) (last f)) (range_with_len 0 (length meta.features))

-- those of the features that some version on the path of v wrote
abbrev pub blame_lines : Meta → History → ℕ → IdBytes → List (List ℕ)
blame_lines meta h v e = lines_by meta (last_write meta h v e)
