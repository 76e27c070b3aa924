-- The lines that show the versions of a history, and the package of one.
use Rattle.std.specs.Prelude.{ℕ, suc, List, [], ◌∷◌, ◌++◌, codes, length, map}
use Rattle.std.specs.Fmt.{decimal}
use Rattle.serde_json.specs.Data.{string}
use Rattle.serde_json.specs.Written.{compact_text}
use Rattle.hex.specs.Hex.{encode_lower}
use Rattle.ecore_meta.specs.Meta.{Meta}
use Rattle.model_state.specs.declared.operation.Operation.{Operation}
use Rattle.op_form.specs.Packages.{package_encoding}
use Rattle.history_tree.specs.declared.version.Version.{Version}
use Rattle.history_tree.specs.History.{History}
use Rattle.history_tree.specs.Found.{branch_name, tags_of}
use Rattle.shown_lines.specs.Lines.{optional, operation_lines, after_spaces}

-- words, each after a comma
abbrev pub after_commas : List (List ℕ) → List ℕ
after_commas [] = []
after_commas (word ∷ words) = 44 ∷ (word ++ after_commas words)

-- words with commas between them, or `-` where there is none
abbrev pub listed : List (List ℕ) → List ℕ
listed [] = codes "-"
listed (word ∷ words) = word ++ after_commas words

-- The line of the version of the number n: its number, its branch, its parent, and what was merged into it. Then come how many
-- operations it has, its tags, its author, its moment, and its message as JSON.
abbrev pub version_line : History → ℕ → Version → List ℕ
version_line h n v =
    decimal n
    ++ after_spaces (branch_name h v.branch ∷ optional decimal v.parent ∷ listed (map decimal v.merged) ∷ decimal (length v.«package»)
    ∷ listed (tags_of h n) ∷ optional (λ author. author) v.author ∷ optional decimal v.moment ∷ compact_text (string v.message) ∷ [])

-- the lines of versions, the first of them with the number n
abbrev pub version_lines : History → ℕ → List Version → List (List ℕ)
version_lines h n [] = []
version_lines h n (v ∷ vs) = version_line h n v ∷ version_lines h (suc n) vs

-- the lines of all versions
unfoldable pub log_lines : History → List (List ℕ)
log_lines h = version_lines h 0 h.versions

-- the lines of a package, and then `hex` with its bytes
unfoldable pub package_lines : Meta → List Operation → List (List ℕ)
package_lines meta operations = operation_lines meta operations ++ (codes "hex " ++ encode_lower (package_encoding operations)) ∷ []
