-- What the key of a plain reference gives, before its targets are looked up.
use Rattle.std.specs.Prelude.{ℕ, Bool, ◌&&◌, cond, List, [], ◌∷◌, Option, None, is_some, map, codes, option_and_then}
use Rattle.serde_json.specs.Data.{Data}
use Rattle.serde_json.specs.Find.{get, as_array, as_str}
use Rattle.ecore_meta.specs.Names.{Name}
use Rattle.model_documents.specs.Attributes.{is_null, elements}
use Rattle.model_documents.specs.Parts.{Part, no_part}

-- the text at `$ref`
abbrev pub entry_of : Data → Option Name
entry_of d = option_and_then as_str (get (codes "$ref") d)

-- the entries under a key; an array is no entry of a single reference
abbrev pub entries_of : Bool → Data → List (Option Name)
entries_of single d = cond (single && is_some (as_array d)) (None ∷ []) (map entry_of (elements d))

-- one reference with its entries; null gives none
abbrev pub links_part : ℕ → Bool → Data → Part
links_part f single d = cond (is_null d) no_part (record no_part { links = record { feature = f; entries = entries_of single d } ∷ [] })
