-- What an index of names knows of a list that grows.
use Rattle.std.specs.Prelude.{◌≡◌, ◌≤◌, List, length, map, take}
use Rattle.std.specs.BTreeMap.{get_by_text}
use Rattle.ecore_meta.specs.Names.{Name, number_of}
use Rattle.history_tree.specs.declared.names.NameIndex.{NameIndex}

-- the index has the places of the first names of the list, as many as were entered
abbrev pub Knows : {X : Type 0} → (X → Name) → NameIndex → List X → Type 0
Knows name index xs = (index.entered ≤ length xs) × ((q : Name) → get_by_text index.numbers q ≡ number_of q (map name (take index.entered xs)))
