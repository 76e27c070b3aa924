-- The orders of the keys of a state.
use Rattle.std.specs.Prelude.{ℕ, List}
use Rattle.std.specs.declared.cmp.Ordering.{Ordering}
use Rattle.std.specs.Ordering.{nat_cmp, ordering_then}
use Rattle.std.specs.Cmp.Lexicographic.{slice_cmp}

-- an id is seen as its bytes, and ids stand in the order of their bytes
abbrev pub IdBytes : Type 0
IdBytes = List ℕ

-- the order of ids
abbrev pub id_cmp : IdBytes → IdBytes → Ordering
id_cmp = slice_cmp nat_cmp

-- an element and a feature
abbrev pub AttrKey : Type 0
AttrKey = IdBytes × ℕ

-- by the element, and then by the feature
abbrev pub attr_cmp : AttrKey → AttrKey → Ordering
attr_cmp x y = ordering_then (id_cmp x.0 y.0) (nat_cmp x.1 y.1)

-- a source, a feature and a target
abbrev pub RowKey : Type 0
RowKey = IdBytes × ℕ × IdBytes

-- by the source, then by the feature, then by the target
abbrev pub row_cmp : RowKey → RowKey → Ordering
row_cmp x y = ordering_then (ordering_then (id_cmp x.0 y.0) (nat_cmp x.1 y.1)) (id_cmp x.2 y.2)
