-- The number of a cell, by which a table lists it.
use Rattle.std.specs.Prelude.{ℕ, ◌+◌, ◌*◌, ◌%◌, List, [], ◌∷◌}
use Rattle.model_laws.specs.Cells.{Cell, OfKind, OfPlace, OfRank, OfAttr, OfRow, OfWhole, About}

-- the numbers of texts are below this prime
abbrev pub key_range : ℕ
key_range = 1000003

-- by this the number of a text is multiplied before a byte is added
abbrev pub text_factor : ℕ
text_factor = 31

-- by this the number of a target is multiplied
abbrev pub target_factor : ℕ
target_factor = 17

-- by this the number of a feature is multiplied
abbrev pub feature_factor : ℕ
feature_factor = 613

-- there is room for so many sorts of cells
abbrev pub sorts : ℕ
sorts = 8

-- the number of a text, from the one so far
abbrev pub text_key : ℕ → List ℕ → ℕ
text_key n [] = n
text_key n (b ∷ bs) = text_key ((n * text_factor + b) % key_range) bs

-- the number of a cell
abbrev pub cell_key : Cell → ℕ
cell_key (OfKind e) = text_key 0 e * sorts
cell_key (OfPlace e) = text_key 0 e * sorts + 1
cell_key (OfRank e) = text_key 0 e * sorts + 2
cell_key (OfAttr e f) = (text_key 0 e + f * feature_factor) * sorts + 3
cell_key (OfRow a f b) = (text_key 0 a + text_key 0 b * target_factor + f * feature_factor) * sorts + 4
cell_key (OfWhole a f) = (text_key 0 a + f * feature_factor) * sorts + 5
cell_key (About e) = 0
