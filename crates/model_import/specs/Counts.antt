-- How many rows stand in each place that is not the root.
use Rattle.std.specs.Prelude.{◌≡◌, ℕ, ◌+◌, cond, List, Option, None, Some}
use Rattle.std.specs.Map.{count_at}
use Rattle.std.specs.BTreeMap.{BTreeMap, get}
use Rattle.finite_maps.specs.Equal.{option_eq}
use Rattle.model_documents.specs.declared.doc.DocParent.{DocParent}
use Rattle.model_documents.specs.declared.doc.DocRow.{DocRow}
use Rattle.model_documents.specs.Finder.{place_cmp}
use Rattle.model_documents.specs.Places.{parent_eq}
use Rattle.model_documents.specs.Fits.{standing}

-- how many rows the map counts in a place, none at the root
abbrev pub counted : BTreeMap (ℕ × ℕ) ℕ → Option DocParent → ℕ
counted counts None = 0
counted counts (Some p) = count_at (get place_cmp counts) (p.row, p.feature)

-- the counts of rows
abbrev pub Counts : BTreeMap (ℕ × ℕ) ℕ → List DocRow → Type 0
Counts counts rows = (q : DocParent) → counted counts (Some q) ≡ standing (Some q) rows

-- the other counts are one more in the place
abbrev pub CountsAlso : BTreeMap (ℕ × ℕ) ℕ → Option DocParent → BTreeMap (ℕ × ℕ) ℕ → Type 0
CountsAlso counts parent more = (q : DocParent) → counted more (Some q) ≡ counted counts (Some q) + cond (option_eq parent_eq parent (Some q)) 1 0
