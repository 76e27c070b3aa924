-- What maps tell of where targets stand in their lists.
use Rattle.std.specs.Prelude.{◌≡◌, ℕ, List, Some}
use Rattle.std.specs.BTreeMap.{BTreeMap, get}
use Rattle.std.specs.Ordering.{nat_cmp}
use Rattle.model_documents.specs.Finder.{place_cmp}
use Rattle.model_documents.specs.Completed.{targets_at}
use Rattle.model_documents.specs.declared.doc.DocRow.{DocRow}
use Rattle.import_laws.specs.Links.{index_in, refs_at}

-- what the map has for a number is where that stands first in the list
abbrev pub Tells : BTreeMap ℕ ℕ → List ℕ → Type 0
Tells m list = (n k : ℕ) → get nat_cmp m n ≡ Some k → index_in n list ≡ k

-- so it is of each map, for the list of its row and feature
abbrev pub TellAll : BTreeMap (ℕ × ℕ) (BTreeMap ℕ ℕ) → List DocRow → Type 0
TellAll lists rows = (b g : ℕ) (m : BTreeMap ℕ ℕ) → get place_cmp lists (b, g) ≡ Some m → Tells m (targets_at g (refs_at rows b))
