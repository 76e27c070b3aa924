-- Cells that no list has don't meet.
use Rattle.std.proofs.Common.{◌≡◌, ℕ, ◌%◌, Bool, false, ◌||◌, List, [], ◌∷◌, refl, sym, ap, ◌∙◌, length}
use Rattle.std.specs.List.{Contains, list_any}
use Rattle.std.specs.declared.vec.Vec.{Vec}
use Rattle.std.specs.declared.alloc.Global.{Global}
use Rattle.std.proofs.lemmas.List.Elements.{Contains-append_left, Contains-append_right, Contains-push}
use Rattle.finite_maps.proofs.Cases.{not_so}
use Rattle.model_laws.specs.Cells.{cell_eq}
use Rattle.footprint.specs.declared.cell.Cell.{Cell as Held}
use Rattle.footprint.specs.Interference.{meets}
use Rattle.footprint.specs.Prints.{seen, cells, holds}
use Rattle.footprint.proofs.Held.{held_meets}
use Rattle.footprint.proofs.Pairs.{cell_exact}
use Rattle.cell_index.specs.Keys.{cell_key}
use Rattle.cell_index.specs.Near.{list_at, row_of}

none_of : {X : Type 0} (test : X → Bool) (xs : List X) → ((x : X) → Contains xs x → test x ≡ false) → list_any test xs ≡ false
none_of test [] out = refl
none_of test (x ∷ xs) out =
    ap (λ b. b || list_any test xs) (out x (Contains-append_left (x ∷ []) xs x (Contains-push [] x)))
    ∙ none_of test xs (λ y h. out y (Contains-append_right (x ∷ []) xs y h))

-- lists of cells none of which are the same
pub apart : (list other : List Held) → ((h g : Held) → Contains list h → Contains other g → seen h ≡ seen g → ⊥) → meets (cells list) (cells other) ≡ false
apart list other out = sym (held_meets list other) ∙ none_of (λ h. holds other (seen h)) list
    (λ h in_list. none_of (λ g. cell_eq (seen h) (seen g)) other
    (λ g in_other. not_so (cell_eq (seen h) (seen g)) (λ e. out h g in_list in_other (cell_exact (seen h) (seen g) e))))

-- the same cell has the same row
pub row_same : (t : List (Vec ℕ Global)) (h g : Held) → seen h ≡ seen g → row_of t h ≡ row_of t g
row_same t h g e = ap (λ c. list_at t (cell_key c % length t)) e
