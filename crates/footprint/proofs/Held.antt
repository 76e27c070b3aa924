-- Cells as the code holds them, against the cells that they are.
use Rattle.std.proofs.Common.{◌≡◌, Bool, List, [], ◌∷◌, ◌++◌, ◌||◌, refl, ap, ◌∙◌, map}
use Rattle.std.proofs.lemmas.List.{map-append}
use Rattle.std.specs.List.{list_any}
use Rattle.ecore_meta.specs.Meta.{Meta}
use Rattle.model_state.specs.declared.operation.Operation.{Operation}
use Rattle.model_laws.specs.Cells.{Cell, cell_eq, has}
use Rattle.footprint.specs.declared.cell.Cell.{Cell as Held}
use Rattle.footprint.specs.declared.cell.Print.{Print}
use Rattle.footprint.specs.Interference.{op_writes, op_reads, meets, cells_interfere, interferes}
use Rattle.footprint.proofs.Pairs.{meets_turned}
use Rattle.footprint.specs.Prints.{seen, cells, holds, hold_one}

pub cells_more : (list : List Held) (h : Held) → cells (list ++ h ∷ []) ≡ cells list ++ seen h ∷ []
unfolding cells
cells_more list h = map-append seen list (h ∷ [])

any_seen : (p : Cell → Bool) (list : List Held) → list_any (λ h. p (seen h)) list ≡ list_any p (map seen list)
any_seen p [] = refl
any_seen p (h ∷ list) = ap (λ b. p (seen h) || b) (any_seen p list)

pub held_has : (list : List Held) (c : Cell) → holds list c ≡ has (cells list) c
unfolding cells
held_has list c = any_seen (cell_eq c) list

pub held_meets : (list other : List Held) → hold_one list other ≡ meets (cells list) (cells other)
unfolding cells
held_meets [] other = refl
held_meets (h ∷ list) other = λ i. held_has other (seen h) i || held_meets list other i

pub held_turned : (list other : List Held) → hold_one other list ≡ meets (cells list) (cells other)
held_turned list other = held_meets other list ∙ meets_turned (cells other) (cells list)

-- the prints of two operations show whether they interfere
pub prints_tell : (meta : Meta) (o p : Operation) (a b : Print) → cells a.writes ≡ op_writes meta o → cells a.reads ≡ op_reads o
    → cells b.writes ≡ op_writes meta p → cells b.reads ≡ op_reads p
    → cells_interfere (cells a.writes) (cells a.reads) (cells b.writes) (cells b.reads) ≡ interferes meta o p
unfolding interferes
prints_tell meta o p a b aw ar bw br = λ i. cells_interfere (aw i) (ar i) (bw i) (br i)
