-- Tables of positions by their labels.
use Rattle.std.specs.Prelude.{◌≡◌, ℕ, ◌<◌, nat_eq, cond, List, [], ◌∷◌, ◌++◌, length}
use Rattle.std.specs.declared.vec.Vec.{Vec}
use Rattle.std.specs.declared.alloc.Global.{Global}
use Rattle.cell_index.specs.Near.{list_at}

-- as many lists: that of the label has the position besides, and the others are as they were
pub record IsPut (old new : List (Vec ℕ Global)) (label place : ℕ) : Type 0 where
  pub size : length new ≡ length old
  pub lists : (l : ℕ) → l < length old → list_at new l ≡ cond (nat_eq label l) (list_at old l ++ place ∷ []) (list_at old l)
