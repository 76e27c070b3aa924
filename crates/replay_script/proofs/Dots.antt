-- The line that ends a block, as a test of its bytes.
use Rattle.std.proofs.Common.{◌≡◌, ℕ, ◌==◌, ◌&&◌, List, [], ◌∷◌, length, slice_index, refl, arith}
use Rattle.std.proofs.lemmas.Grind.{common_steps}
use Rattle.host_port.specs.Cut.{is_dot}

-- one byte, and that a dot
pub is_dot_of : (line : List ℕ) → is_dot line ≡ ((length line == 1) && (slice_index line 0 == 46))
is_dot_of [] = refl
is_dot_of (b ∷ []) = refl
is_dot_of (b ∷ c ∷ bs) = grind (arith, common_steps)
