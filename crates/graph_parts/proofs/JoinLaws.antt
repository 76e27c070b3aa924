-- A list of values in pieces: what a change of one piece does to the whole.
use Rattle.std.proofs.Common.{◌≡◌, ◌≤◌, ◌<◌, ◌+◌, ◌-◌, ◌++◌, ◌∷◌, ℕ, zero, suc, List, [], refl, sym, ap, ◌∙◌, length, take, drop, set, get_or, arith}
use Rattle.std.proofs.Common.{append-nil}
use Rattle.std.specs.Prelude.{Bool, ◌||◌, None, slice_get}
use Rattle.std.specs.List.{insert, remove, list_any}
use Rattle.std.proofs.lemmas.List.{take-append-drop, append_assoc, length-append, get_or_default}
use Rattle.std.proofs.lemmas.List.Edits.{insert-append_left, insert-append_right, remove-append_left, remove-append_right}
use Rattle.std.proofs.lemmas.List.Folds.{list_any-append}
use Rattle.ecore_meta.specs.declared.meta.Value.{Value}
use Rattle.graph_parts.specs.Pieces.{joined}

abbrev pub Many : Type 0
Many = List (List Value)

-- how many values stand before a piece
abbrev pub before : Many → ℕ → ℕ
before ps k = length (joined (take k ps))

append_left : (p l : List Value) (i : ℕ) → i < length p → slice_get (p ++ l) i ≡ slice_get p i
append_left [] l i h = absurd (omega (arith, h))
append_left (x ∷ p) l zero h = refl
append_left (x ∷ p) l (suc i) h = append_left p l i (omega (arith, h))

append_right : (p l : List Value) (i : ℕ) → slice_get (p ++ l) (length p + i) ≡ slice_get l i
append_right [] l i = ap (slice_get l) (omega arith)
append_right (x ∷ p) l i =
    let next : length (x ∷ p) + i ≡ suc (length p + i) = omega arith in
    ap (slice_get ((x ∷ p) ++ l)) next ∙ append_right p l i

-- the value at an index of a piece
pub read_piece : (ps : Many) (k i : ℕ) → k < length ps → i < length (get_or ps k []) → slice_get (joined ps) (before ps k + i) ≡ slice_get (get_or ps k []) i
read_piece [] k i h w = absurd (omega (arith, h))
read_piece (p ∷ ps) zero i h w = ap (slice_get (p ++ joined ps)) (omega arith) ∙ append_left p (joined ps) i w
read_piece (p ∷ ps) (suc k) i h w =
    let n : length (p ++ joined (take k ps)) ≡ length p + before ps k = length-append p (joined (take k ps)) in
    let e : length p + before ps k + i ≡ length p + (before ps k + i) = omega arith in
    ap (λ m. slice_get (p ++ joined ps) (m + i)) n
    ∙ ap (slice_get (p ++ joined ps)) e
    ∙ append_right p (joined ps) (before ps k + i)
    ∙ read_piece ps k i (omega (arith, h)) w

-- a value put into a piece comes into the whole
pub insert_piece : (ps : Many) (k i : ℕ) (v : Value) → k < length ps → i ≤ length (get_or ps k [])
    → joined (set ps k (insert (get_or ps k []) i v)) ≡ insert (joined ps) (before ps k + i) v
insert_piece [] k i v h w = absurd (omega (arith, h))
insert_piece (p ∷ ps) zero i v h w = sym (insert-append_left p (joined ps) i v w) ∙ ap (λ j. insert (p ++ joined ps) j v) (omega arith)
insert_piece (p ∷ ps) (suc k) i v h w =
    let n : length (p ++ joined (take k ps)) ≡ length p + before ps k = length-append p (joined (take k ps)) in
    ap (λ l. p ++ l) (insert_piece ps k i v (omega (arith, h)) w)
    ∙ ap (λ j. p ++ insert (joined ps) j v) (omega arith)
    ∙ sym (insert-append_right p (joined ps) (length p) (length p + before ps k + i) v refl (omega arith))
    ∙ ap (λ m. insert (p ++ joined ps) (m + i) v) (sym n)

-- a value taken out of a piece goes from the whole
pub remove_piece : (ps : Many) (k i : ℕ) → k < length ps → i < length (get_or ps k [])
    → joined (set ps k (remove (get_or ps k []) i)) ≡ remove (joined ps) (before ps k + i)
remove_piece [] k i h w = absurd (omega (arith, h))
remove_piece (p ∷ ps) zero i h w = sym (remove-append_left p (joined ps) i w) ∙ ap (λ j. remove (p ++ joined ps) j) (omega arith)
remove_piece (p ∷ ps) (suc k) i h w =
    let n : length (p ++ joined (take k ps)) ≡ length p + before ps k = length-append p (joined (take k ps)) in
    ap (λ l. p ++ l) (remove_piece ps k i (omega (arith, h)) w)
    ∙ ap (λ j. p ++ remove (joined ps) j) (omega arith)
    ∙ sym (remove-append_right p (joined ps) (length p) (length p + before ps k + i) refl (omega arith))
    ∙ ap (λ m. remove (p ++ joined ps) (m + i)) (sym n)

-- a piece without values may go
pub without_empty : (ps : Many) (k : ℕ) → k < length ps → get_or ps k [] ≡ [] → joined (remove ps k) ≡ joined ps
without_empty [] k h e = absurd (omega (arith, h))
without_empty (p ∷ ps) zero h e = ap (λ l. l ++ joined ps) (sym e)
without_empty (p ∷ ps) (suc k) h e = ap (λ l. p ++ l) (without_empty ps k (omega (arith, h)) e)

-- a piece cut in two
pub cut_piece : (ps : Many) (k at : ℕ) → k < length ps → joined (insert (set ps k (take at (get_or ps k []))) (suc k) (drop at (get_or ps k []))) ≡ joined ps
cut_piece [] k at h = absurd (omega (arith, h))
cut_piece (p ∷ ps) zero at h =
    sym (append_assoc (take at p) (drop at p) (joined ps)) ∙ ap (λ l. l ++ joined ps) (take-append-drop at p)
cut_piece (p ∷ ps) (suc k) at h = ap (λ l. p ++ l) (cut_piece ps k at (omega (arith, h)))

empty : (l : List Value) → length l ≡ 0 → l ≡ []
empty [] none = refl
empty (x ∷ l) none = absurd (omega (arith, none))

module _ (ps : Many) (k : ℕ) (p : List Value) (h : k < length ps) (is : p ≡ get_or ps k p) where
  whole : p ≡ get_or ps k []
  whole = is ∙ get_or_default ps k p [] h

  -- a piece lent, and a value put into it
  pub inserted : (i at : ℕ) (v : Value) (q : List Value) → q ≡ insert p i v → i ≤ length (get_or ps k []) → before ps k + i ≡ at
      → joined (set ps k q) ≡ insert (joined ps) at v
  inserted i at v q made w e =
      ap (λ q. joined (set ps k q)) (made ∙ ap (λ p. insert p i v) whole) ∙ insert_piece ps k i v h w ∙ ap (λ a. insert (joined ps) a v) e

  -- a piece lent, and a value taken out of it
  pub removed : (i at : ℕ) (q : List Value) → q ≡ remove p i → i < length (get_or ps k []) → before ps k + i ≡ at
      → joined (set ps k q) ≡ remove (joined ps) at
  removed i at q made w e =
      ap (λ q. joined (set ps k q)) (made ∙ ap (λ p. remove p i) whole) ∙ remove_piece ps k i h w ∙ ap (λ a. remove (joined ps) a) e

  -- a piece lent, and cut
  pub parted : (at : ℕ) (q rest : List Value) → q ≡ take at p → rest ≡ drop at p → joined (insert (set ps k q) (suc k) rest) ≡ joined ps
  parted at q rest front back =
      ap (λ q. joined (insert (set ps k q) (suc k) rest)) (front ∙ ap (take at) whole)
      ∙ ap (λ r. joined (insert (set ps k (take at (get_or ps k []))) (suc k) r)) (back ∙ ap (drop at) whole)
      ∙ cut_piece ps k at h

  -- a piece read, which has no value
  pub let_go : length p ≡ 0 → joined (remove ps k) ≡ joined ps
  let_go none = without_empty ps k h (sym whole ∙ empty p none)

-- a value is among those of all pieces where it is in one
pub any_joined : (t : Value → Bool) (ps : Many) → list_any (λ (p : List Value). list_any t p) ps ≡ list_any t (joined ps)
any_joined t [] = refl
any_joined t (p ∷ ps) = ap (λ b. list_any t p || b) (any_joined t ps) ∙ sym (list_any-append t p (joined ps))

-- the values of one piece more
pub joined_more : (ps : Many) (i : ℕ) (p : List Value) → i < length ps → p ≡ get_or ps i p → joined (take (i + 1) ps) ≡ joined (take i ps) ++ p
joined_more [] i p h is = absurd (omega (arith, h))
joined_more (q ∷ ps) zero p h is = append-nil q ∙ sym is
joined_more (q ∷ ps) (suc i) p h is =
    let next : suc i + 1 ≡ suc (i + 1) = omega arith in
    ap (λ n. joined (take n (q ∷ ps))) next ∙ ap (λ l. q ++ l) (joined_more ps i p (omega (arith, h)) is) ∙ sym (append_assoc q (joined (take i ps)) p)

-- a value put in, and taken out again
pub removed_again : (vs : List Value) (at : ℕ) (v : Value) → at ≤ length vs → remove (insert vs at v) at ≡ vs
removed_again [] zero v le = refl
removed_again [] (suc at) v le = absurd (omega (arith, le))
removed_again (x ∷ vs) zero v le = refl
removed_again (x ∷ vs) (suc at) v le = ap (λ l. x ∷ l) (removed_again vs at v (omega (arith, le)))

-- a value at an index within is there
pub none_within : (l : List Value) (i : ℕ) → i < length l → slice_get l i ≡ None → ⊥
none_within [] i h is = absurd (omega (arith, h))
none_within (x ∷ l) zero h is = cc
none_within (x ∷ l) (suc i) h is = none_within l i (omega (arith, h)) is
