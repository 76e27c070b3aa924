-- The last of a list, and items counted from its end.
use Rattle.std.proofs.Common.{◌≡◌, ℕ, ◌+◌, ◌-◌, ◌<◌, ◌≤◌, suc, zero, List, [], ◌∷◌, ◌++◌, refl, sym, ap, ◌∙◌, arith, length, append_assoc, length-append}
use Rattle.std.specs.Prelude.{Option, None, Some, slice_get, unwrap_or}
use Rattle.std.specs.Borrow.{Bor}
use Rattle.std.specs.Iterator.{Yields, SkipsThenYields}
use Rattle.std.specs.Map.Iter.{TakesLast, deref}
use Rattle.std.specs.Option.{option_map}
use Rattle.model_state.specs.declared.entry.Entry.{Entry}
use Rattle.model_state.specs.Listing.{last_rank}

no_more : {A : Type 0} (ys : List A) → suc 0 ≡ suc (length ys) → ys ≡ []
no_more [] h = refl
no_more (y ∷ ys) h = absurd (omega (arith, h))

last_at : (xs : List Entry) (n : ℕ) (x : Entry) → suc n ≡ length xs → slice_get xs n ≡ Some x → last_rank xs ≡ Some x.rank
last_at [] n x len is = absurd (omega (arith, len))
last_at (y ∷ ys) zero x len is = ap (λ zs. Some (unwrap_or (last_rank zs) y.rank)) (no_more ys len) ∙ ap (option_map (λ (z : Entry). z.rank)) is
last_at (y ∷ ys) (suc n) x len is = ap (λ o. Some (unwrap_or o y.rank)) (last_at ys n x (omega (arith, len)) is)

-- the rank of the last of a list
pub last_entry : (xs : List Entry) (x : Entry) → slice_get xs (length xs - 1) ≡ Some x → last_rank xs ≡ Some x.rank
last_entry [] x is = cc
last_entry (y ∷ ys) x is = last_at (y ∷ ys) (length (y ∷ ys) - 1) x (omega arith) is

module _ {A : Type 0} where
  pub no_items : (xs : List A) → (0 < length xs → ⊥) → xs ≡ []
  no_items [] h = refl
  no_items (x ∷ xs) h = absurd (h (omega arith))

  -- nothing past the last
  pub past_end : (xs : List A) (n : ℕ) → length xs ≤ n → slice_get xs n ≡ None
  past_end [] n h = refl
  past_end (x ∷ xs) zero h = absurd (omega (arith, h))
  past_end (x ∷ xs) (suc n) h = past_end xs n (omega (arith, h))

  append_none : (xs : List A) → xs ++ [] ≡ xs
  append_none [] = refl
  append_none (x ∷ xs) = ap (λ l. x ∷ l) (append_none xs)

  after_front : (u zs : List A) (x : A) → slice_get ((u ++ x ∷ []) ++ zs) (length u) ≡ Some x
  after_front [] zs x = refl
  after_front (y ∷ u) zs x = after_front u zs x

  -- what calls of `next_back` left, and what they took
  left_of : (xs : List (Bor A)) (s t : List A) → Yields (TakesLast (deref {X = A})) s xs t → (zs : List A) × (s ≡ t ++ zs) × (length zs ≡ length xs)
  left_of [] s t same = ([], same ∙ sym (append_none t), refl)
  left_of (x ∷ xs) s t steps =
      let rest = left_of xs steps.0 t steps.2 in (
        rest.0 ++ x.now ∷ [],
        steps.1 ∙ ap (λ l. l ++ x.now ∷ []) rest.1 ∙ append_assoc t rest.0 (x.now ∷ []),
        length-append rest.0 (x.now ∷ [])
            ∙ (one_more (length rest.0)) ∙ ap suc rest.2,
      )
    where
      one_more : (n : ℕ) → n + 1 ≡ suc n
      one_more n = omega arith

  -- the item that `nth_back` gives
  pub nth_back_is : (s u : List A) (index n : ℕ) (r : Option (Bor A)) → SkipsThenYields (TakesLast (deref {X = A})) s n r u → index + suc n ≡ length s
      → option_map (λ x. x.now) r ≡ slice_get s index
  nth_back_is s u index n None ran sum =
      let left = left_of ran.0 s ran.1.0 ran.1.1 in
      let empty : length ran.1.0 ≡ 0 = ap length ran.1.2.0 in
      let size : length s ≡ length ran.1.0 + length left.0 = ap length left.1 ∙ length-append ran.1.0 left.0 in
      absurd (omega (arith, empty, size, left.2, ran.2, sum))
  nth_back_is s u index n (Some x) ran sum =
      let t = ran.1.0 in
      let left = left_of ran.0 s t ran.1.1 in
      let whole : s ≡ (u ++ x.now ∷ []) ++ left.0 = left.1 ∙ ap (λ l. l ++ left.0) ran.1.2 in
      let size : length s ≡ (length u + 1) + length left.0 =
      ap length whole ∙ length-append (u ++ x.now ∷ []) left.0 ∙ ap (λ k. k + length left.0) (length-append u (x.now ∷ [])) in
      let place : length u ≡ index = omega (arith, size, left.2, ran.2, sum) in
      sym (ap (λ l. slice_get l index) whole ∙ ap (slice_get ((u ++ x.now ∷ []) ++ left.0)) (sym place) ∙ after_front u left.0 x.now)
