-- Evicting the entries that were used least recently, one after another.
use Rattle.std.proofs.Common.{◌≡◌, ℕ, zero, suc, ◌+◌, ◌-◌, ◌<◌, ◌≤◌, [], ◌∷◌, ◌++◌, length, take, refl, sym, ap, subst, ◌∙◌, arith, length-append}
use Rattle.std.specs.Prelude.{None, Some, slice_get}
use Rattle.std.proofs.lemmas.List.{take-take, length-take, take_all}
use Rattle.page_pool.specs.Frames.{Frames, out_of, free_of, pool_limit}
use Rattle.page_pool.specs.Paged.{PagedState, AreFree, KeepsOthers}
use Rattle.state_cache.specs.Entries.{Entries, held, IsCached, Released, Keeps, Fits}
use Rattle.state_cache.proofs.Listed.{same_some}
use Rattle.state_cache.proofs.Releasing.{Parts, parts_front, parts_after, released_part, released_none, released_then, no_more_than_out}

-- the frames of the last entry, and those of the others
last_at : (ps : Frames) (n : ℕ) (es : Entries) (e : ℕ × PagedState) → length es ≡ suc n → slice_get es n ≡ Some e → IsCached ps es
    → Parts ps (held es) e.1.frames (held (take n es))
last_at ps n [] e size is out = absurd (omega (arith, size))
last_at ps zero (x ∷ []) e size is out =
    let same = same_some x e is in
    subst (λ (y : ℕ × PagedState). Parts ps (x.1.frames ++ []) y.1.frames []) same (parts_front ps x.1.frames [] out)
last_at ps zero (x ∷ y ∷ ys) e size is out = absurd (omega (arith, size))
last_at ps (suc n) (x ∷ xs) e size is out =
    parts_after ps x.1.frames (held xs) e.1.frames (held (take n xs)) out
    (last_at ps n xs e (omega (arith, size)) is (parts_front ps x.1.frames (held xs) out).left_out)

none_last : (es : Entries) (n : ℕ) → n < length es → slice_get es n ≡ None → ⊥
none_last [] n h is = omega (arith, h)
none_last (x ∷ xs) zero h is = cc
none_last (x ∷ xs) (suc n) h is = none_last xs n (omega (arith, h)) is

-- where there is no last entry there is none
pub none_left : (es : Entries) → slice_get es (length es - 1) ≡ None → es ≡ []
none_left [] is = refl
none_left (x ∷ xs) is = absurd (none_last (x ∷ xs) (length (x ∷ xs) - 1) (omega arith) is)

-- where there is a last entry there is one
one_left : (es : Entries) (e : ℕ × PagedState) → slice_get es (length es - 1) ≡ Some e → 0 < length es
one_left [] e is = cc
one_left (x ∷ xs) e is = omega arith

pub length-held_take : (n : ℕ) (es : Entries) → length (held (take n es)) ≤ length (held es)
length-held_take zero es = omega arith
length-held_take (suc n) [] = omega arith
length-held_take (suc n) (x ∷ xs) =
    let r = length-held_take n xs in
    let a = length-append x.1.frames (held xs) in
    let b = length-append x.1.frames (held (take n xs)) in
    omega (arith, r, a, b)

-- so far only what did not fit is evicted
pub record Popping (start now : Frames) (old left : Entries) (count : ℕ) (fits : ℕ → ℕ → Type 0) : Type 0 where
  pub first : left ≡ take (length left) old
  pub released : Released start now (held old) (held left)
  pub counted : count ≡ length (held left)
  pub no_more : length left < length old → ¬ fits (suc (length left)) (length (held (take (suc (length left)) old)))

pub none_popped : (start : Frames) (old : Entries) (count : ℕ) (fits : ℕ → ℕ → Type 0) → IsCached start old → count ≡ length (held old)
    → Popping start start old old count fits
none_popped start old count fits out counted = record {
  first = sym (take_all (length old) old (omega arith));
  released = released_none start (held old) out;
  counted = counted;
  no_more = λ h. absurd (omega (arith, h));
}

module _ (start now next : Frames) (old left : Entries) (count count' : ℕ) (fits : ℕ → ℕ → Type 0) (e : ℕ × PagedState)
    (popping : Popping start now old left count fits) (last : slice_get left (length left - 1) ≡ Some e) where
  some : 0 < length left
  some = one_left left e last

  pub parts : Parts now (held left) e.1.frames (held (take (length left - 1) left))
  parts = let s = some in last_at now (length left - 1) left e (omega (arith, s)) last popping.released.out

  pub enough : length e.1.frames ≤ count
  enough = let s = parts.size in let c = popping.counted in omega (arith, s, c)

  module _ (free : AreFree next e.1.frames) (others : KeepsOthers now next e.1.frames) (outs : out_of next + length e.1.frames ≡ out_of now)
      (room : free_of next ≡ free_of now + length e.1.frames) (not : ¬ fits (length left) (length (held left)))
      (count_is : count' ≡ count - length e.1.frames) where
    abbrev rest : Entries
    rest = take (length left - 1) left

    size : length rest ≡ length left - 1
    size = let s = some in let l = length-take (length left - 1) left in omega (arith, s, l)

    back : suc (length rest) ≡ length left
    back = let s = some in let z = size in omega (arith, s, z)

    again : take (suc (length rest)) old ≡ left
    again = ap (λ (n : ℕ). take n old) back ∙ sym popping.first

    pub one_popped : Popping start next old rest count' fits
    one_popped = record {
      first = ap (λ (es : Entries). take (length left - 1) es) popping.first ∙ take-take (length left - 1) (length left) old (omega arith)
          ∙ ap (λ (n : ℕ). take n old) (sym size);
      released = released_then start now next (held old) (held left) (held rest) popping.released
          (released_part now next (held left) e.1.frames (held rest) parts free others outs room);
      counted = let s = parts.size in let c = popping.counted in omega (arith, s, c, count_is);
      no_more = λ _ h. not (subst (λ (n : ℕ). fits n (length (held left))) back
          (subst (λ (es : Entries). fits (suc (length rest)) (length (held es))) again h));
    }

pub keeps : (start now : Frames) (old left : Entries) (count : ℕ) (fits : ℕ → ℕ → Type 0) → Popping start now old left count fits → Keeps fits old left
keeps start now old left count fits popping = record { count = length left; first = popping.first; no_more = popping.no_more }

pub none_same : (es : Entries) → es ≡ [] → take (length es - 1) es ≡ es
none_same es is = ap (λ (xs : Entries). take (length xs - 1) xs) is ∙ sym is

-- what the test of the limits says
module _ (start now : Frames) (old left : Entries) (frames count most_entries most_frames needed out : ℕ) (out_start : IsCached start old)
    (frames_is : frames ≡ length (held old))
    (popping : Popping start now old left count (Fits most_entries most_frames (out_of start - frames) needed)) (out_is : out ≡ out_of now) where
  others : out_of now ≡ (out_of start - frames) + length (held left)
  others = let n = no_more_than_out start (held old) out_start in let o = popping.released.outs in omega (arith, n, o, frames_is)

  pub not_fits : (length left ≤ most_entries → count + needed ≤ most_frames → pool_limit < out + needed)
      → ¬ Fits most_entries most_frames (out_of start - frames) needed (length left) (length (held left))
  not_fits past fits =
      let o = others in
      let c = popping.counted in
      let e = fits.entries_fit in
      let f = fits.frames_fit in
      let g = fits.out_fits in
      let h = past e (omega (arith, c, f)) in
      omega (arith, o, g, h, out_is)

  pub fits_now : length left ≤ most_entries → count + needed ≤ most_frames → out + needed ≤ pool_limit
      → Fits most_entries most_frames (out_of start - frames) needed (length left) count
  fits_now few small enough =
      record { entries_fit = few; frames_fit = small; out_fits = let o = others in let c = popping.counted in omega (arith, o, c, enough, out_is) }

  pub few_held : out ≤ pool_limit → count ≤ pool_limit
  few_held limit = let n = no_more_than_out now (held left) popping.released.out in let c = popping.counted in omega (arith, n, c, limit, out_is)
