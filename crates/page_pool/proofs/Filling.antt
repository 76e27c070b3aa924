-- Writing a byte string into frames, one after another.
use Rattle.std.proofs.Common.{◌≡◌, inl, inr, ℕ, ◌+◌, ◌*◌, ◌<◌, ◌≤◌, List, [], ◌∷◌, ◌++◌, length, take, drop, refl, sym, ap, subst, ◌∙◌, arith}
use Rattle.std.proofs.Common.{append_assoc, length-append, length-drop}
use Rattle.std.specs.Prelude.{Option, None, Some, unwrap_or, IfSome}
use Rattle.std.proofs.lemmas.List.{length-take, length-replicate, take-append-drop, take-take, drop-take, take_all, drop_all, take_at, append-nil}
use Rattle.page_pool.specs.Frames.{Frames, frame_at, IsOut, zeros, overwritten, IsTaken, IsWritten, frame_size}
use Rattle.page_pool.specs.Paged.{IsAmong, AreOut, AreFree, KeepsOthers, joined, frames_for, PagedState, HoldsBytes}
use Rattle.page_pool.proofs.Among.{among_split, among_front, among_last, out_not_free, all_kept, joined_kept, joined_append, out_append, out_each}

pub length-zeros : length zeros ≡ frame_size
unfolding zeros
length-zeros = length-replicate {A = ℕ} frame_size 0

-- a frame that was just taken is out
pub taken_is_out : (old new : Frames) (k : ℕ) → IsTaken old new k → IsOut new k
taken_is_out old new k taken = record { bytes = zeros; is = taken.changes.at; size = length-zeros }

-- the last of a list of frames, and those before it
pub record Filled (old new : Frames) (fs : List ℕ) (bytes : List ℕ) (i : ℕ) : Type 0 where
  pub out : AreOut new fs
  pub fresh : AreFree old fs
  pub others : KeepsOthers old new fs
  pub padding : List ℕ
  pub joins : joined new fs ≡ take (frame_size * i) bytes ++ padding
  pub full : frame_size * i ≤ length bytes → padding ≡ []

pub nothing_filled : (old new : Frames) (bytes : List ℕ) → ((k : ℕ) → frame_at new k ≡ frame_at old k) → Filled old new [] bytes 0
nothing_filled old new bytes same = record {
  out = tt;
  fresh = λ k h. absurd h;
  others = λ k h. same k;
  padding = [];
  joins = refl;
  full = λ h. refl;
}

pub take-plus : (n m : ℕ) (xs : List ℕ) → take (n + m) xs ≡ take n xs ++ take m (drop n xs)
take-plus n m xs = sym (take-append-drop n (take (n + m) xs))
    ∙ ap (λ (l : List ℕ). l ++ drop n (take (n + m) xs)) (take-take n (n + m) xs (omega arith)) ∙ ap (λ (l : List ℕ). take n xs ++ l) (drop-take n m xs)

-- a piece of a byte string, and the zeros after it
module _ (old mid one two : Frames) (fs : List ℕ) (f i : ℕ) (bytes piece : List ℕ) (so_far : Filled old mid fs bytes i) (taken : IsTaken mid one f)
    (written : IsWritten one two f (overwritten zeros 0 piece)) (piece_is : piece ≡ take frame_size (drop (frame_size * i) bytes))
    (before_end : frame_size * i < length bytes) where
  abbrev rest : List ℕ
  rest = drop (0 + length piece) zeros

  short : length piece ≤ frame_size
  short = let l = length-take frame_size (drop (frame_size * i) bytes) in let p = ap length piece_is in omega (arith, l, p)

  page_size : length (overwritten zeros 0 piece) ≡ frame_size
  page_size = let a = length-append piece (drop (0 + length piece) zeros) in let d = length-drop (0 + length piece) zeros in let z = length-zeros
      in let s = short in omega (arith, a, d, z, s)

  is_out : IsOut two f
  is_out = record { bytes = overwritten zeros 0 piece; is = written.changes.at; size = page_size }

  -- the frame was free, and so it is none of those before it
  not_before : IsAmong f fs → ⊥
  not_before h = out_not_free mid f (out_each mid fs f so_far.out h) taken.was_free

  differs : (k : ℕ) → IsAmong k fs → k ≡ f → ⊥
  differs k h is = not_before (subst (λ (j : ℕ). IsAmong j fs) is h)

  apart : (k : ℕ) → (k ≡ f → ⊥) → frame_at two k ≡ frame_at mid k
  apart k other = written.changes.others k other ∙ taken.changes.others k other

  kept : (k : ℕ) → IsAmong k fs → frame_at two k ≡ frame_at mid k
  kept k h = apart k (differs k h)

  fresh : (k : ℕ) → IsAmong k (fs ++ f ∷ []) → frame_at old k ≡ None
  fresh k h = elim (among_split k fs (f ∷ []) h) [
    | inl a ↦ so_far.fresh k a
    | inr b ↦ elim b [
      | inl is ↦ ap (frame_at old) is ∙ sym (so_far.others f not_before) ∙ taken.was_free
      | inr none ↦ absurd none
    ]
  ]

  others : (k : ℕ) → (IsAmong k (fs ++ f ∷ []) → ⊥) → frame_at two k ≡ frame_at old k
  others k other = apart k (λ is. other (subst (λ (j : ℕ). IsAmong j (fs ++ f ∷ [])) (sym is) (among_last f fs)))
      ∙ so_far.others k (λ h. other (among_front k fs (f ∷ []) h))

  next : take (frame_size * (i + 1)) bytes ≡ take (frame_size * i) bytes ++ piece
  next = let e : frame_size * (i + 1) ≡ frame_size * i + frame_size = omega arith
      in ap (λ (n : ℕ). take n bytes) e ∙ take-plus (frame_size * i) frame_size bytes
      ∙ ap (λ (l : List ℕ). take (frame_size * i) bytes ++ l) (sym piece_is)

  joins : joined two (fs ++ f ∷ []) ≡ take (frame_size * (i + 1)) bytes ++ rest
  joins =
      joined_append two fs (f ∷ [])
      ∙ ap (λ (l : List ℕ). l ++ joined two (f ∷ []))
      (joined_kept mid two fs kept ∙ so_far.joins
      ∙ ap (λ (l : List ℕ). take (frame_size * i) bytes ++ l) (so_far.full (omega (arith, before_end))) ∙ append-nil (take (frame_size * i) bytes))
      ∙ ap (λ (l : List ℕ). take (frame_size * i) bytes ++ l)
      (append-nil (unwrap_or (frame_at two f) []) ∙ ap (λ (o : Option (List ℕ)). unwrap_or o []) written.changes.at)
      ∙ sym (append_assoc (take (frame_size * i) bytes) piece rest)
      ∙ ap (λ (l : List ℕ). l ++ rest) (sym next)

  full : frame_size * (i + 1) ≤ length bytes → rest ≡ []
  full h =
      let l = length-take frame_size (drop (frame_size * i) bytes) in
      let d = length-drop (frame_size * i) bytes in
      let p = ap length piece_is in
      let z = length-zeros in
      drop_all (0 + length piece) zeros (omega (arith, l, d, p, z, h))

  pub one_filled : Filled old two (fs ++ f ∷ []) bytes (i + 1)
  one_filled = record {
    out = out_append two fs (f ∷ []) (all_kept mid two fs kept so_far.out) (is_out, (λ h. h), tt)
        (λ k h g. elim g [ inl is ↦ differs k h is | inr none ↦ none ]);
    fresh = fresh;
    others = others;
    padding = rest;
    joins = joins;
    full = full;
  }

pub at_some : (P : List ℕ → Type 0) (o : Option (List ℕ)) (b : List ℕ) → o ≡ Some b → IfSome o P → P b
at_some P o b is h = subst (λ (p : Option (List ℕ)). IfSome p P) is h

-- the whole string, when all of its frames are filled
pub all_filled : (old new : Frames) (fs bytes : List ℕ) (n : ℕ) (paged : PagedState) → Filled old new fs bytes n → n ≡ frames_for (length bytes)
    → length fs ≡ n → paged.frames ≡ fs → paged.size ≡ length bytes → HoldsBytes new paged bytes
all_filled old new fs bytes n paged filled n_is count frames size = record {
  out = subst (λ (l : List ℕ). AreOut new l) (sym frames) filled.out;
  count = ap (λ (l : List ℕ). length l) frames ∙ count ∙ n_is;
  size = size;
  content_is =
      ap (λ (k : ℕ). take k (joined new paged.frames)) size
      ∙ ap (λ (l : List ℕ). take (length bytes) (joined new l)) frames
      ∙ ap (λ (l : List ℕ). take (length bytes) l)
      (filled.joins ∙ ap (λ (l : List ℕ). l ++ filled.padding) (take_all (frame_size * n) bytes (omega (arith, n_is))))
      ∙ take_at bytes filled.padding (length bytes) refl;
}
