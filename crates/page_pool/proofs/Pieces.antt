-- The pieces of a byte string in frames.
use Rattle.std.proofs.Common.{◌≡◌, inl, inr, ℕ, zero, suc, ◌+◌, ◌-◌, ◌*◌, ◌<◌, ◌≤◌, List, [], ◌∷◌, ◌++◌, length, get_or, take, drop, sym, ap, subst, ◌∙◌, arith}
use Rattle.std.specs.Prelude.{Some, Option, unwrap_or}
use Rattle.std.proofs.lemmas.List.{append-nil, length-take, take_at, drop_at, take-take, take_all, drop-take, take_more, drop-drop}
use Rattle.page_pool.specs.Frames.{Frames, frame_at, IsOut, frame_size}
use Rattle.page_pool.specs.Paged.{IsAmong, AreOut, joined, content, PagedState}
use Rattle.page_pool.proofs.Among.{out_each, joined_append}

pub nth_among : (fs : List ℕ) (i k : ℕ) → i < length fs → k ≡ get_or fs i k → IsAmong k fs
nth_among [] i k h is = absurd (omega (arith, h))
nth_among (f ∷ fs) zero k h is = inl is
nth_among (f ∷ fs) (suc i) k h is = inr (nth_among fs i k (omega (arith, h)) is)

page_is : (ps : Frames) (k : ℕ) (page : List ℕ) → frame_at ps k ≡ Some page → unwrap_or (frame_at ps k) [] ≡ page
page_is ps k page is = ap (λ (o : Option (List ℕ)). unwrap_or o []) is

-- the i-th of all the pieces
pub nth_piece : (ps : Frames) (fs : List ℕ) (i k : ℕ) (page : List ℕ) → AreOut ps fs → i < length fs → k ≡ get_or fs i k → frame_at ps k ≡ Some page
    → length page ≡ frame_size → take frame_size (drop (frame_size * i) (joined ps fs)) ≡ page
nth_piece ps [] i k page out h is at size = absurd (omega (arith, h))
nth_piece ps (f ∷ fs) zero k page out h is at size =
    let here : unwrap_or (frame_at ps f) [] ≡ page = page_is ps f page (ap (frame_at ps) (sym is) ∙ at) in
    take_at (unwrap_or (frame_at ps f) []) (joined ps fs) frame_size (ap length here ∙ size) ∙ here
nth_piece ps (f ∷ fs) (suc i) k page out h is at size =
    let one : length (unwrap_or (frame_at ps f) []) ≡ frame_size = ap length (page_is ps f out.0.bytes out.0.is) ∙ out.0.size in
    let more : frame_size * suc i ≡ frame_size + frame_size * i = omega arith in
    ap (λ (n : ℕ). take frame_size (drop n (joined ps (f ∷ fs)))) more
    ∙ ap (λ (l : List ℕ). take frame_size l) (sym (drop-drop (frame_size * i) frame_size (joined ps (f ∷ fs))))
    ∙ ap (λ (l : List ℕ). take frame_size (drop (frame_size * i) l)) (drop_at (unwrap_or (frame_at ps f) []) (joined ps fs) frame_size one)
    ∙ nth_piece ps fs i k page out.2 (omega (arith, h)) is at size

-- what of it belongs to the byte string
module _ (ps : Frames) (paged : PagedState) (i : ℕ) (page : List ℕ) (piece : take frame_size (drop (frame_size * i) (joined ps paged.frames)) ≡ page) where
  rest : frame_size * i ≤ paged.size
      → drop (frame_size * i) (content ps paged) ≡ take (paged.size - frame_size * i) (drop (frame_size * i) (joined ps paged.frames))
  rest h =
      let sum : paged.size ≡ frame_size * i + (paged.size - frame_size * i) = omega (arith, h) in
      ap (λ (n : ℕ). drop (frame_size * i) (take n (joined ps paged.frames))) sum
      ∙ drop-take (frame_size * i) (paged.size - frame_size * i) (joined ps paged.frames)

  pub whole_page : frame_size * i + frame_size ≤ paged.size → page ≡ take frame_size (drop (frame_size * i) (content ps paged))
  whole_page h = sym (ap (λ (l : List ℕ). take frame_size l) (rest (omega (arith, h)))
      ∙ take-take frame_size (paged.size - frame_size * i) (drop (frame_size * i) (joined ps paged.frames)) (omega (arith, h)) ∙ piece)

  pub part_page : frame_size * i ≤ paged.size → paged.size - frame_size * i < frame_size
      → take (paged.size - frame_size * i) page ≡ take frame_size (drop (frame_size * i) (content ps paged))
  part_page h less =
      let l = length-take (paged.size - frame_size * i) (drop (frame_size * i) (joined ps paged.frames)) in
      ap (λ (p : List ℕ). take (paged.size - frame_size * i) p) (sym piece)
      ∙ take-take (paged.size - frame_size * i) frame_size (drop (frame_size * i) (joined ps paged.frames)) (omega (arith, less))
      ∙ sym (ap (λ (p : List ℕ). take frame_size p) (rest h)
      ∙ take_all frame_size (take (paged.size - frame_size * i) (drop (frame_size * i) (joined ps paged.frames))) (omega (arith, l, less)))

-- one more page read
pub one_read : (ps : Frames) (fs : List ℕ) (i k : ℕ) (page : List ℕ) → i < length fs → k ≡ get_or fs i k → frame_at ps k ≡ Some page
    → joined ps (take (i + 1) fs) ≡ joined ps (take i fs) ++ page
one_read ps fs i k page h is at =
    ap (joined ps) (take_more fs i k h ∙ ap (λ (j : ℕ). take i fs ++ j ∷ []) (sym is))
    ∙ joined_append ps (take i fs) (k ∷ [])
    ∙ ap (λ (l : List ℕ). joined ps (take i fs) ++ l) (append-nil (unwrap_or (frame_at ps k) []) ∙ page_is ps k page at)

-- the same where the frames are those of a value
module _ (ps : Frames) (paged : PagedState) (fs : List ℕ) (size i k : ℕ) (value : ◌≡◌ {A = PagedState} (record { frames = fs; size = size }) paged)
    (out : AreOut ps paged.frames) (h : i < length fs) (is : k ≡ get_or fs i k) where
  frames_are : fs ≡ paged.frames
  frames_are = ap (λ (p : PagedState). p.frames) value

  size_is : size ≡ paged.size
  size_is = ap (λ (p : PagedState). p.size) value

  out' : AreOut ps fs
  out' = subst (λ (l : List ℕ). AreOut ps l) (sym frames_are) out

  pub nth_out : IsOut ps k
  nth_out = out_each ps fs k out' (nth_among fs i k h is)

  module _ (page : List ℕ) (at : frame_at ps k ≡ Some page) (full : length page ≡ frame_size) where
    nth : take frame_size (drop (frame_size * i) (joined ps paged.frames)) ≡ page
    nth = ap (λ (l : List ℕ). take frame_size (drop (frame_size * i) (joined ps l))) (sym frames_are) ∙ nth_piece ps fs i k page out' h is at full

    pub whole : frame_size * i + frame_size ≤ size → page ≡ take frame_size (drop (frame_size * i) (content ps paged))
    whole g = let s = size_is in whole_page ps paged i page nth (omega (arith, s, g))

    pub part : frame_size * i ≤ size → size - frame_size * i < frame_size
        → take (size - frame_size * i) page ≡ take frame_size (drop (frame_size * i) (content ps paged))
    part g less = let s = size_is
        in ap (λ (n : ℕ). take (n - frame_size * i) page) s ∙ part_page ps paged i page nth (omega (arith, s, g)) (omega (arith, s, less))
