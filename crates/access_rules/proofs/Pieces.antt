-- The pieces of a text, cut at the first comma.
use Rattle.std.proofs.Common.{◌≡◌, ℕ, suc, ◌+◌, ◌<◌, Bool, true, false, cond, not, List, [], ◌∷◌, length, take, drop, refl, sym, ◌∙◌, ap, subst, arith}
use Rattle.std.specs.List.{position_or_len, before_first, after_first}
use Rattle.access_rules.specs.Reading.{is_comma, before, pieces}

-- a text without a comma is one piece
pub pieces_whole : (bs : List ℕ) → position_or_len is_comma bs ≡ length bs → pieces bs ≡ bs ∷ []
pieces_whole [] none = refl
pieces_whole (b ∷ bs) none = by (is_comma b) refl (pieces_whole bs)
  where
    by : (t : Bool) → is_comma b ≡ t → (position_or_len is_comma bs ≡ length bs → pieces bs ≡ bs ∷ []) → pieces (b ∷ bs) ≡ (b ∷ bs) ∷ []
    by true is further =
        let first : 0 ≡ suc (length bs) = subst (λ t. cond (not t) (1 + position_or_len is_comma bs) 0 ≡ suc (length bs)) is none in
        absurd (omega (arith, first))
    by false is further =
        let later : 1 + position_or_len is_comma bs ≡ suc (length bs) =
        subst (λ t. cond (not t) (1 + position_or_len is_comma bs) 0 ≡ suc (length bs)) is none in
        ap (λ t. cond t ([] ∷ pieces bs) (before b (pieces bs))) is ∙ ap (before b) (further (omega (arith, later)))

-- a text with a comma is what stands before the first, and the pieces after it
pub pieces_cut : (bs : List ℕ) → position_or_len is_comma bs < length bs → pieces bs ≡ before_first is_comma bs ∷ pieces (after_first is_comma bs)
pieces_cut [] within = absurd (omega (arith, within))
pieces_cut (b ∷ bs) within = by (is_comma b) refl (pieces_cut bs)
  where
    at : (t : Bool) → is_comma b ≡ t → (n : ℕ) → cond (not t) (1 + position_or_len is_comma bs) 0 ≡ n
        → before_first is_comma (b ∷ bs) ∷ pieces (after_first is_comma (b ∷ bs)) ≡ take n (b ∷ bs) ∷ pieces (drop (n + 1) (b ∷ bs))
    at t is n same = ap (λ m. take m (b ∷ bs) ∷ pieces (drop (m + 1) (b ∷ bs))) (ap (λ t. cond (not t) (1 + position_or_len is_comma bs) 0) is ∙ same)

    by : (t : Bool) → is_comma b ≡ t
        → (position_or_len is_comma bs < length bs → pieces bs ≡ before_first is_comma bs ∷ pieces (after_first is_comma bs))
        → pieces (b ∷ bs) ≡ before_first is_comma (b ∷ bs) ∷ pieces (after_first is_comma (b ∷ bs))
    by true is further = ap (λ t. cond t ([] ∷ pieces bs) (before b (pieces bs))) is ∙ sym (at true is 0 refl)
    by false is further =
        let later : 1 + position_or_len is_comma bs < suc (length bs) =
        subst (λ t. cond (not t) (1 + position_or_len is_comma bs) 0 < suc (length bs)) is within in
        let more : pieces bs ≡ before_first is_comma bs ∷ pieces (after_first is_comma bs) = further (omega (arith, later)) in
        let next : 1 + position_or_len is_comma bs ≡ suc (position_or_len is_comma bs) = omega arith in
        let after : suc (position_or_len is_comma bs) + 1 ≡ suc (position_or_len is_comma bs + 1) = omega arith in
        ap (λ t. cond t ([] ∷ pieces bs) (before b (pieces bs))) is ∙ ap (before b) more
        ∙ sym (at false is (suc (position_or_len is_comma bs)) next ∙ ap (λ m. (b ∷ take (position_or_len is_comma bs) bs) ∷ pieces (drop m (b ∷ bs))) after)
