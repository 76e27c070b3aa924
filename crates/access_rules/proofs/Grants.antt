-- One piece more is read.
use Rattle.std.proofs.Common.{◌≡◌, ℕ, ◌+◌, ◌<◌, List, [], ◌∷◌, ◌++◌, length, take, drop, get_or, sym, ◌∙◌, ap, subst, arith, length-take, length-drop, eqb-true}
use Rattle.std.specs.Prelude.{Option, None, Some, Err, MatchOption}
use Rattle.std.specs.Borrow.{Bor}
use Rattle.std.specs.List.{position_or_len, before_first, after_first}
use Rattle.std.specs.Str.{IsUtf8}
use Rattle.std.proofs.lemmas.List.Sums.{passes_at_first}
use Rattle.std.proofs.lemmas.Str.{IsUtf8-drop, IsCharBoundary-after_ascii}
use Rattle.std.proofs.lemmas.Str.Pattern.{IsSplitOnceResult, split_once_first}
use Rattle.access_rules.specs.declared.policy.Grant.{Grant}
use Rattle.access_rules.specs.Reading.{is_comma, pieces, grant_of, if_new, with_grant, grants_from, grants_of}
use Rattle.access_rules.proofs.Pieces.{pieces_whole, pieces_cut}

-- ---- where a text is cut
pub record IsCut (bs piece after : List ℕ) : Type 0 where
  pub within : position_or_len is_comma bs < length bs
  pub first : piece ≡ before_first is_comma bs
  pub second : after ≡ after_first is_comma bs

pub cut_is : (bs : List ℕ) (r : Option (Bor (List ℕ) × Bor (List ℕ))) → IsSplitOnceResult 44 bs r → (x : Bor (List ℕ) × Bor (List ℕ)) → r ≡ Some x
    → IsCut bs x.0.now x.1.now
cut_is bs r split x is =
    let cut = subst (λ o. MatchOption o (position_or_len is_comma bs ≡ length bs)
    (λ x. (position_or_len is_comma bs < length bs) × (x.0.now ≡ before_first is_comma bs) × (x.1.now ≡ after_first is_comma bs))) is
    (split_once_first 44 bs r split (omega arith)) in
    record { within = cut.0; first = cut.1; second = cut.2 }

pub whole_is : (bs : List ℕ) (r : Option (Bor (List ℕ) × Bor (List ℕ))) → IsSplitOnceResult 44 bs r → r ≡ None → pieces bs ≡ bs ∷ []
whole_is bs r split is =
    pieces_whole bs (subst
    (λ o. MatchOption o (position_or_len is_comma bs ≡ length bs)
    (λ x. (position_or_len is_comma bs < length bs) × (x.0.now ≡ before_first is_comma bs) × (x.1.now ≡ after_first is_comma bs))) is
    (split_once_first 44 bs r split (omega arith)))

module _ (bs piece after : List ℕ) (cut : IsCut bs piece after) where
  pub cut_pieces : pieces bs ≡ piece ∷ pieces after
  cut_pieces = pieces_cut bs cut.within ∙ (λ i. sym cut.first i ∷ pieces (sym cut.second i))

  pub cut_length : length piece + 1 + length after ≡ length bs
  cut_length =
      let first : length piece ≡ length (take (position_or_len is_comma bs) bs) = ap length cut.first in
      let second : length after ≡ length (drop (position_or_len is_comma bs + 1) bs) = ap length cut.second in
      omega (arith, first, second, length-take (position_or_len is_comma bs) bs, length-drop (position_or_len is_comma bs + 1) bs, cut.within)

  pub cut_utf8 : IsUtf8 bs → IsUtf8 after
  cut_utf8 text =
      let comma : get_or bs (position_or_len is_comma bs) 0 ≡ 44 = eqb-true _ 44 (passes_at_first is_comma bs 0 cut.within) in
      subst IsUtf8 (sym cut.second)
      (IsUtf8-drop bs (position_or_len is_comma bs + 1) text
      (IsCharBoundary-after_ascii bs (position_or_len is_comma bs) text cut.within (omega (arith, comma))))

-- ---- what is read
module _ (text : List ℕ) (earlier : List Grant) (offset : ℕ) (rest piece : List ℕ) (ps : List (List ℕ)) (o : Option Grant)
    (read : grants_of text ≡ grants_from earlier offset (pieces rest)) (cut : pieces rest ≡ piece ∷ ps) (new : o ≡ if_new earlier (grant_of piece)) where
  -- a piece that doesn't fit ends the reading
  pub stops : o ≡ None → grants_of text ≡ Err offset
  stops none = read ∙ ap (λ l. grants_from earlier offset l) cut ∙ fails (sym new ∙ none)
    where
      fails : if_new earlier (grant_of piece) ≡ None → grants_from earlier offset (piece ∷ ps) ≡ Err offset
      fails is = ap (λ o. with_grant o offset (λ grant. grants_from (earlier ++ grant ∷ []) (offset + length piece + 1) ps)) is

  -- one that does is followed by the others
  pub goes_on : (grant : Grant) (more : List Grant) → o ≡ Some grant → more ≡ earlier ++ grant ∷ []
      → grants_of text ≡ grants_from more (offset + length piece + 1) ps
  goes_on grant more some pushed =
      read ∙ ap (λ l. grants_from earlier offset l) cut ∙ passes (sym new ∙ some) ∙ ap (λ gs. grants_from gs (offset + length piece + 1) ps) (sym pushed)
    where
      passes : if_new earlier (grant_of piece) ≡ Some grant
          → grants_from earlier offset (piece ∷ ps) ≡ grants_from (earlier ++ grant ∷ []) (offset + length piece + 1) ps
      passes is = ap (λ o. with_grant o offset (λ grant. grants_from (earlier ++ grant ∷ []) (offset + length piece + 1) ps)) is
