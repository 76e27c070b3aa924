-- The operations that stand, gathered from the last on.
use Rattle.std.proofs.Common.{◌≡◌, ℕ, suc, ◌+◌, ◌<◌, ◌≤◌, Bool, true, false, List, [], ◌∷◌, ◌++◌, refl, sym, ap, ◌∙◌, length, get_or, take, arith}
use Rattle.std.proofs.Common.{append_assoc, length-append}
use Rattle.std.proofs.Common.{reverse}
use Rattle.std.proofs.Math.Seq.{take-suc}
use Rattle.std.proofs.lemmas.List.{reverse-append, length-take-le}
use Rattle.model_state.specs.declared.operation.Operation.{Operation}
use Rattle.canoniser.specs.Meetings.{standing_of}
use Rattle.canoniser.proofs.Comes.{kept_append}

one_reversed : (f : Bool) (o : Operation) → reverse (standing_of (f ∷ []) (o ∷ [])) ≡ standing_of (f ∷ []) (o ∷ [])
one_reversed true o = refl
one_reversed false o = refl

-- with the last operation gone there are fewer
pub fewer : (old new : List Operation) (o : Operation) (n : ℕ) → old ≡ new ++ o ∷ [] → length old ≤ n → length new < n
fewer old new o n is low = let long = ap length is in let sum = length-append new (o ∷ []) in omega (arith, long, sum, low)

-- the last operation goes over to those that are gathered, if it stands
pub keep_turn : (stands : List Bool) (old new turned made whole : List Operation) (o : Operation) (f : Bool) → old ≡ new ++ o ∷ []
    → length new < length stands → f ≡ get_or stands (length new) false → made ≡ turned ++ standing_of (f ∷ []) (o ∷ [])
    → standing_of (take (length old) stands) old ++ reverse turned ≡ whole → standing_of (take (length new) stands) new ++ reverse made ≡ whole
keep_turn stands old new turned made whole o f is low flag out h =
    let n = length new in
    let long : length old ≡ suc n = ap length is ∙ length-append new (o ∷ []) ∙ plus n in
    let flags : take (length old) stands ≡ take n stands ++ f ∷ [] =
    ap (λ k. take k stands) long ∙ take-suc stands n false low ∙ ap (λ g. take n stands ++ g ∷ []) (sym flag) in
    let many : length (take n stands) ≡ length new = length-take-le n stands (omega (arith, low)) in
    ap (λ l. standing_of (take n stands) new ++ reverse l) out
    ∙ ap (λ l. standing_of (take n stands) new ++ l) (reverse-append turned (standing_of (f ∷ []) (o ∷ [])) ∙ ap (λ l. l ++ reverse turned) (one_reversed f o))
    ∙ sym (append_assoc (standing_of (take n stands) new) (standing_of (f ∷ []) (o ∷ [])) (reverse turned))
    ∙ ap (λ l. l ++ reverse turned) (sym ((λ i. standing_of (flags i) (is i)) ∙ kept_append (take n stands) (f ∷ []) new (o ∷ []) many))
    ∙ h
  where
    plus : (n : ℕ) → n + 1 ≡ suc n
    plus n = omega arith
