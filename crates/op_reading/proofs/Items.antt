-- Items read one after another, as far as a loop has come.
use Rattle.std.proofs.Common.{◌≡◌, ℕ, suc, ◌+◌, ◌-◌, ◌<◌, arith, List, [], ◌∷◌, ◌++◌, refl, sym, ap, ◌∙◌, Result, Ok, Err, append_assoc, append-nil}
use Rattle.byte_form.specs.Rest.{Rest}
use Rattle.byte_form.specs.Fields.{◌>>=◌}
use Rattle.op_reading.specs.declared.fault.FormFault.{FormFault}
use Rattle.op_reading.specs.Reading.{Reading, made, items_at}

-- what is read after the items that were read
abbrev pub behind : {X : Type 0} → List X → Result (List X × Rest) FormFault → Result (List X × Rest) FormFault
behind xs (Ok ys) = Ok (xs ++ ys.0, ys.1)
behind xs (Err e) = Err e

behind_made : {X : Type 0} (xs : List X) (x : X) (read : Result (List X × Rest) FormFault) → behind xs (made (λ ys. x ∷ ys) read) ≡ behind (xs ++ x ∷ []) read
behind_made xs x (Ok ys) = ap (λ zs. Ok (zs, ys.1)) (sym (append_assoc xs (x ∷ []) ys.0))
behind_made xs x (Err e) = refl

-- one item more
pub behind_more : {X : Type 0} (read : Reading X) (xs : List X) (n : ℕ) (before : Rest) (x : X) (after : Rest) → read before ≡ Ok (x, after)
    → behind xs (items_at read (suc n) before) ≡ behind (xs ++ x ∷ []) (items_at read n after)
behind_more read xs n before x after e =
    ap (λ r. behind xs (r >>= λ y. made (λ ys. y.0 ∷ ys) (items_at read n y.1))) e ∙ behind_made xs x (items_at read n after)

-- no item more
pub behind_none : {X : Type 0} (read : Reading X) (xs : List X) (r : Rest) → behind xs (items_at read 0 r) ≡ Ok (xs, r)
behind_none read xs r = ap (λ zs. Ok (zs, r)) (append-nil xs)

-- an item that can't be read
pub behind_fault : {X : Type 0} (read : Reading X) (xs : List X) (n : ℕ) (before : Rest) (e : FormFault) → read before ≡ Err e
    → behind xs (items_at read (suc n) before) ≡ Err e
behind_fault read xs n before e is = ap (λ r. behind xs (r >>= λ y. made (λ ys. y.0 ∷ ys) (items_at read n y.1))) is

pub nothing_behind : {X : Type 0} (read : Result (List X × Rest) FormFault) → behind [] read ≡ read
nothing_behind (Ok ys) = refl
nothing_behind (Err e) = refl

-- one turn of a loop that reads so many items
pub behind_turn : {X : Type 0} (read : Reading X) (xs ys : List X) (count index : ℕ) (before : Rest) (x : X) (after : Rest)
    (whole : Result (List X × Rest) FormFault) → index < count
    → read before ≡ Ok (x, after) → ys ≡ xs ++ x ∷ [] → behind xs (items_at read (count - index) before) ≡ whole
    → behind ys (items_at read (count - (index + 1)) after) ≡ whole
behind_turn read xs ys count index before x after whole low is more so_far =
    let left : count - index ≡ suc (count - (index + 1)) = omega (arith, low) in
    ap (λ zs. behind zs (items_at read (count - (index + 1)) after)) more
    ∙ sym (behind_more read xs (count - (index + 1)) before x after is)
    ∙ ap (λ n. behind xs (items_at read n before)) (sym left)
    ∙ so_far
