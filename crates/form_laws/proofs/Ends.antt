-- Where fields end, and bytes that are the same up to there.
use Rattle.std.proofs.Common.{◌≡◌, ℕ, suc, zero, ◌+◌, ◌<◌, List, [], ◌∷◌, ◌++◌, length, take, drop, refl, sym, ap, subst, ◌∙◌, arith, append_assoc, take_all}
use Rattle.std.proofs.Math.Seq.{drop-append-add}
use Rattle.std.specs.Int.{w32, from_be_bytes}
use Rattle.form_laws.specs.Fields.{Field, Byte, Number, LongNumber, Text, field_encoding, fields_encoding, field_end, IsSameUpTo}

-- bytes that are cut off before the end are all of the other bytes
pub same_all : (end : ℕ) (bytes other : List ℕ) → length bytes < end → IsSameUpTo end bytes other → other ≡ bytes
same_all end bytes other short same =
    let long = same.ends short in
    sym (take_all end other (omega (arith, long, short))) ∙ same.before ∙ take_all end bytes (omega (arith, short))

pub same_behind : (end b : ℕ) (bytes other : List ℕ) → IsSameUpTo (suc end) (b ∷ bytes) other → (more : List ℕ) × (other ≡ b ∷ more) × IsSameUpTo end bytes more
same_behind end b bytes [] same = let before = same.before in cc
same_behind end b bytes (c ∷ cs) same =
    let before : c ∷ take end cs ≡ b ∷ take end bytes = same.before in
    let first : c ≡ b = cc in
    let more : take end cs ≡ take end bytes = cc in
    (cs, ap (λ x. x ∷ cs) first, record { before = more; ends = λ lt. omega (arith, same.ends (omega (arith, lt))) })

-- what is the same up to an end begins with the same bytes, and what stands behind these is the same
pub same_past : (front : List ℕ) (end n : ℕ) (bytes other : List ℕ) → n ≡ length front + end → IsSameUpTo n (front ++ bytes) other
    → (more : List ℕ) × (other ≡ front ++ more) × IsSameUpTo end bytes more
same_past [] end n bytes other is same = let e : n ≡ end = omega (arith, is) in (other, refl, subst (λ k. IsSameUpTo k bytes other) e same)
same_past (b ∷ front) end zero bytes other is same = absurd (omega (arith, is))
same_past (b ∷ front) end (suc n) bytes other is same =
    let first = same_behind n b (front ++ bytes) other same in
    let after = same_past front end n bytes first.0 (omega (arith, is)) first.2 in
    (after.0, first.1 ∙ ap (λ bs. b ∷ bs) after.1, after.2)

pub end_behind : (kind : Field) (front bytes : List ℕ) (offset : ℕ)
    → field_end kind (length front + offset) (front ++ bytes) ≡ length front + field_end kind offset bytes
end_behind (Byte n) front bytes offset = omega arith
end_behind (Number n) front bytes offset = omega arith
end_behind (LongNumber n) front bytes offset = omega arith
end_behind (Text text) front bytes offset =
    ap (λ bs. length front + offset + 4 + from_be_bytes w32 (take 4 bs)) (drop-append-add front bytes offset)
    ∙ apart (length front) offset (from_be_bytes w32 (take 4 (drop offset bytes)))
  where
    apart : (a b c : ℕ) → a + b + 4 + c ≡ a + (b + 4 + c)
    apart a b c = omega arith

pub fields_joined : (front more : List Field) → fields_encoding (front ++ more) ≡ fields_encoding front ++ fields_encoding more
fields_joined [] more = refl
fields_joined (field ∷ front) more =
    ap (λ bs. field_encoding field ++ bs) (fields_joined front more) ∙ sym (append_assoc (field_encoding field) (fields_encoding front) (fields_encoding more))
