-- The prints of operations, by their positions.
use Rattle.std.proofs.Common.{◌≡◌, ℕ, zero, suc, ◌+◌, ◌<◌, ◌≤◌, List, [], ◌∷◌, ◌++◌, refl, sym, ap, ◌∙◌, drop, length, get_or, arith, append_assoc}
use Rattle.std.proofs.Common.{append-nil, drop-cons}
use Rattle.std.proofs.lemmas.List.{map-append}
use Rattle.ecore_meta.specs.Meta.{Meta}
use Rattle.model_state.specs.declared.operation.Operation.{Operation}
use Rattle.model_laws.specs.Cells.{Cell}
use Rattle.footprint.specs.declared.cell.Print.{Print}
use Rattle.footprint.specs.Interference.{op_writes, op_reads, cells_interfere, interferes}
use Rattle.footprint.specs.Prints.{cells, shown, printed}
use Rattle.footprint.proofs.Held.{prints_tell}

pub shown_length : (prints : List Print) → length (shown prints) ≡ length prints
unfolding shown
shown_length [] = refl
shown_length (p ∷ prints) = ap suc (shown_length prints)

pub printed_length : (meta : Meta) (ops : List Operation) → length (printed meta ops) ≡ length ops
unfolding printed
printed_length meta [] = refl
printed_length meta (o ∷ ops) = ap suc (printed_length meta ops)

-- there are as many prints as operations
pub as_many : (meta : Meta) (prints : List Print) (ops : List Operation) → shown prints ≡ printed meta ops → length prints ≡ length ops
as_many meta prints ops h = sym (shown_length prints) ∙ ap length h ∙ printed_length meta ops

pub shown_more : (prints : List Print) (p : Print) → shown (prints ++ p ∷ []) ≡ shown prints ++ (cells p.writes, cells p.reads) ∷ []
unfolding shown
shown_more prints p = map-append (λ (q : Print). (cells q.writes, cells q.reads)) prints (p ∷ [])

first_same : (x y : List Cell × List Cell) (xs ys : List (List Cell × List Cell)) → x ∷ xs ≡ y ∷ ys → (x.0 ≡ y.0) × (x.1 ≡ y.1)
first_same x y xs ys h = (cc, cc)

rest_same : (x y : List Cell × List Cell) (xs ys : List (List Cell × List Cell)) → x ∷ xs ≡ y ∷ ys → xs ≡ ys
rest_same x y xs ys h = cc

-- the print at a position is that of the operation there
pub print_at : (meta : Meta) (prints : List Print) (ops : List Operation) (i : ℕ) (p : Print) (o : Operation) → shown prints ≡ printed meta ops
    → i < length ops → p ≡ get_or prints i p → o ≡ get_or ops i o
    → (cells p.writes ≡ op_writes meta o) × (cells p.reads ≡ op_reads o)
unfolding shown printed
print_at meta prints [] i p o h low is at = absurd (omega (arith, low))
print_at meta [] (q ∷ ops) i p o h low is at = cc
print_at meta (r ∷ prints) (q ∷ ops) zero p o h low is at =
    let f = first_same (cells r.writes, cells r.reads) (op_writes meta q, op_reads q) (shown prints) (printed meta ops) h in
    (ap (λ (x : Print). cells x.writes) is ∙ f.0 ∙ ap (op_writes meta) (sym at), ap (λ (x : Print). cells x.reads) is ∙ f.1 ∙ ap op_reads (sym at))
print_at meta (r ∷ prints) (q ∷ ops) (suc i) p o h low is at =
    print_at meta prints ops i p o (rest_same (cells r.writes, cells r.reads) (op_writes meta q, op_reads q) (shown prints) (printed meta ops) h)
    (omega (arith, low)) is at

-- the prints at two positions show whether the operations there interfere
pub places_tell : (meta : Meta) (prints : List Print) (ops : List Operation) (i j : ℕ) (p q : Print) (a b : Operation)
    → shown prints ≡ printed meta ops → i < length ops → j < length ops
    → p ≡ get_or prints i p → q ≡ get_or prints j q → a ≡ get_or ops i a → b ≡ get_or ops j b
    → cells_interfere (cells p.writes) (cells p.reads) (cells q.writes) (cells q.reads) ≡ interferes meta a b
places_tell meta prints ops i j p q a b h low high p_is q_is a_is b_is =
    let x = print_at meta prints ops i p a h low p_is a_is in
    let y = print_at meta prints ops j q b h high q_is b_is in
    prints_tell meta a b p q x.0 x.1 y.0 y.1

-- ---- one print more
drop_past : {A : Type 0} (xs : List A) (n : ℕ) → length xs ≤ n → drop n xs ≡ []
drop_past [] zero h = refl
drop_past [] (suc n) h = refl
drop_past (x ∷ xs) zero h = absurd (omega (arith, h))
drop_past (x ∷ xs) (suc n) h = drop_past xs n (omega (arith, h))

pub prints_turn : (meta : Meta) (ops : List Operation) (i : ℕ) (found made : List Print) (o : Operation) (p : Print)
    (whole : List (List Cell × List Cell)) → i < length ops → o ≡ get_or ops i o → cells p.writes ≡ op_writes meta o → cells p.reads ≡ op_reads o
    → made ≡ found ++ p ∷ []
    → shown found ++ printed meta (drop i ops) ≡ whole → shown made ++ printed meta (drop (i + 1) ops) ≡ whole
unfolding printed
prints_turn meta ops i found made o p whole low at w r out h =
    let e : suc i ≡ i + 1 = omega arith in
    let next : drop i ops ≡ o ∷ drop (i + 1) ops = drop-cons ops i o low ∙ (λ t. sym at t ∷ drop (e t) ops) in
    ap (λ l. shown l ++ printed meta (drop (i + 1) ops)) out
    ∙ ap (λ l. l ++ printed meta (drop (i + 1) ops)) (shown_more found p)
    ∙ append_assoc (shown found) ((cells p.writes, cells p.reads) ∷ []) (printed meta (drop (i + 1) ops))
    ∙ (λ t. shown found ++ ((w t, r t) ∷ printed meta (drop (i + 1) ops)))
    ∙ ap (λ l. shown found ++ printed meta l) (sym next)
    ∙ h

pub prints_end : (meta : Meta) (ops : List Operation) (i : ℕ) (found : List Print) (whole : List (List Cell × List Cell)) → length ops ≤ i
    → shown found ++ printed meta (drop i ops) ≡ whole → shown found ≡ whole
unfolding printed
prints_end meta ops i found whole high h = sym (append-nil (shown found)) ∙ ap (λ l. shown found ++ printed meta l) (sym (drop_past ops i high)) ∙ h

pub prints_begin : (meta : Meta) (ops : List Operation) (first made : List Print) → first ≡ [] → shown made ≡ shown first ++ printed meta ops
    → shown made ≡ printed meta ops
unfolding shown
prints_begin meta ops first made h is = is ∙ ap (λ l. shown l ++ printed meta ops) h

-- the prints of two lists, one after the other
pub both_printed : (meta : Meta) (ts ms : List Operation) (first made : List Print) → shown first ≡ printed meta ts
    → shown made ≡ shown first ++ printed meta ms → shown made ≡ printed meta (ts ++ ms)
unfolding printed
both_printed meta ts ms first made h is = is ∙ ap (λ l. l ++ printed meta ms) h ∙ sym (map-append (λ o. (op_writes meta o, op_reads o)) ts ms)

-- the prints of an operation of one list and of one of another show whether they interfere
pub pair_tells : (meta : Meta) (left right : List Print) (ts ms : List Operation) (i k : ℕ) (p q : Print) (a b : Operation)
    → shown left ≡ printed meta ts → shown right ≡ printed meta ms → i < length ts → k < length ms
    → p ≡ get_or left i p → q ≡ get_or right k q → a ≡ get_or ts i a → b ≡ get_or ms k b
    → cells_interfere (cells p.writes) (cells p.reads) (cells q.writes) (cells q.reads) ≡ interferes meta a b
pair_tells meta left right ts ms i k p q a b h g low high p_is q_is a_is b_is =
    let x = print_at meta left ts i p a h low p_is a_is in
    let y = print_at meta right ms k q b g high q_is b_is in
    prints_tell meta a b p q x.0 x.1 y.0 y.1
