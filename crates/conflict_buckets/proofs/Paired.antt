-- The pairs so far, and those that are left.
use Rattle.std.proofs.Common.{◌≡◌, ℕ, suc, ◌+◌, ◌<◌, ◌≤◌, Bool, true, false, cond, List, [], ◌∷◌, ◌++◌, refl, sym, ap, ◌∙◌, drop, length, get_or}
use Rattle.std.proofs.Common.{arith, drop-cons, append_assoc, append-nil}
use Rattle.std.proofs.lemmas.Option.{get_or_from_slice_get}
use Rattle.ecore_meta.specs.Meta.{Meta}
use Rattle.model_state.specs.declared.operation.Operation.{Operation}
use Rattle.footprint.specs.Interference.{interferes, cells_interfere}
use Rattle.footprint.specs.declared.cell.Print.{Print}
use Rattle.footprint.specs.Prints.{cells, shown, printed}
use Rattle.footprint.proofs.Printed.{pair_tells}
use Rattle.merge_laws.proofs.Exact.{at_place}
use Rattle.merge_laws.specs.Pairs.{pairs_with, pairs_from}
use Rattle.conflict_buckets.proofs.Empty.{drop_past}

pairs_open : (meta : Meta) (ts ms : List Operation) (i : ℕ) (found whole : List (ℕ × ℕ)) (a : Operation) → i < length ts → a ≡ get_or ts i a
    → found ++ pairs_from meta i (drop i ts) ms ≡ whole
    → found ++ (pairs_with meta i a 0 ms ++ pairs_from meta (suc i) (drop (suc i) ts) ms) ≡ whole
pairs_open meta ts ms i found whole a low is h =
    ap (λ os. found ++ pairs_from meta i os ms) (sym (drop-cons ts i a low ∙ ap (λ x. x ∷ drop (suc i) ts) (sym is))) ∙ h

-- those of one operation more come after the others
pub pairs_further : (meta : Meta) (ts ms : List Operation) (i : ℕ) (found new whole : List (ℕ × ℕ)) → i < length ts
    → ((a : Operation) (rest : List (ℕ × ℕ)) → a ≡ get_or ts i a → new ++ rest ≡ found ++ (pairs_with meta i a 0 ms ++ rest))
    → found ++ pairs_from meta i (drop i ts) ms ≡ whole → new ++ pairs_from meta (i + 1) (drop (i + 1) ts) ms ≡ whole
pairs_further meta ts ms i found new whole low more h =
    let p = at_place ts i low in
    let is : p.0 ≡ get_or ts i p.0 = sym (get_or_from_slice_get ts i p.0 p.0 p.1) in
    let e : i + 1 ≡ suc i = omega arith in
    ap (λ n. new ++ pairs_from meta n (drop n ts) ms) e ∙ more p.0 (pairs_from meta (suc i) (drop (suc i) ts) ms) is
    ∙ pairs_open meta ts ms i found whole p.0 low is h

-- no pair is left where no operation of mine is
pub with_end : (meta : Meta) (i k : ℕ) (a : Operation) (ms : List Operation) (found rest whole : List (ℕ × ℕ)) → length ms ≤ k
    → found ++ (pairs_with meta i a k (drop k ms) ++ rest) ≡ whole → found ++ rest ≡ whole
with_end meta i k a ms found rest whole high h = sym (ap (λ os. found ++ (pairs_with meta i a k os ++ rest)) (drop_past ms k high)) ∙ h

pairs_next : (meta : Meta) (ms : List Operation) (i k : ℕ) (found rest whole : List (ℕ × ℕ)) (a b : Operation) (t : Bool) → k < length ms
    → b ≡ get_or ms k b → interferes meta a b ≡ t → found ++ (pairs_with meta i a k (drop k ms) ++ rest) ≡ whole
    → cond t (found ++ (i, k) ∷ []) found ++ (pairs_with meta i a (k + 1) (drop (k + 1) ms) ++ rest) ≡ whole
pairs_next meta ms i k found rest whole a b t low is on h =
    let e : suc k ≡ k + 1 = omega arith in
    let next : drop k ms ≡ b ∷ drop (k + 1) ms = drop-cons ms k b low ∙ (λ n. sym is n ∷ drop (e n) ms) in
    let later = pairs_with meta i a (k + 1) (drop (k + 1) ms) in
    let opened : pairs_with meta i a k (drop k ms) ≡ cond t ((i, k) ∷ later) later =
    ap (pairs_with meta i a k) next
    ∙ (λ n. cond (on n) ((i, k) ∷ pairs_with meta i a (e n) (drop (k + 1) ms)) (pairs_with meta i a (e n) (drop (k + 1) ms))) in
    both t later ∙ ap (λ l. found ++ (l ++ rest)) (sym opened) ∙ h
  where
    both : (t : Bool) (later : List (ℕ × ℕ))
        → cond t (found ++ (i, k) ∷ []) found ++ (later ++ rest) ≡ found ++ (cond t ((i, k) ∷ later) later ++ rest)
    both true later = append_assoc found ((i, k) ∷ []) (later ++ rest)
    both false later = refl

module _ (meta : Meta) (left right : List Print) (ts ms : List Operation) (h : shown left ≡ printed meta ts) (g : shown right ≡ printed meta ms)
    (i k : ℕ) (p q : Print) (low : i < length ts) (high : k < length ms) (p_is : p ≡ get_or left i p) (q_is : q ≡ get_or right k q) where
  pub pair_turn : (found rest whole : List (ℕ × ℕ)) (t : Bool)
      → cells_interfere (cells p.writes) (cells p.reads) (cells q.writes) (cells q.reads) ≡ t → (a : Operation) → a ≡ get_or ts i a
      → found ++ (pairs_with meta i a k (drop k ms) ++ rest) ≡ whole
      → cond t (found ++ (i, k) ∷ []) found ++ (pairs_with meta i a (k + 1) (drop (k + 1) ms) ++ rest) ≡ whole
  pair_turn found rest whole t on a a_is is =
      let b = at_place ms k high in
      let b_is : b.0 ≡ get_or ms k b.0 = sym (get_or_from_slice_get ms k b.0 b.0 b.1) in
      pairs_next meta ms i k found rest whole a b.0 t high b_is (sym (pair_tells meta left right ts ms i k p q a b.0 h g low high p_is q_is a_is b_is) ∙ on) is

pub pairs_end : (meta : Meta) (ts ms : List Operation) (i : ℕ) (found whole : List (ℕ × ℕ)) → length ts ≤ i
    → found ++ pairs_from meta i (drop i ts) ms ≡ whole → found ≡ whole
pairs_end meta ts ms i found whole high h = sym (append-nil found) ∙ ap (λ os. found ++ pairs_from meta i os ms) (sym (drop_past ts i high)) ∙ h
