-- A run gathers what is kept before what is dropped, where none of the one interferes with any of the other.
use Rattle.std.proofs.Common.{◌≡◌, ℕ, suc, Bool, true, false, cond, List, [], ◌∷◌, ◌++◌, refl, subst}
use Rattle.std.specs.Prelude.{Some, slice_get}
use Rattle.std.proofs.lemmas.List.{append_assoc}
use Rattle.ecore_meta.specs.Meta.{Meta}
use Rattle.model_state.specs.State.{State}
use Rattle.model_state.specs.Good.{Good, Sound}
use Rattle.model_state.specs.declared.operation.Operation.{Operation}
use Rattle.footprint.specs.Interference.{interferes, Free, NoPair}
use Rattle.footprint.proofs.Pairs.{symmetric_false}
use Rattle.footprint.proofs.Runs.{Leads, cut, join, packages_keep, packages_exchange}
use Rattle.merge_laws.specs.Merge.{dropped, kept}

-- ---- pairs
free_of_each : (meta : Meta) (o : Operation) (ps : List Operation) → NoPair meta ps (o ∷ []) → Free meta o ps
free_of_each meta o [] h = tt
free_of_each meta o (p ∷ ps) h = (symmetric_false meta p o h.0.0, free_of_each meta o ps h.1)

pair_first : (meta : Meta) (ps : List Operation) (q : Operation) (qs : List Operation) → NoPair meta ps (q ∷ qs) → NoPair meta ps (q ∷ [])
pair_first meta [] q qs h = tt
pair_first meta (p ∷ ps) q qs h = ((h.0.0, tt), pair_first meta ps q qs h.1)

pair_rest : (meta : Meta) (ps : List Operation) (q : Operation) (qs : List Operation) → NoPair meta ps (q ∷ qs) → NoPair meta ps qs
pair_rest meta [] q qs h = tt
pair_rest meta (p ∷ ps) q qs h = (h.0.1, pair_rest meta ps q qs h.1)

-- ---- the rearrangement
pub gather : (meta : Meta) → Sound meta → (p : ℕ → Bool) (os : List Operation) (m n : State) → Good meta m → NoPair meta (kept p os) (dropped p os)
    → Leads meta m os n → Leads meta m (kept p os ++ dropped p os) n
gather meta sound p [] m n good none h = h
gather meta sound p (o ∷ os) m n good none h =
    let later : ℕ → Bool = λ i. p (suc i) in
    let k = kept later os in
    let d = dropped later os in
    let x = cut meta m n (o ∷ []) os h in
    let good_x = packages_keep meta sound m x.0 good (o ∷ []) x.1 in
    let on : NoPair meta k d → Leads meta x.0 (k ++ d) n = λ apart. gather meta sound later os x.0 n good_x apart x.2 in
    elim (p 0) as (λ b. NoPair meta (cond b k (o ∷ k)) (cond b (o ∷ d) d) → Leads meta m (cond b k (o ∷ k) ++ cond b (o ∷ d) d) n) [
      | false ↦ λ apart. join meta m x.0 n (o ∷ []) (k ++ d) x.1 (on apart.1)
      | true ↦ λ apart.
          let y = cut meta x.0 n k d (on (pair_rest meta k o d apart)) in
          let turned = packages_exchange meta sound (o ∷ []) k m y.0 good (free_of_each meta o k (pair_first meta k o d apart), tt)
          (join meta m x.0 y.0 (o ∷ []) k x.1 y.1) in
          subst (λ l. Leads meta m l n) (append_assoc k (o ∷ []) d) (join meta m y.0 n (k ++ (o ∷ [])) d turned y.2)
    ] none

-- ---- from positions to pairs: what is said of the operations at two positions, by the tests of the positions
abbrev pub Says : Meta → (ℕ → Bool) → Bool → List Operation → Operation → Type 0
Says meta q t ps o = (k : ℕ) (b : Operation) → slice_get ps k ≡ Some b → q k ≡ t → interferes meta o b ≡ false

free_dropped : (meta : Meta) (o : Operation) (q : ℕ → Bool) (ps : List Operation) → Says meta q true ps o → Free meta o (dropped q ps)
free_dropped meta o q [] says = tt
free_dropped meta o q (b ∷ ps) says =
    let rest = free_dropped meta o (λ i. q (suc i)) ps (λ k c at is. says (suc k) c at is) in
    elim (q 0) as (λ t. q 0 ≡ t → Free meta o (cond t (b ∷ dropped (λ i. q (suc i)) ps) (dropped (λ i. q (suc i)) ps))) [
      | true ↦ λ is. (says 0 b refl is, rest)
      | false ↦ λ _. rest
    ] refl

free_kept : (meta : Meta) (o : Operation) (q : ℕ → Bool) (ps : List Operation) → Says meta q false ps o → Free meta o (kept q ps)
free_kept meta o q [] says = tt
free_kept meta o q (b ∷ ps) says =
    let rest = free_kept meta o (λ i. q (suc i)) ps (λ k c at is. says (suc k) c at is) in
    elim (q 0) as (λ t. q 0 ≡ t → Free meta o (cond t (kept (λ i. q (suc i)) ps) (b ∷ kept (λ i. q (suc i)) ps))) [
      | true ↦ λ _. rest
      | false ↦ λ is. (says 0 b refl is, rest)
    ] refl

-- each operation at a position that the test fails is free of the list
kept_pairs : (meta : Meta) (p : ℕ → Bool) (os qs : List Operation)
    → ((i : ℕ) (a : Operation) → slice_get os i ≡ Some a → p i ≡ false → Free meta a qs) → NoPair meta (kept p os) qs
kept_pairs meta p [] qs free = tt
kept_pairs meta p (o ∷ os) qs free =
    let rest = kept_pairs meta (λ i. p (suc i)) os qs (λ i a at is. free (suc i) a at is) in
    elim (p 0) as (λ t. p 0 ≡ t → NoPair meta (cond t (kept (λ i. p (suc i)) os) (o ∷ kept (λ i. p (suc i)) os)) qs) [
      | true ↦ λ _. rest
      | false ↦ λ is. (free 0 o refl is, rest)
    ] refl

pub kept_dropped : (meta : Meta) (p q : ℕ → Bool) (os ps : List Operation)
    → ((i k : ℕ) (a b : Operation) → slice_get os i ≡ Some a → slice_get ps k ≡ Some b → p i ≡ false → q k ≡ true → interferes meta a b ≡ false)
    → NoPair meta (kept p os) (dropped q ps)
kept_dropped meta p q os ps says = kept_pairs meta p os (dropped q ps) (λ i a at is. free_dropped meta a q ps (λ k b there on. says i k a b at there is on))

-- each operation at a position that the test passes is free of the list
dropped_pairs : (meta : Meta) (p : ℕ → Bool) (os qs : List Operation)
    → ((i : ℕ) (a : Operation) → slice_get os i ≡ Some a → p i ≡ true → Free meta a qs) → NoPair meta (dropped p os) qs
dropped_pairs meta p [] qs free = tt
dropped_pairs meta p (o ∷ os) qs free =
    let rest = dropped_pairs meta (λ i. p (suc i)) os qs (λ i a at is. free (suc i) a at is) in
    elim (p 0) as (λ t. p 0 ≡ t → NoPair meta (cond t (o ∷ dropped (λ i. p (suc i)) os) (dropped (λ i. p (suc i)) os)) qs) [
      | true ↦ λ is. (free 0 o refl is, rest)
      | false ↦ λ _. rest
    ] refl

pub dropped_dropped : (meta : Meta) (p q : ℕ → Bool) (os ps : List Operation)
    → ((i k : ℕ) (a b : Operation) → slice_get os i ≡ Some a → slice_get ps k ≡ Some b → p i ≡ true → q k ≡ true → interferes meta a b ≡ false)
    → NoPair meta (dropped p os) (dropped q ps)
dropped_dropped meta p q os ps says =
    dropped_pairs meta p os (dropped q ps) (λ i a at is. free_dropped meta a q ps (λ k b there on. says i k a b at there is on))

pub kept_kept : (meta : Meta) (p q : ℕ → Bool) (os ps : List Operation)
    → ((i k : ℕ) (a b : Operation) → slice_get os i ≡ Some a → slice_get ps k ≡ Some b → p i ≡ false → q k ≡ false → interferes meta a b ≡ false)
    → NoPair meta (kept p os) (kept q ps)
kept_kept meta p q os ps says = kept_pairs meta p os (kept q ps) (λ i a at is. free_kept meta a q ps (λ k b there on. says i k a b at there is on))
