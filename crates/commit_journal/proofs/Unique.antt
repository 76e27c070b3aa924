-- A file reads in one way.
use Rattle.std.proofs.Common.{◌≡◌, ◌≢◌, inl, inr, ℕ, suc, ◌+◌, ◌^◌, ◌<◌, List, [], ◌∷◌, ◌++◌, length, take, drop, get_or, refl, sym, ◌∙◌, ap, subst}
use Rattle.std.proofs.Common.{arith, length-append, append_assoc, take-append-drop, w32}
use Rattle.std.proofs.lemmas.List.{take_at, drop_at, get_or-take, get_or-drop, get_or_append_left, length-drop}
use Rattle.std.specs.Prelude.{All}
use Rattle.std.specs.Int.{from_be_bytes}
use Rattle.commit_journal.specs.Journal.{header, four_bytes, record_of, records, IsShort, ReadsTo, EndsAt, StandsFor, StandsForNone, IsStuck}
use Rattle.commit_journal.specs.Journal.{IsNoHeader, IsMounted, open_gate}
use Rattle.commit_journal.proofs.Ends.{length-four_bytes, length-header, length-record_of, no_records}
use Rattle.commit_journal.proofs.Mounting.{new_ends}
use Rattle.commit_journal.proofs.Walking.{value_of-four_bytes}

first_of : (forms : List (List ℕ)) (f : List ℕ) → All IsShort (f ∷ forms) → IsShort f
first_of forms f all = all 0 [] (omega arith)

rest_of : (forms : List (List ℕ)) (f : List ℕ) → All IsShort (f ∷ forms) → All IsShort forms
rest_of forms f all k d low = all (suc k) d (omega arith)

-- records that the same bytes begin with are the same record, before the same rest
module _ (f h s t : List ℕ) (short_f : IsShort f) (short_h : IsShort h) (same : (four_bytes (length f) ++ f) ++ s ≡ (four_bytes (length h) ++ h) ++ t) where
  spread : four_bytes (length f) ++ (f ++ s) ≡ four_bytes (length h) ++ (h ++ t)
  spread = sym (append_assoc (four_bytes (length f)) f s) ∙ same ∙ append_assoc (four_bytes (length h)) h t

  field_same : four_bytes (length f) ≡ four_bytes (length h)
  field_same = sym (take_at (four_bytes (length f)) (f ++ s) 4 (length-four_bytes (length f))) ∙ ap (λ (l : List ℕ). take 4 l) spread
      ∙ take_at (four_bytes (length h)) (h ++ t) 4 (length-four_bytes (length h))

  size_same : length f ≡ length h
  size_same = sym (value_of-four_bytes (length f) (omega arith)) ∙ ap (from_be_bytes w32) field_same ∙ value_of-four_bytes (length h) (omega arith)

  behind : f ++ s ≡ h ++ t
  behind = sym (drop_at (four_bytes (length f)) (f ++ s) 4 (length-four_bytes (length f))) ∙ ap (λ (l : List ℕ). drop 4 l) spread
      ∙ drop_at (four_bytes (length h)) (h ++ t) 4 (length-four_bytes (length h))

  pub form_same : f ≡ h
  form_same = sym (take_at f s (length f) refl) ∙ ap (λ (l : List ℕ). take (length f) l) behind ∙ take_at h t (length f) (sym size_same)

  pub rest_same : s ≡ t
  rest_same = sym (drop_at f s (length f) refl) ∙ ap (λ (l : List ℕ). drop (length f) l) behind ∙ drop_at h t (length f) (sym size_same)

tail_same : (a b : ℕ) (s t : List ℕ) → a ∷ s ≡ b ∷ t → s ≡ t
tail_same a b s t e = ap (λ (l : List ℕ). drop 1 l) e

pub same_forms : (a b : List (List ℕ)) (s t : List ℕ) → records a ++ s ≡ records b ++ t → get_or s 0 0 ≢ open_gate → get_or t 0 0 ≢ open_gate
    → All IsShort a → All IsShort b → a ≡ b
same_forms [] [] s t same closed_s closed_t short_a short_b = refl
same_forms [] (h ∷ b) s t same closed_s closed_t short_a short_b = absurd (closed_s (ap (λ (l : List ℕ). get_or l 0 0) same))
same_forms (f ∷ a) [] s t same closed_s closed_t short_a short_b = absurd (closed_t (sym (ap (λ (l : List ℕ). get_or l 0 0) same)))
same_forms (f ∷ a) (h ∷ b) s t same closed_s closed_t short_a short_b =
    let tails : (four_bytes (length f) ++ f) ++ (records a ++ s) ≡ (four_bytes (length h) ++ h) ++ (records b ++ t) =
    sym (append_assoc (four_bytes (length f) ++ f) (records a) s) ∙ tail_same open_gate open_gate _ _ same
    ∙ append_assoc (four_bytes (length h) ++ h) (records b) t in
    let short_f = first_of a f short_a in
    let short_h = first_of b h short_b in
    let one = form_same f h (records a ++ s) (records b ++ t) short_f short_h tails in
    let rest = rest_same f h (records a ++ s) (records b ++ t) short_f short_h tails in
    let more = same_forms a b s t rest closed_s closed_t (rest_of a f short_a) (rest_of b h short_b) in
    (λ i. one i ∷ more i)

pub behind_header : (file : List ℕ) (forms : List (List ℕ)) (offset : ℕ) → ReadsTo file forms offset → drop 16 file ≡ records forms ++ drop offset file
behind_header file forms offset reads =
    ap (λ (l : List ℕ). drop 16 l)
    (sym (take-append-drop offset file) ∙ ap (λ (l : List ℕ). l ++ drop offset file) reads.prefix
    ∙ append_assoc header (records forms) (drop offset file))
    ∙ drop_at header (records forms ++ drop offset file) 16 length-header

pub one_reading : (file : List ℕ) (a b : List (List ℕ)) (p q : ℕ) → EndsAt file a p → EndsAt file b q → a ≡ b
one_reading file a b p q ends_a ends_b =
    same_forms a b (drop p file) (drop q file)
    (sym (behind_header file a p ends_a.reads) ∙ behind_header file b q ends_b.reads)
    (λ e. ends_a.closed (ap (λ (k : ℕ). get_or file k 0) (let z : p ≡ p + 0 = omega arith in z) ∙ sym (get_or-drop p file 0 0) ∙ e))
    (λ e. ends_b.closed (ap (λ (k : ℕ). get_or file k 0) (let z : q ≡ q + 0 = omega arith in z) ∙ sym (get_or-drop q file 0 0) ∙ e))
    ends_a.reads.sizes ends_b.reads.sizes

-- what stands for some byte strings and ends after others stands for the same
pub one_meaning : (file : List ℕ) (first forms : List (List ℕ)) (offset : ℕ) → StandsFor file first → EndsAt file forms offset → first ≡ forms
one_meaning file first forms offset (inl short) ends =
    short.1 ∙ sym (no_records forms (omega (arith, short.0, ends.in_file, ends.reads.offset_is)))
one_meaning file first forms offset (inr long) ends = one_reading file first forms long.1.0 offset long.1.1 ends

no_forms : (a b : List (List ℕ)) (s t : List ℕ) (base start : ℕ) → records a ++ s ≡ records b ++ t → start ≡ base + length (records a)
    → (0 < length s → get_or s 0 0 ≡ open_gate)
    → ((form : List ℕ) → IsShort form → start + 5 + length form < 2 ^ 40 → take (5 + length form) s ≡ record_of form → ⊥)
    → 0 < length t → get_or t 0 0 ≢ open_gate → All IsShort a → All IsShort b → base + length (records b) < 2 ^ 40 → ⊥
no_forms [] [] s t base start same start_is not_closed no_record some closed short_a short_b low =
    closed (ap (λ (l : List ℕ). get_or l 0 0) (sym same) ∙ not_closed (omega (arith, ap length same, some)))
no_forms [] (h ∷ b) s t base start same start_is not_closed no_record some closed short_a short_b low =
    let room : start + 5 + length h < 2 ^ 40 = omega (arith, start_is, low, length-append (record_of h) (records b), length-record_of h) in
    no_record h (first_of b h short_b) room
    (ap (λ (l : List ℕ). take (5 + length h) l) (same ∙ append_assoc (record_of h) (records b) t)
    ∙ take_at (record_of h) (records b ++ t) (5 + length h) (length-record_of h))
no_forms (f ∷ a) [] s t base start same start_is not_closed no_record some closed short_a short_b low =
    closed (sym (ap (λ (l : List ℕ). get_or l 0 0) same))
no_forms (f ∷ a) (h ∷ b) s t base start same start_is not_closed no_record some closed short_a short_b low =
    let tails : (four_bytes (length f) ++ f) ++ (records a ++ s) ≡ (four_bytes (length h) ++ h) ++ (records b ++ t) =
    sym (append_assoc (four_bytes (length f) ++ f) (records a) s) ∙ tail_same open_gate open_gate _ _ same
    ∙ append_assoc (four_bytes (length h) ++ h) (records b) t in
    let short_f = first_of a f short_a in
    let short_h = first_of b h short_b in
    let one = form_same f h (records a ++ s) (records b ++ t) short_f short_h tails in
    let rest = rest_same f h (records a ++ s) (records b ++ t) short_f short_h tails in
    no_forms a b s t (base + length (record_of f)) start rest
    (omega (arith, start_is, length-append (record_of f) (records a))) not_closed no_record some closed (rest_of a f short_a) (rest_of b h short_b)
    (omega (arith, low, length-append (record_of h) (records b), ap (λ (l : List ℕ). length (record_of l)) one))

-- where a reading is stuck the file stands for nothing
pub stuck_for_all : (file : List ℕ) (a b : List (List ℕ)) (p q : ℕ) → ReadsTo file a p → IsStuck file p → EndsAt file b q → ⊥
stuck_for_all file a b p q reads stuck ends =
    let in_file = ends.in_file in
    no_forms a b (drop p file) (drop q file) 16 p
    (sym (behind_header file a p reads) ∙ behind_header file b q ends.reads) reads.offset_is
    (λ some. get_or-drop p file 0 0 ∙ ap (λ (k : ℕ). get_or file k 0) (let z : p + 0 ≡ p = omega arith in z)
    ∙ stuck.not_closed (omega (arith, some, length-drop p file)))
    stuck.no_record
    (omega (arith, in_file, length-drop q file))
    (λ e. ends.closed (ap (λ (k : ℕ). get_or file k 0) (let z : q ≡ q + 0 = omega arith in z) ∙ sym (get_or-drop q file 0 0) ∙ e))
    reads.sizes ends.reads.sizes (omega (arith, ends.low, ends.reads.offset_is))

-- a file in which a reading is stuck stands for nothing
pub stuck_for_none : (file : List ℕ) (forms : List (List ℕ)) (offset : ℕ) → IsMounted file → ReadsTo file forms offset → IsStuck file offset
    → StandsForNone file
stuck_for_none file forms offset mounted reads stuck first (inr long) = stuck_for_all file forms first offset long.1.0 reads stuck long.1.1
stuck_for_none file forms offset (inl longer) reads stuck first (inl short) = absurd (omega (arith, longer, short.0))
stuck_for_none file forms offset (inr new) reads stuck first (inl short) =
    stuck_for_all file forms [] offset 16 reads stuck (subst (λ (l : List ℕ). EndsAt l [] 16) (sym new) new_ends)

-- a longer file with another header stands for nothing
pub headless_for_none : (file : List ℕ) (at : ℕ) → 17 < length file → IsNoHeader file at → StandsForNone file
headless_for_none file at longer none forms (inl short) = absurd (omega (arith, longer, short.0))
headless_for_none file at longer none forms (inr long) =
    let offset = long.1.0 in
    let reads = long.1.1.reads in
    let within = none.within in
    let inside : at < long.1.0 = omega (arith, reads.offset_is) in
    none.differs (sym (get_or-take offset file at 0 inside) ∙ ap (λ (l : List ℕ). get_or l at 0) reads.prefix
    ∙ get_or_append_left header (records forms) 0 at (omega (arith, length-header)))
