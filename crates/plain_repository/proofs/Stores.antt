-- A file stands for one list of events at most, and a damaged one for none; it is damaged at one place at most.
use Rattle.std.proofs.Common.{◌≡◌, ◌≢◌, inl, inr, ℕ, suc, ◌+◌, ◌^◌, ◌<◌, ◌≤◌, List, [], ◌∷◌, ◌++◌, Bool, true, ◌&&◌, length, take, drop, get_or, refl}
use Rattle.std.proofs.Common.{sym, ◌∙◌, ap, subst, arith, append_assoc, length-append}
use Rattle.std.specs.Prelude.{IsTrue, map, All}
use Rattle.std.proofs.lemmas.Bool.{cases_order}
use Rattle.std.proofs.lemmas.List.{get_or-drop, get_or-take, get_or_append_left, take_at}
use Rattle.commit_journal.specs.Journal.{StandsFor, ReadsTo, EndsAt, IsShort, IsNoHeader, header, record_of, records, four_bytes, MountedFrom, open_gate}
use Rattle.commit_journal.proofs.Ends.{length-header, length-record_of}
use Rattle.commit_journal.proofs.Unique.{one_meaning, form_same, rest_same, behind_header, stuck_for_all}
use Rattle.commit_journal.proofs.Mounting.{length-new_file}
use Rattle.command_runs.specs.Runs.{played}
use Rattle.op_form.specs.declared.event.Event.{Event}
use Rattle.op_form.specs.Events.{event_encoding}
use Rattle.plain_repository.specs.State.{State, empty}
use Rattle.plain_repository.specs.Events.{play, playable, are_playable}
use Rattle.plain_repository.specs.Store.{StandsForEvents, StandsForNoEvents, IsBroken, IsDamaged}
use Rattle.plain_repository.proofs.Encodings.{forms_are, and_left, and_right}

-- a file whose records end at a closed gate stands for their events alone
pub one_store : (file : List ℕ) (first made : List Event) (end : ℕ) → StandsForEvents file first → EndsAt file (map event_encoding made) end
    → IsTrue (are_playable empty made) → first ≡ made
one_store file first made end stood ends could =
    forms_are empty first made stood.playable could (one_meaning file (map event_encoding first) (map event_encoding made) end stood.forms ends)

first_of : (forms : List (List ℕ)) (f : List ℕ) → All IsShort (f ∷ forms) → IsShort f
first_of forms f all = all 0 [] (omega arith)

rest_of : (forms : List (List ℕ)) (f : List ℕ) → All IsShort (f ∷ forms) → All IsShort forms
rest_of forms f all k d low = all (suc k) d (omega arith)

-- records that are read stand first in every reading that comes to a closed gate
pub first_forms : (a b : List (List ℕ)) (s t : List ℕ) → records a ++ s ≡ records b ++ t → get_or t 0 0 ≢ open_gate → All IsShort a → All IsShort b
    → (more : List (List ℕ)) × (b ≡ a ++ more)
first_forms [] b s t same closed short_a short_b = (b, refl)
first_forms (f ∷ a) [] s t same closed short_a short_b = absurd (closed (sym (ap (λ (l : List ℕ). get_or l 0 0) same)))
first_forms (f ∷ a) (h ∷ b) s t same closed short_a short_b =
    let tails : (four_bytes (length f) ++ f) ++ (records a ++ s) ≡ (four_bytes (length h) ++ h) ++ (records b ++ t) =
    sym (append_assoc (four_bytes (length f) ++ f) (records a) s) ∙ ap (λ (l : List ℕ). drop 1 l) same
    ∙ append_assoc (four_bytes (length h) ++ h) (records b) t in
    let short_f = first_of a f short_a in
    let short_h = first_of b h short_b in
    let one = form_same f h (records a ++ s) (records b ++ t) short_f short_h tails in
    let rest = rest_same f h (records a ++ s) (records b ++ t) short_f short_h tails in
    let more = first_forms a b s t rest closed (rest_of a f short_a) (rest_of b h short_b) in
    (more.0, ap (λ (l : List ℕ). l ∷ b) (sym one) ∙ ap (λ (l : List (List ℕ)). f ∷ l) more.1)

pub reads_first : (file : List ℕ) (a b : List (List ℕ)) (p q : ℕ) → ReadsTo file a p → EndsAt file b q → (more : List (List ℕ)) × (b ≡ a ++ more)
reads_first file a b p q reads ends = first_forms a b (drop p file) (drop q file) (sym (behind_header file a p reads) ∙ behind_header file b q ends.reads)
    (λ open_. ends.closed (ap (λ (n : ℕ). get_or file n 0) (let same : q ≡ q + 0 = omega arith in same) ∙ sym (get_or-drop q file 0 0) ∙ open_))
    reads.sizes ends.reads.sizes

-- the events of a list of encodings with one more
pub split_last : (events : List Event) (forms : List (List ℕ)) (bytes : List ℕ) (more : List (List ℕ)) (s : State) → IsTrue (are_playable s events)
    → map event_encoding events ≡ (forms ++ bytes ∷ []) ++ more
    → (first : List Event) × (event : Event) × (map event_encoding first ≡ forms) × (event_encoding event ≡ bytes) × IsTrue (are_playable s first)
    × IsTrue (playable (played play s first) event)
split_last [] [] bytes more s could is = absurd cc
split_last [] (f ∷ forms) bytes more s could is = absurd cc
split_last (e ∷ events) [] bytes more s could is = let same : event_encoding e ≡ bytes = cc in ([], e, refl, same, refl, and_left _ _ could)
split_last (e ∷ events) (f ∷ forms) bytes more s could is =
    let head : event_encoding e ≡ f = cc in
    let tail : map event_encoding events ≡ (forms ++ bytes ∷ []) ++ more = cc in
    let rest = split_last events forms bytes more (play s e) (and_right _ _ could) tail in (
      e ∷ rest.0,
      rest.1,
      ap (λ (l : List ℕ). l ∷ map event_encoding rest.0) head ∙ ap (λ (l : List (List ℕ)). f ∷ l) rest.2,
      rest.3,
      subst (λ (b : Bool). IsTrue (b && are_playable (play s e) rest.0)) (sym (and_left _ _ could)) rest.4,
      rest.5,
    )

-- no events have these encodings, where the bytes of the last are no event that can be made
pub none_has : (made events : List Event) (bytes : List ℕ) (more : List (List ℕ)) → IsTrue (are_playable empty made)
    → ((event : Event) → IsTrue (playable (played play empty made) event) → bytes ≡ event_encoding event → ⊥)
    → IsTrue (are_playable empty events) → map event_encoding events ≡ (map event_encoding made ++ bytes ∷ []) ++ more → ⊥
none_has made events bytes more could none could_all is =
    let split = split_last events (map event_encoding made) bytes more empty could_all is in
    let same : split.0 ≡ made = forms_are empty split.0 made split.4 could split.2 in
    none split.1 (subst (λ (l : List Event). IsTrue (playable (played play empty l) split.1)) same split.5) (sym split.3)

-- a file is mounted: it stands for the same
pub from_mounted : (old new : List ℕ) (forms : List (List ℕ)) → MountedFrom old new → StandsFor new forms → StandsFor old forms
from_mounted old new forms (inl same) stood = subst (λ (l : List ℕ). StandsFor l forms) same.1 stood
from_mounted old new forms (inr fresh) (inl few) = inl (fresh.0, few.1)
from_mounted old new forms (inr fresh) (inr many) = absurd (omega (arith, many.0, ap length fresh.1, length-new_file))

-- one event more
pub map-more : (events : List Event) (event : Event) → map event_encoding (events ++ event ∷ []) ≡ map event_encoding events ++ event_encoding event ∷ []
map-more [] event = refl
map-more (e ∷ events) event = ap (λ (l : List (List ℕ)). event_encoding e ∷ l) (map-more events event)

pub playable-more : (s : State) (events : List Event) (event : Event) → IsTrue (are_playable s events)
    → IsTrue (playable (played play s events) event) → IsTrue (are_playable s (events ++ event ∷ []))
playable-more s [] event could can = subst (λ (b : Bool). IsTrue (b && true)) (sym can) refl
playable-more s (e ∷ events) event could can =
    subst (λ (b : Bool). IsTrue (b && are_playable (play s e) (events ++ event ∷ []))) (sym (and_left _ _ could))
    (playable-more (play s e) events event (and_right _ _ could) can)

-- a file stands for one list of events
pub same_events : (file : List ℕ) (first made : List Event) → StandsForEvents file first → StandsForEvents file made → first ≡ made
same_events file first made one two = forms_are empty first made one.playable two.playable (elim two.forms [
  | inl few ↦ elim one.forms [ inl x ↦ x.1 ∙ sym few.1 | inr x ↦ absurd (omega (arith, few.0, x.0)) ]
  | inr many ↦ one_meaning file (map event_encoding first) (map event_encoding made) many.1.0 one.forms many.1.1
])

-- the record that stands where shorter records end: its encoding, and the encodings after it
pub record NextForm (a b : List (List ℕ)) (s t : List ℕ) : Type 0 where
  pub form : List ℕ
  pub more : List (List ℕ)
  pub is : b ≡ a ++ form ∷ more
  pub short : IsShort form
  pub stands : s ≡ record_of form ++ (records more ++ t)
  pub within : length (records a) + (5 + length form) ≤ length (records b)

-- so it is after one form more
longer_form : (f h : List ℕ) (a b : List (List ℕ)) (s t : List ℕ) → f ≡ h → NextForm a b s t → NextForm (f ∷ a) (h ∷ b) s t
longer_form f h a b s t one next =
    let within = next.within in
    let size_f : length (records (f ∷ a)) ≡ 5 + length f + length (records a) = omega (arith, length-append (record_of f) (records a), length-record_of f) in
    let size_h : length (records (h ∷ b)) ≡ 5 + length h + length (records b) = omega (arith, length-append (record_of h) (records b), length-record_of h) in
    let size_same : length f ≡ length h = ap length one in
    record {
      form = next.form;
      more = next.more;
      is = ap (λ (l : List ℕ). l ∷ b) (sym one) ∙ ap (λ (l : List (List ℕ)). f ∷ l) next.is;
      short = next.short;
      stands = next.stands;
      within = omega (arith, within, size_f, size_h, size_same);
    }

next_form : (a b : List (List ℕ)) (s t : List ℕ) → records a ++ s ≡ records b ++ t → length (records a) < length (records b) → All IsShort a
    → All IsShort b → NextForm a b s t
next_form [] [] s t same longer short_a short_b = absurd (omega (arith, longer))
next_form [] (h ∷ b) s t same longer short_a short_b = record {
  form = h;
  more = b;
  is = refl;
  short = first_of b h short_b;
  stands = same ∙ append_assoc (record_of h) (records b) t;
  within = omega (arith, length-append (record_of h) (records b), length-record_of h);
}
next_form (f ∷ a) [] s t same longer short_a short_b = absurd (omega (arith, longer))
next_form (f ∷ a) (h ∷ b) s t same longer short_a short_b =
    let tails : (four_bytes (length f) ++ f) ++ (records a ++ s) ≡ (four_bytes (length h) ++ h) ++ (records b ++ t) =
    sym (append_assoc (four_bytes (length f) ++ f) (records a) s) ∙ ap (λ (l : List ℕ). drop 1 l) same
    ∙ append_assoc (four_bytes (length h) ++ h) (records b) t in
    let short_f = first_of a f short_a in
    let short_h = first_of b h short_b in
    let one = form_same f h (records a ++ s) (records b ++ t) short_f short_h tails in
    let rest = rest_same f h (records a ++ s) (records b ++ t) short_f short_h tails in
    let size_f : length (records (f ∷ a)) ≡ 5 + length f + length (records a) = omega (arith, length-append (record_of f) (records a), length-record_of f) in
    let size_h : length (records (h ∷ b)) ≡ 5 + length h + length (records b) = omega (arith, length-append (record_of h) (records b), length-record_of h) in
    let size_same : length f ≡ length h = ap length one in
    longer_form f h a b s t one (next_form a b s t rest (omega (arith, longer, size_f, size_h, size_same)) (rest_of a f short_a) (rest_of b h short_b))

last_same : (a more : List (List ℕ)) (x y : List ℕ) → a ++ x ∷ [] ≡ a ++ y ∷ more → x ≡ y
last_same [] more x y is = cc
last_same (f ∷ a) more x y is = let tail : a ++ x ∷ [] ≡ a ++ y ∷ more = cc in last_same a more x y tail

-- a file whose header differs reads as no records
no_header_reads : (file : List ℕ) (forms : List (List ℕ)) (place at : ℕ) → ReadsTo file forms place → IsNoHeader file at → ⊥
no_header_reads file forms place at reads none =
    let within = none.within in
    let inside : at < place = omega (arith, within, reads.offset_is) in
    none.differs (sym (get_or-take place file at 0 inside) ∙ ap (λ (l : List ℕ). get_or l at 0) reads.prefix
    ∙ get_or_append_left header (records forms) 0 at (omega (arith, within, length-header)))

-- of two places where the header differs neither is the earlier
no_header_before : (file : List ℕ) (a b : ℕ) → IsNoHeader file a → IsNoHeader file b → a < b → ⊥
no_header_before file a b one two before =
    one.differs (sym (get_or-take b file a 0 before) ∙ ap (λ (l : List ℕ). get_or l a 0) two.same ∙ get_or-take b header a 0 before)

-- a reading of events goes on where another is broken
module _ (file : List ℕ) (p q : ℕ) (events : List Event) (broken : IsBroken file p) (could : IsTrue (are_playable empty events))
    (reads : ReadsTo file (map event_encoding events) q) (before : p < q) (low : q < 2 ^ 40) where
  sizes : length (records (map event_encoding broken.events)) < length (records (map event_encoding events))
  sizes = let offset_p = broken.reads.offset_is in let offset_q = reads.offset_is in omega (arith, before, offset_p, offset_q)

  next : NextForm (map event_encoding broken.events) (map event_encoding events) (drop p file) (drop q file)
  next = next_form (map event_encoding broken.events) (map event_encoding events) (drop p file) (drop q file)
      (sym (behind_header file (map event_encoding broken.events) p broken.reads) ∙ behind_header file (map event_encoding events) q reads)
      sizes broken.reads.sizes reads.sizes

  room : p + 5 + length next.form < 2 ^ 40
  room = let offset_p = broken.reads.offset_is in let offset_q = reads.offset_is in let within = next.within in omega (arith, low, offset_p, offset_q, within)

  there : take (5 + length next.form) (drop p file) ≡ record_of next.form
  there = ap (λ (l : List ℕ). take (5 + length next.form) l) next.stands
      ∙ take_at (record_of next.form) (records next.more ++ drop q file) (5 + length next.form) (length-record_of next.form)

  pub goes_on : ⊥
  goes_on = elim broken.stuck [
    | inl stuck ↦ stuck.no_record next.form next.short room there
    | inr unplayable ↦
        let longer : length (records (map event_encoding broken.events)) < length (records (map event_encoding broken.events ++ unplayable.bytes ∷ [])) =
        (let offset_p = broken.reads.offset_is in let offset_u = unplayable.reads.offset_is in omega (arith, offset_p, offset_u)) in
        let last = next_form (map event_encoding broken.events) (map event_encoding broken.events ++ unplayable.bytes ∷ []) (drop p file)
        (drop (p + 5 + length unplayable.bytes) file)
        (sym (behind_header file (map event_encoding broken.events) p broken.reads)
        ∙ behind_header file (map event_encoding broken.events ++ unplayable.bytes ∷ []) (p + 5 + length unplayable.bytes) unplayable.reads)
        longer broken.reads.sizes unplayable.reads.sizes in
        let tails : (four_bytes (length last.form) ++ last.form)
        ++ (records last.more ++ drop (p + 5 + length unplayable.bytes) file) ≡ (four_bytes (length next.form) ++ next.form)
        ++ (records next.more ++ drop q file) =
        ap (λ (l : List ℕ). drop 1 l) (sym last.stands ∙ next.stands) in
        let same : unplayable.bytes ≡ next.form = last_same (map event_encoding broken.events) last.more unplayable.bytes last.form last.is
        ∙ form_same last.form next.form (records last.more ++ drop (p + 5 + length unplayable.bytes) file)
        (records next.more ++ drop q file) last.short next.short tails in
        none_has broken.events events unplayable.bytes next.more broken.playable unplayable.no_event could
        (next.is ∙ ap (λ (l : List ℕ). map event_encoding broken.events ++ l ∷ next.more) (sym same)
        ∙ sym (append_assoc (map event_encoding broken.events) (unplayable.bytes ∷ []) next.more))
  ]

-- a file is damaged at one place
pub same_damage : (file : List ℕ) (first second : ℕ) → IsDamaged file first → IsDamaged file second → first ≡ second
same_damage file first second one two = elim (cases_order first second) [
  | inl same ↦ same
  | inr other ↦ absurd (elim other [
    | inl before ↦ earlier first second one two before
    | inr behind ↦ earlier second first two one behind
  ])
]
  where
    earlier : (p q : ℕ) → IsDamaged file p → IsDamaged file q → p < q → ⊥
    earlier p q a b before = elim a.found [
      | inl none ↦ elim b.found [
        | inl other ↦ no_header_before file p q none other before
        | inr broken ↦ no_header_reads file (map event_encoding broken.events) q p broken.reads none
      ]
      | inr broken ↦ elim b.found [
        | inl none ↦ no_header_reads file (map event_encoding broken.events) p q broken.reads none
        | inr other ↦ goes_on file p q other.events broken other.playable other.reads before other.low
      ]
    ]

-- a file that is damaged stands for no events
pub damaged_for_none : (file : List ℕ) (at : ℕ) → IsDamaged file at → StandsForNoEvents file
damaged_for_none file at damaged events stood = elim stood.forms [
  | inl few ↦ let long = damaged.long in omega (arith, few.0, long)
  | inr many ↦ elim damaged.found [
    | inl none ↦ no_header_reads file (map event_encoding events) many.1.0 at many.1.1.reads none
    | inr broken ↦ elim broken.stuck [
      | inl stuck ↦ stuck_for_all file (map event_encoding broken.events) (map event_encoding events) at many.1.0 broken.reads stuck many.1.1
      | inr unplayable ↦
          let more = reads_first file (map event_encoding broken.events ++ unplayable.bytes ∷ []) (map event_encoding events)
          (at + 5 + length unplayable.bytes) many.1.0 unplayable.reads many.1.1 in
          none_has broken.events events unplayable.bytes more.0 broken.playable unplayable.no_event stood.playable more.1
    ]
  ]
]
