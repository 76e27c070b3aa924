-- Each file of bytes stands for a list of events, or is damaged at an offset: it is read from its header on.
use Rattle.std.proofs.Common.{◌≡◌, ◌⊎◌, inl, inr, ℕ, zero, suc, ◌+◌, ◌^◌, ◌<◌, ◌≤◌, Bool, true, false, List, [], ◌∷◌, ◌++◌, Result, Ok, Err, length}
use Rattle.std.proofs.Common.{take, drop, get_or, refl, sym, ◌∙◌, ap, subst, arith, take-suc, w32}
use Rattle.std.specs.Prelude.{IsTrue, map}
use Rattle.std.specs.Int.{from_be_bytes}
use Rattle.std.proofs.lemmas.Bool.{cases_lt, cases_order}
use Rattle.std.proofs.lemmas.List.{append-nil, length-take, length-drop}
use Rattle.byte_form.specs.Laws.{AreBytes}
use Rattle.byte_form.proofs.FieldLemmas.{are_bytes-take, are_bytes-drop, wide32}
use Rattle.commit_journal.specs.Journal.{ReadsTo, IsNoHeader, IsClosed, IsStuck, IsOpen, four_bytes, header, most_bytes, open_gate, new_size}
use Rattle.commit_journal.proofs.Ends.{length-header, stands}
use Rattle.commit_journal.proofs.Walking.{four_bytes-value_of, past_end, too_short, no_room, one_record}
use Rattle.command_runs.specs.Runs.{played}
use Rattle.op_form.specs.declared.event.Event.{Event}
use Rattle.op_form.specs.Events.{event_encoding}
use Rattle.op_reading.specs.declared.fault.FormFault.{FormFault}
use Rattle.op_reading.specs.Events.{event_at, whole_of}
use Rattle.plain_repository.specs.State.{State, empty}
use Rattle.plain_repository.specs.Events.{play, playable, are_playable}
use Rattle.plain_repository.proofs.Stores.{map-more, playable-more}
use Rattle.plain_repository.specs.Store.{StandsOrIsDamaged}
use Rattle.plain_repository.proofs.Decoded.{decoded, none_spelled, other_spelled}

-- a record of that size stands there, and is within the limits
abbrev pub IsRecord : List ℕ → ℕ → ℕ → Type 0
IsRecord file place size = IsOpen file place size × (size ≤ most_bytes) × (place + 5 + size < 2 ^ 40)

-- a closed gate stands there, or a record, or neither
abbrev pub AtGate : List ℕ → ℕ → Type 0
AtGate file place = IsClosed file place ⊎ (IsStuck file place ⊎ ((size : ℕ) × IsRecord file place size))

module _ (file : List ℕ) (bytes : AreBytes file) (place : ℕ) where
  abbrev field : List ℕ
  field = take 4 (drop (place + 1) file)

  abbrev number : ℕ
  number = from_be_bytes w32 field

  at_open_gate : get_or file place 0 ≡ open_gate → place + 5 ≤ length file → AtGate file place
  at_open_gate is_open long =
      let are : AreBytes field = are_bytes-take 4 (drop (place + 1) file) (are_bytes-drop (place + 1) file bytes) in
      let four : length field ≡ 4 = omega (arith, length-take 4 (drop (place + 1) file), length-drop (place + 1) file, long) in
      let is : field ≡ four_bytes number = sym (four_bytes-value_of field number four are refl) in
      let low : number < 2 ^ 32 = wide32.below field four are in
      elim (cases_lt most_bytes number) [
        | inl large ↦ inr (inl (no_room file place number is_open is low (λ small below. absurd (omega (arith, large, small)))))
        | inr small ↦ elim (cases_lt (place + 5 + number) (2 ^ 40)) [
          | inr far ↦ inr (inl (no_room file place number is_open is low (λ small below. absurd (omega (arith, far, below)))))
          | inl below ↦ elim (cases_lt (length file) (place + 5 + number)) [
            | inl past ↦ inr (inl (no_room file place number is_open is low (λ small below. past)))
            | inr whole ↦ inr (inr (number, (record { opened = is_open; length_is = is; whole = whole }, small, below)))
          ]
        ]
      ]

  pub at_gate : AtGate file place
  at_gate = elim (cases_lt place (length file)) [
    | inr past ↦ inr (inl (past_end file place past))
    | inl low ↦ elim (cases_order (get_or file place 0) open_gate) [
      | inr other ↦ inl (record { in_file = low; closed = λ is. elim other [ inl less ↦ omega (arith, less, is) | inr more ↦ omega (arith, more, is) ] })
      | inl is_open ↦ elim (cases_lt (length file) (place + 5)) [
        | inl short ↦ inr (inl (too_short file place low is_open (omega (arith, short, low))))
        | inr long ↦ at_open_gate is_open long
      ]
    ]
  ]

module _ (file : List ℕ) (bytes : AreBytes file) (long : new_size < length file) where
  -- where the header ends it is whole, or one of its bytes differs
  header_from : (n i : ℕ) → n + i ≡ 16 → take i file ≡ take i header → (take 16 file ≡ header) ⊎ ((at : ℕ) × IsNoHeader file at)
  unfolding header
  header_from zero i is same = let whole : i ≡ 16 = omega (arith, is) in inl (subst (λ (k : ℕ). take k file ≡ take k header) whole same)
  header_from (suc n) i is same = elim (cases_order (get_or file i 0) (get_or header i 0)) [
    | inl equal ↦ header_from n (suc i) (omega (arith, is)) (take-suc file i 0 (omega (arith, is, long))
        ∙ ap (λ (l : List ℕ). l ++ get_or file i 0 ∷ []) same ∙ ap (λ (b : ℕ). take i header ++ b ∷ []) equal
        ∙ sym (take-suc header i 0 (omega (arith, is, length-header))))
    | inr other ↦ inr (
      i,
      record {
        within = omega (arith, is);
        same = same;
        differs = λ is. elim other [ inl less ↦ omega (arith, less, is) | inr more ↦ omega (arith, more, is) ];
      },
    )
  ]

  -- the records up to an offset are those of some events
  module _ (events : List Event) (place : ℕ) (low : place < 2 ^ 40) (could : IsTrue (are_playable empty events))
      (reads : ReadsTo file (map event_encoding events) place) where
    abbrev state : State
    state = played play empty events

    stuck_there : IsStuck file place → StandsOrIsDamaged file
    stuck_there stuck = inr
        (place, record { long = long; found = inr (record { events = events; playable = could; reads = reads; low = low; stuck = inl stuck }) })

    closed_there : IsClosed file place → StandsOrIsDamaged file
    closed_there closed = inl (
      events,
      record {
        forms = stands file (map event_encoding events) place (record { reads = reads; in_file = closed.in_file; closed = closed.closed; low = low });
        playable = could;
      },
    )

    module _ (size : ℕ) (there : IsRecord file place size) where
      abbrev form : List ℕ
      form = take size (drop (place + 5) file)

      form_reads : ReadsTo file (map event_encoding events ++ form ∷ []) (place + 5 + size)
      form_reads = one_record file place (map event_encoding events) form size reads there.0 there.1 refl

      length_is : place + 5 + size ≡ place + 5 + length form
      length_is = let whole = there.0.whole in omega (arith, whole, length-take size (drop (place + 5) file), length-drop (place + 5) file)

      -- its bytes are no event that could be made
      no_event_there : ((event : Event) → IsTrue (playable state event) → form ≡ event_encoding event → ⊥) → StandsOrIsDamaged file
      no_event_there none = inr (
        place,
        record {
          long = long;
          found = inr (record {
            events = events;
            playable = could;
            reads = reads;
            low = low;
            stuck = inr (record {
              bytes = form;
              reads = subst (λ (n : ℕ). ReadsTo file (map event_encoding events ++ form ∷ []) n) length_is form_reads;
              no_event = none;
            });
          });
        },
      )

      module _ (on : (event : Event) → IsTrue (playable state event) → form ≡ event_encoding event → StandsOrIsDamaged file) where
        tested : (event : Event) → whole_of event_at form ≡ Ok event → (can : Bool) → playable state event ≡ can → StandsOrIsDamaged file
        tested event read true can =
            on event can (decoded form event (are_bytes-take size (drop (place + 5) file) (are_bytes-drop (place + 5) file bytes)) read).1
        tested event read false cannot = no_event_there (other_spelled state form event read cannot)

        read_there : (read : Result Event FormFault) → whole_of event_at form ≡ read → StandsOrIsDamaged file
        read_there (Err fault) read = no_event_there (none_spelled state form fault read)
        read_there (Ok event) read = tested event read (playable state event) refl

  -- from an offset on, where so many bytes are left at most
  from_place : (left place : ℕ) → length file ≤ left + place → (events : List Event) → place < 2 ^ 40 → IsTrue (are_playable empty events)
      → ReadsTo file (map event_encoding events) place → StandsOrIsDamaged file
  from_place zero place few events low could reads = stuck_there events place low could reads (past_end file place (omega (arith, few)))
  from_place (suc left) place few events low could reads = elim (at_gate file bytes place) [
    | inl closed ↦ closed_there events place low could reads closed
    | inr other ↦ elim other [
      | inl stuck ↦ stuck_there events place low could reads stuck
      | inr found ↦ read_there events place low could reads found.0 found.1
          (λ event can is. from_place left (place + 5 + found.0) (omega (arith, few)) (events ++ event ∷ []) found.1.2
          (playable-more empty events event could can)
          (subst (λ (l : List (List ℕ)). ReadsTo file l (place + 5 + found.0))
          (ap (λ (l : List ℕ). map event_encoding events ++ l ∷ []) is ∙ sym (map-more events event))
          (form_reads events place low could reads found.0 found.1)))
          (whole_of event_at (take found.0 (drop (place + 5) file))) refl
    ]
  ]

pub each_file : (file : List ℕ) → AreBytes file → StandsOrIsDamaged file
each_file file bytes = elim (cases_lt new_size (length file)) [
  | inr few ↦ inl ([], record { forms = inl (few, refl); playable = refl })
  | inl long ↦ elim (header_from file bytes long 16 0 refl refl) [
    | inr none ↦ inr (none.0, record { long = long; found = inl none.1 })
    | inl whole ↦ from_place file bytes long (length file) 16 (omega arith) [] (omega arith) refl
        (record { prefix = whole ∙ sym (append-nil header); offset_is = refl; sizes = λ k d low. absurd (omega (arith, low)) })
  ]
]
