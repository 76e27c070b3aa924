-- What each of the two durable writes of an append leaves.
use Rattle.std.proofs.Common.{◌≡◌, inl, inr, ℕ, ◌+◌, ◌^◌, ◌<◌, ◌≤◌, List, [], ◌∷◌, ◌++◌, length, take, drop, get_or, refl, sym, ◌∙◌, ap, subst, arith}
use Rattle.std.proofs.Common.{append_assoc}
use Rattle.std.proofs.lemmas.List.{length-take, take_at, drop_at, get_or_at}
use Rattle.std.proofs.lemmas.Bool.{cases_eq}
use Rattle.std.specs.Prelude.{IsTrue}
use Rattle.host_port.specs.Host.{Told, GoesOn, Throughout, disk_now, Disk, Span, MayLeave, WrittenPart, overwritten, written, synced, CrashLeaves}
use Rattle.host_port.proofs.Replaying.{whole_write}
use Rattle.commit_journal.specs.TornWrites.{IsStable, Torn, IsWriting}
use Rattle.commit_journal.specs.Journal.{after_gate, HoldsRecord, RecordFits, IsReady, IsShort, EndsAt, IsJournalAtRest, IsBeforeOrAfter, IsGateLast, open_gate}
use Rattle.commit_journal.proofs.Torn.{torn_part, left_stable, torn_front, torn_back}
use Rattle.commit_journal.proofs.Ends.{stands, same_end, opened, shut, length-after_gate}
use Rattle.page_pool.specs.Frames.{Frames}
use Rattle.page_pool.specs.Paged.{PagedState, content}
use Rattle.host_port.proofs.Course.{carry_on, told_next}

pub synced_stable : (disk : Disk) → IsStable (synced disk)
synced_stable disk = record { tight = refl; same = refl }

part_torn : (old disk : Disk) (span : Span) → WrittenPart old span disk → Torn span old.now disk.now
part_torn old disk span part = record { no_shorter = part.no_shorter; no_longer = part.no_longer; kept = part.kept }

pub overwritten_back : (old : List ℕ) (at : ℕ) (bytes : List ℕ) → at ≤ length old → drop at (overwritten old at bytes) ≡ bytes ++ drop (at + length bytes) old
overwritten_back old at bytes fits =
    ap (λ (l : List ℕ). drop at l) (append_assoc (take at old) bytes (drop (at + length bytes) old))
    ∙ drop_at (take at old) (bytes ++ drop (at + length bytes) old) at (omega (arith, length-take at old))

module _ (old : Disk) (at : ℕ) (bytes : List ℕ) (stable : IsStable old) (fits : at ≤ length old.now) where
  pub whole_torn : Torn (record { from = at; to = at + length bytes }) old.now (overwritten old.now at bytes)
  whole_torn = part_torn old (written old at bytes) _ (whole_write old at bytes (written old at bytes) fits refl)

  -- what a read gives at a moment of the write
  pub now_torn : (disk : Disk) → IsWriting old at bytes disk → Torn (record { from = at; to = at + length bytes }) old.now disk.now
  now_torn disk (inl part) = part.torn
  now_torn disk (inr done) = subst (λ d. Torn (record { from = at; to = at + length bytes }) old.now d.now) (sym done) whole_torn

  -- what a crash leaves at a moment of the write
  pub left_torn : (disk : Disk) → IsWriting old at bytes disk → (x : List ℕ) → MayLeave disk x → Torn (record { from = at; to = at + length bytes }) old.now x
  left_torn disk (inl part) x left = torn_part old disk _ x stable part left
  left_torn disk (inr done) x left =
      let is = left_stable (synced (written old at bytes)) x (synced_stable (written old at bytes)) (subst (λ d. MayLeave d x) done left) in
      subst (λ (l : List ℕ). Torn (record { from = at; to = at + length bytes }) old.now l) (sym is) whole_torn

module _ (old : Disk) (forms : List (List ℕ)) (gate : ℕ) (form : List ℕ) (at_rest : IsJournalAtRest old forms gate) (short : IsShort form)
    (fits : gate + length form + 6 ≤ 2 ^ 40) where
  in_file : gate + 1 ≤ length old.now
  in_file = omega (arith, at_rest.ends.in_file)

  -- the record and the next gate first
  pub first_leaves : (disk : Disk) → IsWriting old (gate + 1) (after_gate form) disk → CrashLeaves (λ x. EndsAt x forms gate) disk
  first_leaves disk writing x left =
      let torn = left_torn old (gate + 1) (after_gate form) at_rest.stable in_file disk writing x left in
      same_end old.now forms gate at_rest.ends x (torn_front (gate + 1) (length (after_gate form)) old.now x torn (gate + 1) (omega arith) in_file)
      (omega (arith, torn.no_shorter, in_file))

  pub first_gate : (disk : Disk) → IsWriting old (gate + 1) (after_gate form) disk → CrashLeaves (λ x. get_or x gate 0 ≡ get_or old.now gate 0) disk
  first_gate disk writing x left =
      let torn = left_torn old (gate + 1) (after_gate form) at_rest.stable in_file disk writing x left in
      torn.kept gate (omega (arith, in_file)) (inl (omega arith))

  pub first_front : (disk : Disk) → IsWriting old (gate + 1) (after_gate form) disk → take gate disk.now ≡ take gate old.now
  first_front disk writing =
      torn_front (gate + 1) (length (after_gate form)) old.now disk.now
      (now_torn old (gate + 1) (after_gate form) at_rest.stable in_file disk writing) gate (omega arith) (omega (arith, in_file))

  abbrev staged : List ℕ
  staged = overwritten old.now (gate + 1) (after_gate form)

  abbrev mid : Disk
  mid = synced (written old (gate + 1) (after_gate form))

  staged_torn : Torn (record { from = gate + 1; to = gate + 1 + length (after_gate form) }) old.now staged
  staged_torn = whole_torn old (gate + 1) (after_gate form) at_rest.stable in_file

  staged_front : take gate staged ≡ take gate old.now
  staged_front = torn_front (gate + 1) (length (after_gate form)) old.now staged staged_torn gate (omega arith) (omega (arith, in_file))

  staged_back : drop (gate + 1) staged ≡ after_gate form ++ drop (gate + 1 + length (after_gate form)) old.now
  staged_back = overwritten_back old.now (gate + 1) (after_gate form) in_file

  staged_long : gate + 1 ≤ length staged
  staged_long = omega (arith, in_file, staged_torn.no_shorter)

  module _ (x : List ℕ) (torn : Torn (record { from = gate; to = gate + 1 }) staged x) where
    prefix : take gate x ≡ take gate old.now
    prefix = torn_front gate 1 staged x torn gate (omega arith) (omega (arith, staged_long)) ∙ staged_front

    back : drop (gate + 1) x ≡ after_gate form ++ drop (gate + 1 + length (after_gate form)) old.now
    back = torn_back gate 1 staged x torn ∙ staged_back

    long : gate < length x
    long = omega (arith, staged_long, torn.no_shorter)

    pub either : IsBeforeOrAfter forms form x
    either = elim (cases_eq (get_or x gate 0) open_gate) [
      | inl is_open ↦ inr (stands x (forms ++ form ∷ []) (gate + 5 + length form)
          (opened old.now forms gate at_rest.ends form (drop (gate + 1 + length (after_gate form)) old.now) x prefix back short fits long is_open))
      | inr is_shut ↦ inl (stands x forms gate
          (shut old.now forms gate at_rest.ends form (drop (gate + 1 + length (after_gate form)) old.now) x prefix back short fits long is_shut))
    ]

    pub after : get_or x gate 0 ≡ open_gate → EndsAt x (forms ++ form ∷ []) (gate + 5 + length form)
    after is_open = opened old.now forms gate at_rest.ends form (drop (gate + 1 + length (after_gate form)) old.now) x prefix back short fits long is_open

    pub behind_stays : take (length (after_gate form)) (drop (gate + 1) x) ≡ after_gate form
    behind_stays = ap (λ (l : List ℕ). take (length (after_gate form)) l) back
        ∙ take_at (after_gate form) (drop (gate + 1 + length (after_gate form)) old.now) (length (after_gate form)) refl

  -- and then the gate
  pub second_leaves : (disk : Disk) → IsWriting mid gate (open_gate ∷ []) disk → CrashLeaves (IsBeforeOrAfter forms form) disk
  second_leaves disk writing x left =
      either x (left_torn mid gate (open_gate ∷ []) (synced_stable (written old (gate + 1) (after_gate form)))
      (omega (arith, staged_long)) disk writing x left)

  pub second_front : (disk : Disk) → IsWriting mid gate (open_gate ∷ []) disk → take gate disk.now ≡ take gate old.now
  second_front disk writing =
      prefix disk.now (now_torn mid gate (open_gate ∷ []) (synced_stable (written old (gate + 1) (after_gate form)))
      (omega (arith, staged_long)) disk writing)

  pub second_behind : (disk : Disk) → IsWriting mid gate (open_gate ∷ []) disk → take (length (after_gate form)) (drop (gate + 1) disk.stable) ≡ after_gate form
  second_behind disk (inl part) =
      ap (λ (l : List ℕ). take (length (after_gate form)) (drop (gate + 1) l)) part.stable
      ∙ ap (λ (l : List ℕ). take (length (after_gate form)) l) staged_back
      ∙ take_at (after_gate form) (drop (gate + 1 + length (after_gate form)) old.now) (length (after_gate form)) refl
  second_behind disk (inr done) = ap (λ d. take (length (after_gate form)) (drop (gate + 1) d.stable)) done
      ∙ behind_stays (overwritten staged gate (open_gate ∷ []))
      (whole_torn mid gate (open_gate ∷ []) (synced_stable (written old (gate + 1) (after_gate form))) (omega (arith, staged_long)))

  pub second_done : (disk : Disk) → disk ≡ synced (written mid gate (open_gate ∷ [])) → IsJournalAtRest disk (forms ++ form ∷ []) (gate + 5 + length form)
  second_done disk done =
      let torn = whole_torn mid gate (open_gate ∷ []) (synced_stable (written old (gate + 1) (after_gate form))) (omega (arith, staged_long)) in
      let back = overwritten_back staged gate (open_gate ∷ []) (omega (arith, staged_long)) in
      let new = overwritten staged gate (open_gate ∷ []) in
      let gate_is : get_or new gate 0 ≡ open_gate =
      ap (λ (l : List ℕ). get_or l gate 0) (append_assoc (take gate staged) (open_gate ∷ []) (drop (gate + 1) staged))
      ∙ get_or_at (take gate staged) open_gate (drop (gate + 1) staged) 0 gate (omega (arith, length-take gate staged, staged_long)) in
      subst (λ d. IsJournalAtRest d (forms ++ form ∷ []) (gate + 5 + length form)) (sym done)
      (record { stable = synced_stable (written mid gate (open_gate ∷ [])); ends = after new torn gate_is })

pub is_short : (gate : ℕ) (form : List ℕ) → RecordFits gate (length form) → IsShort form
is_short gate form fit = omega (arith, fit.short)

-- whatever byte string a ready record holds fits
pub fits_held : (pool : Frames) (prepared : PagedState) (end : ℕ) → IsReady pool prepared end → (form : List ℕ) → HoldsRecord pool prepared form
    → RecordFits end (length form)
fits_held pool prepared end ready form held =
    let a = ready.1.size in
    let b = held.size in
    let c = length-after_gate ready.0 in
    let d = length-after_gate form in
    let same : length ready.0 ≡ length form = omega (arith, a, b, c, d) in
    subst (λ (n : ℕ). RecordFits end n) same ready.2

-- what is written is what a ready record holds
pub bytes_of : (pool : Frames) (prepared paged : PagedState) (form : List ℕ) → paged ≡ prepared → HoldsRecord pool prepared form
    → content pool paged ≡ after_gate form
bytes_of pool prepared paged form is held = ap (λ (p : PagedState). content pool p) is ∙ held.content_is

module _ (a b : Told) (gate at : ℕ) (form bytes : List ℕ) (gate_is : at ≡ gate) (bytes_is : bytes ≡ after_gate form) (fit : RecordFits gate (length form))
    (during : Throughout a b (λ disk said. IsWriting (disk_now a) (at + 1) bytes disk)) where
  first : Throughout a b (λ disk said. IsWriting (disk_now a) (gate + 1) (after_gate form) disk)
  first told t low high =
      subst (λ (n : ℕ). IsWriting (disk_now a) (n + 1) (after_gate form) (b.disk t)) gate_is
      (subst (λ (l : List ℕ). IsWriting (disk_now a) (at + 1) l (b.disk t)) bytes_is (during told t low high))

  pub one_any_moment : (forms : List (List ℕ)) → IsJournalAtRest (disk_now a) forms gate
      → Throughout a b (λ disk said. CrashLeaves (IsBeforeOrAfter forms form) disk)
  one_any_moment forms at_rest told t low high x left =
      inl (stands x forms gate
      (first_leaves (disk_now a) forms gate form at_rest (is_short gate form fit) fit.room (b.disk t) (first told t low high) x left))

  pub one_front : (IsTrue a.tells → (forms : List (List ℕ)) × IsJournalAtRest (disk_now a) forms gate)
      → Throughout a b (λ disk said. take gate disk.now ≡ take gate (disk_now a).now)
  one_front rest told t low high =
      first_front (disk_now a) (rest told).0 gate form (rest told).1 (is_short gate form fit) fit.room (b.disk t) (first told t low high)

  pub one_gate_last : (IsTrue a.tells → (forms : List (List ℕ)) × IsJournalAtRest (disk_now a) forms gate)
      → Throughout a b (λ disk said. IsGateLast (disk_now a) gate (after_gate form) disk)
  one_gate_last rest told t low high =
      inl (first_gate (disk_now a) (rest told).0 gate form (rest told).1 (is_short gate form fit) fit.room (b.disk t) (first told t low high))

  module _ (c : Told) (ab : GoesOn a b) (bc : GoesOn b c) (done : IsTrue a.tells → disk_now b ≡ synced (written (disk_now a) (at + 1) bytes))
      (later : Throughout b c (λ disk said. IsWriting (disk_now b) at (open_gate ∷ []) disk)) where
    mid_is : IsTrue a.tells → disk_now b ≡ synced (written (disk_now a) (gate + 1) (after_gate form))
    mid_is told = done told ∙ ap (λ (n : ℕ). synced (written (disk_now a) (n + 1) bytes)) gate_is
        ∙ ap (λ (l : List ℕ). synced (written (disk_now a) (gate + 1) l)) bytes_is

    second : IsTrue a.tells → (t : ℕ) → b.clock ≤ t → t ≤ c.clock
        → IsWriting (synced (written (disk_now a) (gate + 1) (after_gate form))) gate (open_gate ∷ []) (c.disk t)
    second told t low high = subst (λ (n : ℕ). IsWriting (synced (written (disk_now a) (gate + 1) (after_gate form))) n (open_gate ∷ []) (c.disk t)) gate_is
        (subst (λ (d : Disk). IsWriting d at (open_gate ∷ []) (c.disk t)) (mid_is told) (later (told_next a b ab told) t low high))

    pub two_any_moment : (forms : List (List ℕ)) → IsJournalAtRest (disk_now a) forms gate
        → Throughout a c (λ disk said. CrashLeaves (IsBeforeOrAfter forms form) disk)
    two_any_moment forms at_rest told = carry_on a b c (λ disk said. CrashLeaves (IsBeforeOrAfter forms form) disk) ab bc (one_any_moment forms at_rest)
        (λ told_b t low high. second_leaves (disk_now a) forms gate form at_rest (is_short gate form fit) fit.room (c.disk t) (second told t low high)) told

    pub two_front : (IsTrue a.tells → (forms : List (List ℕ)) × IsJournalAtRest (disk_now a) forms gate)
        → Throughout a c (λ disk said. take gate disk.now ≡ take gate (disk_now a).now)
    two_front rest told = carry_on a b c (λ disk said. take gate disk.now ≡ take gate (disk_now a).now) ab bc (one_front rest)
        (λ told_b t low high. second_front (disk_now a) (rest told).0 gate form (rest told).1 (is_short gate form fit) fit.room (c.disk t)
        (second told t low high)) told

    pub two_gate_last : (IsTrue a.tells → (forms : List (List ℕ)) × IsJournalAtRest (disk_now a) forms gate)
        → Throughout a c (λ disk said. IsGateLast (disk_now a) gate (after_gate form) disk)
    two_gate_last rest told = carry_on a b c (λ disk said. IsGateLast (disk_now a) gate (after_gate form) disk) ab bc (one_gate_last rest)
        (λ told_b t low high. inr
        (second_behind (disk_now a) (rest told).0 gate form (rest told).1 (is_short gate form fit) fit.room (c.disk t) (second told t low high))) told

    pub added : (IsTrue b.tells → disk_now c ≡ synced (written (disk_now b) at (open_gate ∷ []))) → IsTrue a.tells → (forms : List (List ℕ))
        → IsJournalAtRest (disk_now a) forms gate → IsJournalAtRest (disk_now c) (forms ++ form ∷ []) (gate + 5 + length form)
    added ended told forms at_rest = second_done (disk_now a) forms gate form at_rest (is_short gate form fit) fit.room (disk_now c)
        (ended (told_next a b ab told) ∙ ap (λ (n : ℕ). synced (written (disk_now b) n (open_gate ∷ []))) gate_is
        ∙ ap (λ (d : Disk). synced (written d gate (open_gate ∷ []))) (mid_is told))
