-- Writing the pieces of a byte string one after another.
use Rattle.std.proofs.Common.{◌≡◌, ◌⊎◌, inl, inr, ⊎_elim, ℕ, ◌+◌, ◌≤◌, List, [], ◌++◌, length, take, drop, refl, sym, ap, subst, ◌∙◌, arith}
use Rattle.std.proofs.Common.{append_assoc, length-append}
use Rattle.std.specs.Prelude.{IsTrue}
use Rattle.std.proofs.lemmas.List.{length-take, length-drop, take_at, drop_at, drop-drop, take-append-drop, take-take, drop-take, take_all, append-nil}
use Rattle.std.proofs.lemmas.List.Elements.{All-contains_itself}
use Rattle.host_port.specs.Host.{Told, Disk, Span, GoesOn, Throughout, KeepsSaid, KeepsInput, RaisesDiskAlone, disk_now, WrittenPart, overwritten}
use Rattle.host_port.specs.Host.{written, synced}
use Rattle.host_port.proofs.Course.{told_next, carry_on, at_last, course_on, course_still, still_said, still_input, keeps_said_on, keeps_input_on}
use Rattle.host_port.proofs.Course.{disk_alone_on}
use Rattle.host_port.proofs.Replaying.{length-overwritten}
use Rattle.page_pool.specs.Frames.{Frames, frame_size}
use Rattle.page_pool.specs.Paged.{PagedState, AreOut, content, joined, frames_for}
use Rattle.page_pool.proofs.Among.{length-joined}
use Rattle.commit_journal.specs.TornWrites.{IsWithin, WrittenWithin, IsWriting}
use Rattle.commit_journal.proofs.Torn.{more_within}

-- two writes, one after the other, are one
pub over_over : (old : List ℕ) (at : ℕ) (a b : List ℕ) → at ≤ length old → overwritten (overwritten old at a) (at + length a) b ≡ overwritten old at (a ++ b)
over_over old at a b fits =
    ap (λ (l : List ℕ). l ++ b ++ drop (at + length a + length b) (overwritten old at a)) prefix
    ∙ ap (λ (l : List ℕ). (take at old ++ a) ++ b ++ l) back
    ∙ ap (λ (l : List ℕ). l ++ drop (at + length (a ++ b)) old) (append_assoc (take at old) a b)
  where
    whole : overwritten old at a ≡ (take at old ++ a) ++ drop (at + length a) old
    whole = refl

    size : length (take at old ++ a) ≡ at + length a
    size = let l = length-append (take at old) a in let t = length-take at old in omega (arith, l, t, fits)

    prefix : take (at + length a) (overwritten old at a) ≡ take at old ++ a
    prefix = ap (λ (l : List ℕ). take (at + length a) l) whole ∙ take_at (take at old ++ a) (drop (at + length a) old) (at + length a) size

    rest : drop (at + length a) (overwritten old at a) ≡ drop (at + length a) old
    rest = ap (λ (l : List ℕ). drop (at + length a) l) whole ∙ drop_at (take at old ++ a) (drop (at + length a) old) (at + length a) size

    sizes : at + length a + length b ≡ at + length (a ++ b)
    sizes = let l = length-append a b in omega (arith, l)

    back : drop (at + length a + length b) (overwritten old at a) ≡ drop (at + length (a ++ b)) old
    back = sym (drop-drop (length b) (at + length a) (overwritten old at a)) ∙ ap (λ (l : List ℕ). drop (length b) l) rest
        ∙ drop-drop (length b) (at + length a) old ∙ ap (λ (n : ℕ). drop n old) sizes

over_none : (old : List ℕ) (at : ℕ) → overwritten old at [] ≡ old
over_none old at = let e : at + 0 ≡ at = omega arith
    in ap (λ (l : List ℕ). l ++ drop (at + 0) old) (append-nil (take at old)) ∙ ap (λ (n : ℕ). take at old ++ drop n old) e ∙ take-append-drop at old

-- the range that a byte string takes in a file
abbrev pub span_of : ℕ → List ℕ → Span
span_of at bytes = record { from = at; to = at + length bytes }

-- the first n bytes of a string are written
pub record Wrote (a b : Told) (at : ℕ) (bytes : List ℕ) (n : ℕ) : Type 0 where
  pub course : GoesOn a b
  pub said : KeepsSaid a b
  pub input : KeepsInput a b
  pub alone : RaisesDiskAlone a b
  pub during : Throughout a b (λ disk said. WrittenWithin (disk_now a) (span_of at bytes) disk)
  pub now : IsTrue a.tells → (disk_now b).now ≡ overwritten (disk_now a).now at (take n bytes)

untouched : (old : Disk) (span : Span) → WrittenWithin old span old
untouched old span = record {
  stable = refl;
  loose = λ k d low. inl (All-contains_itself old.loose k d low);
  torn = record { no_shorter = omega arith; no_longer = omega arith; kept = λ i below out. refl };
}

pub wrote_none : (a : Told) (at : ℕ) (bytes : List ℕ) → Wrote a a at bytes 0
wrote_none a at bytes = record {
  course = course_still a;
  said = still_said a;
  input = still_input a;
  alone = record { take_faults = refl; say_faults = refl };
  during = λ told t low high. let same : t ≡ a.clock = omega (arith, low, high)
      in subst (λ (d : Disk). WrittenWithin (disk_now a) (span_of at bytes) d) (sym (ap a.disk same)) (untouched (disk_now a) (span_of at bytes));
  now = λ told. sym (over_none (disk_now a).now at);
}

module _ (a b c : Told) (at offset n : ℕ) (bytes piece : List ℕ) (wrote : Wrote a b at bytes n) (offset_is : offset ≡ at + n) (low : n ≤ length bytes)
    (piece_is : piece ≡ take frame_size (drop n bytes)) (fits : IsTrue a.tells → at ≤ length (disk_now a).now)
    (course : GoesOn b c) (said : KeepsSaid b c) (input : KeepsInput b c) (alone : RaisesDiskAlone b c)
    (part : Throughout b c (λ disk said. WrittenPart (disk_now b) (span_of offset piece) disk)) where
  within : IsWithin (span_of at bytes) (span_of offset piece)
  within = let l = ap length piece_is in let t = length-take frame_size (drop n bytes) in let d = length-drop n bytes
      in record { from = omega (arith, offset_is); to = omega (arith, offset_is, l, t, d, low) }

  pub piece_during : Throughout a c (λ disk said. WrittenWithin (disk_now a) (span_of at bytes) disk)
  piece_during told = carry_on a b c (λ disk said. WrittenWithin (disk_now a) (span_of at bytes) disk) wrote.course course wrote.during
      (λ told_b t from to. more_within (disk_now a) (disk_now b) (c.disk t) (span_of at bytes) (span_of offset piece)
      (at_last a b (λ disk said. WrittenWithin (disk_now a) (span_of at bytes) disk) wrote.course wrote.during told)
      (part told_b t from to) within) told

  pub piece_course : GoesOn a c
  piece_course = course_on a b c wrote.course course

  pub piece_said : KeepsSaid a c
  piece_said = keeps_said_on a b c wrote.course course wrote.said said

  pub piece_input : KeepsInput a c
  piece_input = keeps_input_on a b c wrote.input input

  pub piece_alone : RaisesDiskAlone a c
  piece_alone = disk_alone_on a b c wrote.alone alone

  next : take (n + frame_size) bytes ≡ take n bytes ++ piece
  next = sym (take-append-drop n (take (n + frame_size) bytes))
      ∙ ap (λ (l : List ℕ). l ++ drop n (take (n + frame_size) bytes)) (take-take n (n + frame_size) bytes (omega arith))
      ∙ ap (λ (l : List ℕ). take n bytes ++ l) (drop-take n frame_size bytes ∙ sym piece_is)

  place_at : offset ≡ at + length (take n bytes)
  place_at = let t = length-take n bytes in omega (arith, offset_is, t, low)

  pub one_wrote : (IsTrue b.tells → disk_now c ≡ written (disk_now b) offset piece) → Wrote a c at bytes (n + frame_size)
  one_wrote whole = record {
    course = piece_course;
    said = piece_said;
    input = piece_input;
    alone = piece_alone;
    during = piece_during;
    now = λ told.
        ap (λ (d : Disk). d.now) (whole (told_next a b wrote.course told))
        ∙ ap (λ (l : List ℕ). overwritten l offset piece) (wrote.now told)
        ∙ ap (λ (p : ℕ). overwritten (overwritten (disk_now a).now at (take n bytes)) p piece) place_at
        ∙ over_over (disk_now a).now at (take n bytes) piece (fits told)
        ∙ ap (λ (l : List ℕ). overwritten (disk_now a).now at l) (sym next);
  }

pub place_fits : (a b : Told) (at offset n : ℕ) (bytes : List ℕ) → Wrote a b at bytes n → offset ≡ at + n → n ≤ length bytes
    → (IsTrue a.tells → at ≤ length (disk_now a).now) → IsTrue a.tells → offset ≤ length (disk_now b).now
place_fits a b at offset n bytes wrote is low fits told =
    let o = ap length (wrote.now told) in
    let l = length-overwritten (disk_now a).now at (take n bytes) (fits told) in
    let t = length-take n bytes in
    omega (arith, o, l, t, is, low)

-- a byte string in frames has as many bytes as it says
pub content_size : (ps : Frames) (paged : PagedState) → AreOut ps paged.frames → length paged.frames ≡ frames_for paged.size
    → length (content ps paged) ≡ paged.size
content_size ps paged out count = let l = length-take paged.size (joined ps paged.frames) in let j = length-joined ps paged.frames out
    in omega (arith, l, j, count)

pub all_wrote : (a b : Told) (at : ℕ) (bytes : List ℕ) (n : ℕ) → Wrote a b at bytes n → length bytes ≤ n → IsTrue a.tells
    → (disk_now b).now ≡ overwritten (disk_now a).now at bytes
all_wrote a b at bytes n wrote full told = wrote.now told ∙ ap (λ (l : List ℕ). overwritten (disk_now a).now at l) (take_all n bytes full)

-- a file all of which is stable
abbrev pub disk_of : List ℕ → Disk
disk_of l = record { now = l; stable = l; loose = [] }

-- the pieces and the sync after them
module _ (a b : Told) (at : ℕ) (bytes : List ℕ) (during : Throughout a b (λ disk said. WrittenWithin (disk_now a) (span_of at bytes) disk)) where
  pub pages_write : Throughout a b (λ disk said. IsWriting (disk_now a) at bytes disk)
  pages_write told t low high = inl (during told t low high)

  module _ (c : Told) (ab : GoesOn a b) (bc : GoesOn b c) (whole : IsTrue a.tells → (disk_now b).now ≡ overwritten (disk_now a).now at bytes) where
    pub pages_synced : IsTrue a.tells → synced (disk_now b) ≡ synced (written (disk_now a) at bytes)
    pages_synced told = ap disk_of (whole told)

    pub pages_sync : Throughout b c (λ disk said. (disk ≡ disk_now b) ⊎ (disk ≡ synced (disk_now b)))
        → Throughout a c (λ disk said. IsWriting (disk_now a) at bytes disk)
    pages_sync sync told = carry_on a b c (λ disk said. IsWriting (disk_now a) at bytes disk) ab bc pages_write
        (λ told_b t low high. ⊎_elim
        (λ same. inl (subst (λ (d : Disk). WrittenWithin (disk_now a) (span_of at bytes) d) (sym same)
        (at_last a b (λ disk said. WrittenWithin (disk_now a) (span_of at bytes) disk) ab during told)))
        (λ is. inr (is ∙ pages_synced told))
        (sync told_b t low high)) told
