-- How calls of a system for one request follow one another.
use Rattle.std.proofs.Common.{◌≡◌, refl, ℕ, ◌+◌, ◌<◌, ◌≤◌, List, ◌++◌, length, take, drop, sym}
use Rattle.std.proofs.Common.{◌∙◌, ap, subst, arith, take-add, take_all, drop-drop, length-drop, append_assoc, ◌-◌, length-append, length-take}
use Rattle.std.specs.Prelude.{IsTrue}
use Rattle.std.proofs.lemmas.List.{append-nil, take-take}
use Rattle.std.proofs.lemmas.Slice.{take-put_mid, take-put_mid_below}
use Rattle.std.proofs.Math.Seq.{take-append-add}
use borrow.Rule.Slice.PartMut.{put_mid}
use Rattle.host_port.specs.Host.{Told, Disk, GoesOn, Throughout, KeepsDisk, KeepsSaid, KeepsInput, AddsPart, WrittenPart, written, disk_now, said_now}
use Rattle.host_port.proofs.Course.{told_next, carry_on, course_on, course_still, still_disk}
use Rattle.host_port.proofs.Course.{still_said, still_input, keeps_disk_on, keeps_said_on, keeps_input_on}
use Rattle.host_port.proofs.Course.{kept_now, said_kept_now, adds_none}
use Rattle.host_port.proofs.Replaying.{not_yet}
use Rattle.system_port.specs.Writes.{begun, under_way}
use Rattle.system_port.proofs.Begun.{is_begun, begun_whole}
use Rattle.system_port.proofs.Staying.{stays_still, stays_on}
use Rattle.system_port.specs.Stays.{Stays}

-- ---- some of the bytes are printed
pub record Printing (old new : Told) (bytes : List ℕ) (done : ℕ) : Type 0 where
  pub course : GoesOn old new
  pub disk : KeepsDisk old new
  pub input : KeepsInput old new
  pub part : Throughout old new (λ _ said. AddsPart (said_now old) bytes said)
  pub some : IsTrue old.tells → said_now new ≡ said_now old ++ take done bytes
  pub fits : done ≤ length bytes

pub print_none : (a : Told) (bytes : List ℕ) → Printing a a bytes 0
print_none a bytes = record {
  course = course_still a;
  disk = still_disk a;
  input = still_input a;
  part = adds_none a a bytes (still_said a);
  some = λ told. sym (append-nil (said_now a));
  fits = omega arith;
}

-- what follows what is done, of the bytes and after what was printed
joined : (before bytes rest : List ℕ) (done n : ℕ) → rest ≡ drop done bytes → (before ++ take done bytes) ++ take n rest ≡ before ++ take (done + n) bytes
joined before bytes rest done n is =
    ap (λ (l : List ℕ). (before ++ take done bytes) ++ take n l) is ∙ append_assoc before (take done bytes) (take n (drop done bytes))
    ∙ ap (λ (l : List ℕ). before ++ l) (sym (take-add done n bytes))

-- one more call after which some of the bytes were printed, of what is left of them
module _ (a b c : Told) (bytes rest : List ℕ) (done : ℕ) (is : rest ≡ drop done bytes) (before : Printing a b bytes done) (course : GoesOn b c)
    (disk : KeepsDisk b c) (input : KeepsInput b c) (part : Throughout b c (λ _ said. AddsPart (said_now b) rest said)) where
  -- a part of the rest is a part of the whole
  pub print_part : Throughout a c (λ _ said. AddsPart (said_now a) bytes said)
  print_part = carry_on a b c (λ _ said. AddsPart (said_now a) bytes said) before.course course before.part
      (λ told t low high.
      let told_a : IsTrue a.tells = subst IsTrue before.course.tells told in
      let more = part told t low high in
      (done + more.0, more.1 ∙ ap (λ (l : List ℕ). l ++ take more.0 rest) (before.some told_a) ∙ joined (said_now a) bytes rest done more.0 is))

  pub print_more : (n : ℕ) → (IsTrue b.tells → said_now c ≡ said_now b ++ take n rest) → n ≤ length rest → Printing a c bytes (done + n)
  print_more n some fits = record {
    course = course_on a b c before.course course;
    disk = keeps_disk_on a b c before.course course before.disk disk;
    input = keeps_input_on a b c before.input input;
    part = print_part;
    some = λ told.
        some (told_next a b before.course told) ∙ ap (λ (l : List ℕ). l ++ take n rest) (before.some told) ∙ joined (said_now a) bytes rest done n is;
    fits = omega (arith, fits, ap length is, length-drop done bytes, before.fits);
  }

  pub print_again : KeepsSaid b c → Printing a c bytes done
  print_again said = record {
    course = course_on a b c before.course course;
    disk = keeps_disk_on a b c before.course course before.disk disk;
    input = keeps_input_on a b c before.input input;
    part = print_part;
    some = λ told. said_kept_now b c course said (told_next a b before.course told) ∙ before.some told;
    fits = before.fits;
  }

-- all of them are printed
pub printed : (a b : Told) (bytes : List ℕ) (done : ℕ) → Printing a b bytes done → done ≡ length bytes → IsTrue a.tells → said_now b ≡ said_now a ++ bytes
printed a b bytes done before all told =
    before.some told ∙ ap (λ (l : List ℕ). said_now a ++ l) (take_all done bytes (omega (arith, all)))

-- ---- some bytes of the file are read
pub record Filling (old new : Told) (at : ℕ) (into : List ℕ) (done : ℕ) : Type 0 where
  pub stays : Stays old new
  pub fits : done ≤ length into
  pub bytes : IsTrue old.tells → take done into ≡ take done (drop at (disk_now old).now)

pub fill_none : (a : Told) (at : ℕ) (into : List ℕ) → Filling a a at into 0
fill_none a at into = record { stays = stays_still a; fits = omega arith; bytes = λ told. refl }

-- a call more, which put what it read at its place
module _ (a b c : Told) (at from : ℕ) (into got : List ℕ) (done : ℕ) (before : Filling a b at into done) (stays : Stays b c)
    (room : length got ≡ length into - done) where
  longer : done + length got ≤ length (put_mid done (length into - done) into got)
  longer =
      let front = ap length (take-put_mid done (length into - done) into got (done + length got) refl before.fits) in
      omega (
        arith,
        front,
        length-take (done + length got) (put_mid done (length into - done) into got),
        length-append (take done into) got,
        length-take done into,
        before.fits,
      )

  -- what is read by then, and some of what was read now
  front_of : (n : ℕ) → n ≤ length got → take (done + n) (put_mid done (length into - done) into got) ≡ take done into ++ take n got
  front_of n fits =
      let long : length (take done into) ≡ done = omega (arith, length-take done into, before.fits) in
      sym (take-take (done + n) (done + length got) (put_mid done (length into - done) into got) (omega (arith, fits)))
      ∙ ap (λ (l : List ℕ). take (done + n) l) (take-put_mid done (length into - done) into got (done + length got) refl before.fits)
      ∙ ap (λ (k : ℕ). take (k + n) (take done into ++ got)) (sym long) ∙ take-append-add (take done into) got n

  pub fill_more : (n : ℕ) → from ≡ at + done → n ≤ length got → (IsTrue b.tells → take n got ≡ take n (drop from (disk_now b).now))
      → Filling a c at (put_mid done (length into - done) into got) (done + n)
  fill_more n is fits bytes = record {
    stays = stays_on a b c before.stays stays;
    fits = omega (arith, longer, fits);
    bytes = λ told.
        let file = (disk_now a).now in
        front_of n fits ∙ ap (λ (l : List ℕ). l ++ take n got) (before.bytes told)
        ∙ ap (λ (l : List ℕ). take done (drop at file) ++ l)
        (bytes (told_next a b before.stays.course told)
        ∙ ap (λ (d : Disk). take n (drop from d.now)) (kept_now a b before.stays.course before.stays.disk told)
        ∙ ap (λ (k : ℕ). take n (drop k file)) is ∙ ap (λ (l : List ℕ). take n l) (sym (drop-drop done at file)))
        ∙ sym (take-add done n (drop at file));
  }

  pub fill_again : Filling a c at (put_mid done (length into - done) into got) done
  fill_again = record {
    stays = stays_on a b c before.stays stays;
    fits = omega (arith, longer);
    bytes = λ told. take-put_mid_below done (length into - done) into got done (omega arith) before.fits ∙ before.bytes told;
  }

-- ---- some of the bytes are written
pub record Writing (old new : Told) (at : ℕ) (bytes : List ℕ) (done : ℕ) : Type 0 where
  pub course : GoesOn old new
  pub said : KeepsSaid old new
  pub input : KeepsInput old new
  pub part : Throughout old new (λ disk _. WrittenPart (disk_now old) (record { from = at; to = at + length bytes }) disk)
  pub stands : IsTrue old.tells → disk_now new ≡ under_way (disk_now old) at bytes done
  pub fits : done ≤ length bytes

pub write_none : (a : Told) (at : ℕ) (bytes : List ℕ) → Writing a a at bytes 0
write_none a at bytes = record {
  course = course_still a;
  said = still_said a;
  input = still_input a;
  part = λ told t low high. not_yet (disk_now a) _ (a.disk t) (still_disk a told t low high);
  stands = λ told. refl;
  fits = omega arith;
}

-- the file has not become shorter
pub still_in : (a b : Told) (at : ℕ) (bytes : List ℕ) (done : ℕ) → Writing a b at bytes done → (IsTrue a.tells → at ≤ length (disk_now a).now)
    → IsTrue b.tells → at ≤ length (disk_now b).now
still_in a b at bytes done before fits told =
    let told_a : IsTrue a.tells = subst IsTrue before.course.tells told in
    let long = (before.part told_a b.clock before.course.clock (omega arith)).no_shorter in
    omega (arith, fits told_a, long)

pub write_part : (a b c : Told) (at : ℕ) (bytes : List ℕ) (done : ℕ) → Writing a b at bytes done → GoesOn b c
    → ((first : Disk) → disk_now b ≡ under_way first at bytes done
    → Throughout b c (λ disk _. WrittenPart first (record { from = at; to = at + length bytes }) disk))
    → Throughout a c (λ disk _. WrittenPart (disk_now a) (record { from = at; to = at + length bytes }) disk)
write_part a b c at bytes done before course part told =
    carry_on a b c (λ disk _. WrittenPart (disk_now a) (record { from = at; to = at + length bytes }) disk) before.course course before.part
    (part (disk_now a) (before.stands told)) told

pub write_more : (a b c : Told) (at : ℕ) (bytes : List ℕ) (done n : ℕ) → Writing a b at bytes done → GoesOn b c → KeepsSaid b c → KeepsInput b c
    → ((first : Disk) → disk_now b ≡ under_way first at bytes done
    → Throughout b c (λ disk _. WrittenPart first (record { from = at; to = at + length bytes }) disk))
    → (IsTrue b.tells → (first : Disk) → disk_now b ≡ under_way first at bytes done → disk_now c ≡ begun first at bytes (done + n))
    → 0 < n → done + n ≤ length bytes → Writing a c at bytes (done + n)
write_more a b c at bytes done n before course said input part some more fits = record {
  course = course_on a b c before.course course;
  said = keeps_said_on a b c before.course course before.said said;
  input = keeps_input_on a b c before.input input;
  part = write_part a b c at bytes done before course part;
  stands = λ told.
      some (told_next a b before.course told) (disk_now a) (before.stands told) ∙ sym (is_begun (disk_now a) at bytes (done + n) (omega (arith, more)));
  fits = fits;
}

pub write_again : (a b c : Told) (at : ℕ) (bytes : List ℕ) (done : ℕ) → Writing a b at bytes done → GoesOn b c → KeepsSaid b c → KeepsInput b c
    → ((first : Disk) → disk_now b ≡ under_way first at bytes done
    → Throughout b c (λ disk _. WrittenPart first (record { from = at; to = at + length bytes }) disk))
    → KeepsDisk b c → Writing a c at bytes done
write_again a b c at bytes done before course said input part disk = record {
  course = course_on a b c before.course course;
  said = keeps_said_on a b c before.course course before.said said;
  input = keeps_input_on a b c before.input input;
  part = write_part a b c at bytes done before course part;
  stands = λ told. kept_now b c course disk (told_next a b before.course told) ∙ before.stands told;
  fits = before.fits;
}

-- all of them are written
pub all_written : (a b c : Told) (at : ℕ) (bytes : List ℕ) (done n : ℕ) → Writing a b at bytes done
    → (IsTrue b.tells → (first : Disk) → disk_now b ≡ under_way first at bytes done → disk_now c ≡ begun first at bytes (done + n))
    → done + n ≡ length bytes → IsTrue a.tells → disk_now c ≡ written (disk_now a) at bytes
all_written a b c at bytes done n before some all told =
    some (told_next a b before.course told) (disk_now a) (before.stands told)
    ∙ begun_whole (disk_now a) at bytes (done + n) (omega (arith, all))
