-- How calls of a host follow one another.
use Rattle.std.proofs.Common.{◌≡◌, inl, inr, ℕ, ◌≤◌, List, sym, ◌∙◌, ap, subst, refl, arith}
use Rattle.std.specs.Prelude.{IsTrue}
use Rattle.std.proofs.lemmas.Bool.{cases_lt}
use Rattle.std.proofs.lemmas.List.{append-nil}
use Rattle.host_port.specs.Host.{Told, Disk, GoesOn, Throughout, KeepsDisk, KeepsSaid, KeepsInput, AddsPart, RaisesTakesAlone, RaisesSaysAlone}
use Rattle.host_port.specs.Host.{RaisesDiskAlone, Rose, disk_now, said_now}

-- a host that reports goes on reporting
pub told_next : (a b : Told) → GoesOn a b → IsTrue a.tells → IsTrue b.tells
told_next a b ab told = subst IsTrue (sym ab.tells) told

-- what holds at each moment of one call and of the next holds at each moment of both
pub carry_on : (a b c : Told) (P : Disk → List ℕ → Type 0) → GoesOn a b → GoesOn b c → Throughout a b P → Throughout b c P → Throughout a c P
carry_on a b c P ab bc first second told t low high =
    let told_b : IsTrue b.tells = subst IsTrue (sym ab.tells) told in
    elim (cases_lt t b.clock) [
      | inl before ↦
          let same = bc.past told_b t before in
          subst (λ d. P d (c.said t)) (sym same.disk) (subst (λ s. P (b.disk t) s) (sym same.said) (first told t low (omega arith)))
      | inr later ↦ second told_b t later high
    ]

-- what follows from a fact of each moment
pub weaker : (a b : Told) (P Q : Disk → List ℕ → Type 0) → ((disk : Disk) (said : List ℕ) → P disk said → Q disk said) → Throughout a b P → Throughout a b Q
weaker a b P Q implies holds told t low high = implies (b.disk t) (b.said t) (holds told t low high)

-- what follows from two facts of each moment
pub both : (a b : Told) (P Q R : Disk → List ℕ → Type 0) → ((disk : Disk) (said : List ℕ) → P disk said → Q disk said → R disk said)
    → Throughout a b P → Throughout a b Q → Throughout a b R
both a b P Q R implies p q told t low high = implies (b.disk t) (b.said t) (p told t low high) (q told t low high)

-- what holds at each moment holds at the last
pub at_last : (a b : Told) (P : Disk → List ℕ → Type 0) → GoesOn a b → Throughout a b P → IsTrue a.tells → P (disk_now b) (said_now b)
at_last a b P course holds told = holds told b.clock course.clock (omega arith)

pub course_on : (a b c : Told) → GoesOn a b → GoesOn b c → GoesOn a c
course_on a b c ab bc = record {
  tells = bc.tells ∙ ab.tells;
  clock = omega (arith, ab.clock, bc.clock);
  take_faults = omega (arith, ab.take_faults, bc.take_faults);
  say_faults = omega (arith, ab.say_faults, bc.say_faults);
  disk_faults = omega (arith, ab.disk_faults, bc.disk_faults);
  past = λ told t before.
      let one = ab.past told t before in
      let two = bc.past (told_next a b ab told) t (omega (arith, before, ab.clock)) in
      record { disk = two.disk ∙ one.disk; said = two.said ∙ one.said };
}

-- no call at all
pub course_still : (a : Told) → GoesOn a a
course_still a = record {
  tells = refl;
  clock = omega arith;
  take_faults = omega arith;
  say_faults = omega arith;
  disk_faults = omega arith;
  past = λ told t before. record { disk = refl; said = refl };
}

pub still_disk : (a : Told) → KeepsDisk a a
still_disk a told t low high = let same : t ≡ a.clock = omega (arith, low, high) in ap a.disk same

pub still_said : (a : Told) → KeepsSaid a a
still_said a told t low high = let same : t ≡ a.clock = omega (arith, low, high) in ap a.said same

pub still_input : (a : Told) → KeepsInput a a
still_input a = record { taken = refl; left = refl }

-- calls that keep the disk, or what was printed, leave it as it was
pub kept_now : (a b : Told) → GoesOn a b → KeepsDisk a b → IsTrue a.tells → disk_now b ≡ disk_now a
kept_now a b course keeps told = keeps told b.clock course.clock (omega arith)

pub said_kept_now : (a b : Told) → GoesOn a b → KeepsSaid a b → IsTrue a.tells → said_now b ≡ said_now a
said_kept_now a b course keeps told = keeps told b.clock course.clock (omega arith)

pub keeps_disk_on : (a b c : Told) → GoesOn a b → GoesOn b c → KeepsDisk a b → KeepsDisk b c → KeepsDisk a c
keeps_disk_on a b c ab bc first second = carry_on a b c (λ disk said. disk ≡ disk_now a) ab bc first
    (λ told t low high. second told t low high ∙ first (subst IsTrue ab.tells told) b.clock ab.clock (omega arith))

pub keeps_said_on : (a b c : Told) → GoesOn a b → GoesOn b c → KeepsSaid a b → KeepsSaid b c → KeepsSaid a c
keeps_said_on a b c ab bc first second = carry_on a b c (λ disk said. said ≡ said_now a) ab bc first
    (λ told t low high. second told t low high ∙ first (subst IsTrue ab.tells told) b.clock ab.clock (omega arith))

pub keeps_input_on : (a b c : Told) → KeepsInput a b → KeepsInput b c → KeepsInput a c
keeps_input_on a b c first second = record { taken = second.taken ∙ first.taken; left = second.left ∙ first.left }

-- calls that print nothing add the first none of any bytes
pub adds_none : (a b : Told) (bytes : List ℕ) → KeepsSaid a b → Throughout a b (λ disk said. AddsPart (said_now a) bytes said)
adds_none a b bytes keeps told t low high = (0, keeps told t low high ∙ sym (append-nil (said_now a)))

-- a count that rose in the first or the second of two calls rose in both together
pub rose_first : (a b c : ℕ) → Rose a b → b ≤ c → Rose a c
rose_first a b c rose later = omega (arith, rose, later)

pub rose_second : (a b c : ℕ) → a ≤ b → Rose b c → Rose a c
rose_second a b c earlier rose = omega (arith, earlier, rose)

pub takes_alone_on : (a b c : Told) → RaisesTakesAlone a b → RaisesTakesAlone b c → RaisesTakesAlone a c
takes_alone_on a b c first second = record { say_faults = second.say_faults ∙ first.say_faults; disk_faults = second.disk_faults ∙ first.disk_faults }

pub says_alone_on : (a b c : Told) → RaisesSaysAlone a b → RaisesSaysAlone b c → RaisesSaysAlone a c
says_alone_on a b c first second = record { take_faults = second.take_faults ∙ first.take_faults; disk_faults = second.disk_faults ∙ first.disk_faults }

pub disk_alone_on : (a b c : Told) → RaisesDiskAlone a b → RaisesDiskAlone b c → RaisesDiskAlone a c
disk_alone_on a b c first second = record { take_faults = second.take_faults ∙ first.take_faults; say_faults = second.say_faults ∙ first.say_faults }
