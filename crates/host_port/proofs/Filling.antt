-- The file after a crash, call by call.
use Rattle.std.proofs.Common.{◌≡◌, ◌⊎◌, inl, inr, zero, suc, ℕ, ◌+◌, ◌-◌, ◌<◌, ◌≤◌, max, List, [], ◌∷◌, ◌++◌, length, take, drop, get_or, refl, sym}
use Rattle.std.proofs.Common.{◌∙◌, ap, subst, arith, length-append}
use Rattle.std.specs.Prelude.{Contains, Vec, replicate}
use Rattle.std.proofs.lemmas.List.{append-nil, take_all, drop_all, length-take, length-replicate, get_or-replicate, get_or_append_left, get_or-append_right}
use Rattle.std.proofs.lemmas.List.Elements.{Contains-append_cases}
use Rattle.std.proofs.lemmas.Bool.{cases_lt}
use Rattle.host_port.specs.Host.{Disk, Span, IsOutside, MayLeave, furthest, overwritten, written}
use Rattle.host_port.specs.Image.{IsInside, IsFilled, IsShownAs}
use Rattle.host_port.specs.Laws.{furthest-push, front_of, last_of}
use Rattle.host_port.specs.Replay.{at_start, after_call, after_calls, smeared}
use Rattle.host_port.specs.declared.calls.Call.{Call}
use Rattle.host_port.specs.declared.calls.Call.TheVariants.{Write}
use Rattle.std.specs.declared.alloc.Global.{Global}
use Rattle.host_port.proofs.Replaying.{after-push, overwritten_kept, length-overwritten}

-- a write past the end stands right after it
pub overwritten_past : (old : List ℕ) (at : ℕ) (bytes : List ℕ) → length old ≤ at → overwritten old at bytes ≡ old ++ bytes
overwritten_past old at bytes past =
    ap (λ (l : List ℕ). (l ++ bytes) ++ drop (at + length bytes) old) (take_all at old past)
    ∙ ap (λ (l : List ℕ). (old ++ bytes) ++ l) (drop_all (at + length bytes) old (omega arith)) ∙ append-nil (old ++ bytes)

none_in : (span : Span) → Contains [] span → ⊥
none_in span (k, low, here) = absurd (omega (arith, low))

-- nothing is loose
pub filled_tight : (disk : Disk) (fill : ℕ) → disk.loose ≡ [] → IsFilled disk fill disk.stable
filled_tight disk fill tight = record {
  longest = sym (ap (furthest (length disk.stable)) tight);
  kept = λ i below out. refl;
  past = λ i behind below. absurd (omega (arith, behind, below));
  torn = λ span has i inside. absurd (none_in span (subst (λ (l : List Span). Contains l span) tight has));
}

far_enough : (n : ℕ) (spans : List Span) (span : Span) → Contains spans span → span.to ≤ furthest n spans
far_enough n [] span has = absurd (none_in span has)
far_enough n (s ∷ spans) span (zero, low, here) = omega (arith, ap (λ (x : Span). x.to) here)
far_enough n (s ∷ spans) span (suc k, low, there) = omega (arith, far_enough n spans span (k, omega (arith, low), there))

-- the place lies in the range or outside of it
sides : (span : Span) (i : ℕ) → IsInside span i ⊎ IsOutside span i
sides span i = elim (cases_lt i span.from) [
  | inl before ↦ inr (inl before)
  | inr from ↦ elim (cases_lt i span.to) [ inl to ↦ inl (from, to) | inr behind ↦ inr (inr behind) ]
]

module _ (x : List ℕ) (at count fill : ℕ) where
  abbrev padded : List ℕ
  padded = x ++ replicate (at - length x) fill

  long : length padded ≡ max (length x) at
  long = omega (arith, length-append x (replicate (at - length x) fill), length-replicate (at - length x) fill)

  pub length-smeared : length (smeared x at count fill) ≡ max (length x) (at + count)
  length-smeared = omega (arith, length-overwritten padded at (replicate count fill) (omega (arith, long)), long, length-replicate count fill)

  -- in the range
  pub smeared_inside : (i : ℕ) → at ≤ i → i < at + count → get_or (smeared x at count fill) i 0 ≡ fill
  smeared_inside i from to =
      let front : length (take at padded) ≡ at = omega (arith, length-take at padded, long) in
      let body = length-replicate count fill in
      get_or_append_left (take at padded ++ replicate count fill) _ 0 i (omega (arith, length-append (take at padded) (replicate count fill), front, body, to))
      ∙ get_or-append_right (take at padded) (replicate count fill) at i 0 front from
      ∙ get_or-replicate count (i - at) fill 0 (omega (arith, from, to))

  -- outside of the range, where there was a byte and where there was none
  outside : (i : ℕ) → i < length padded → IsOutside (record { from = at; to = at + count }) i → get_or (smeared x at count fill) i 0 ≡ get_or padded i 0
  outside i below out =
      let body = length-replicate count fill in
      overwritten_kept padded at (replicate count fill) i (omega (arith, long)) below
      (let P : ℕ → Type 0 = λ n. IsOutside (record { from = at; to = at + n }) i in subst P (sym body) out)

  pub smeared_old : (i : ℕ) → i < length x → IsOutside (record { from = at; to = at + count }) i → get_or (smeared x at count fill) i 0 ≡ get_or x i 0
  smeared_old i below out = outside i (omega (arith, long, below)) out ∙ get_or_append_left x _ 0 i below

  pub smeared_past : (i : ℕ) → length x ≤ i → i < length (smeared x at count fill) → get_or (smeared x at count fill) i 0 ≡ fill
  smeared_past i behind below = elim (sides (record { from = at; to = at + count }) i) [
    | inl inside ↦ smeared_inside i inside.0 inside.1
    | inr out ↦
        let before : i < at = elim out [ inl b ↦ b | inr past ↦ absurd (omega (arith, past, behind, below, length-smeared)) ] in
        outside i (omega (arith, long, before)) out
        ∙ get_or-append_right x (replicate (at - length x) fill) (length x) i 0 refl behind
        ∙ get_or-replicate (at - length x) (i - length x) fill 0 (omega (arith, before, behind))
  ]

pub filled_written : (disk : Disk) (fill : ℕ) (x : List ℕ) (at : ℕ) (bytes : List ℕ) → IsFilled disk fill x
    → IsFilled (written disk at bytes) fill (smeared x at (length bytes) fill)
filled_written disk fill x at bytes filled = record {
  longest = omega (arith, length-smeared x at (length bytes) fill, filled.longest, furthest-push (length disk.stable) disk.loose span);
  kept = λ i below all.
      smeared_old x at (length bytes) fill i (omega (arith, below, filled.longest, long_loose disk.loose))
      (last_of (λ (s : Span). IsOutside s i) disk.loose span all)
      ∙ filled.kept i below (front_of (λ (s : Span). IsOutside s i) disk.loose span all);
  past = λ i behind below. elim (cases_lt i (length x)) [
    | inr new ↦ smeared_past x at (length bytes) fill i new below
    | inl had ↦ elim (sides span i) [
      | inl inside ↦ smeared_inside x at (length bytes) fill i inside.0 inside.1
      | inr out ↦ smeared_old x at (length bytes) fill i had out ∙ filled.past i behind had
    ]
  ];
  torn = λ s has i inside. elim (sides span i) [
    | inl here ↦ smeared_inside x at (length bytes) fill i here.0 here.1
    | inr out ↦ elim (Contains-append_cases disk.loose (span ∷ []) s has) [
      | inl old ↦ smeared_old x at (length bytes) fill i
          (omega (arith, filled.longest, far_enough (length disk.stable) disk.loose s old, inside.1)) out ∙ filled.torn s old i inside
      | inr new ↦ absurd (apart s i (only span s new) inside out)
    ]
  ];
}
  where
    span : Span
    span = record { from = at; to = at + length bytes }

    long_loose : (spans : List Span) → length disk.stable ≤ furthest (length disk.stable) spans
    long_loose [] = omega arith
    long_loose (s ∷ spans) = omega (arith, long_loose spans)

    only : (a b : Span) → Contains (a ∷ []) b → a ≡ b
    only a b (zero, low, here) = here
    only a b (suc k, low, there) = absurd (omega (arith, low))

    apart : (s : Span) (i : ℕ) → span ≡ s → IsInside s i → IsOutside span i → ⊥
    apart s i same inside (inl before) = absurd (omega (arith, before, inside.0, ap (λ (z : Span). z.from) same))
    apart s i same inside (inr behind) = absurd (omega (arith, behind, inside.1, ap (λ (z : Span). z.to) same))

-- such a file is one that a crash may leave
pub filled_left : (disk : Disk) (fill : ℕ) (x : List ℕ) → IsFilled disk fill x → MayLeave disk x
filled_left disk fill x filled = record {
  no_shorter = omega (arith, filled.longest, no_nearer (length disk.stable) disk.loose);
  no_longer = omega (arith, filled.longest);
  kept = filled.kept;
}
  where
    no_nearer : (n : ℕ) (spans : List Span) → n ≤ furthest n spans
    no_nearer n [] = omega arith
    no_nearer n (s ∷ spans) = omega (arith, no_nearer n spans)

-- one call further, for a write and for what comes after a list of calls
pub follows_write : (disk : Disk) (fill : ℕ) (now image : List ℕ) (at : ℕ) (v : Vec ℕ Global) (call : Call) (count : ℕ) (read bytes new_now new_image : List ℕ)
    → call ≡ Write at v → count ≡ length bytes → read ≡ now → bytes ≡ v.items
    → new_now ≡ overwritten read at bytes → new_image ≡ smeared image at count fill
    → IsShownAs disk fill now image → IsShownAs (after_call disk call) fill new_now new_image
follows_write disk fill now image at v call count read bytes new_now new_image is counted same_now same_bytes writes smears shown =
    subst (λ k. IsShownAs (after_call disk k) fill new_now new_image) (sym is) (record {
      reads = writes ∙ ap (λ (l : List ℕ). overwritten l at bytes) (same_now ∙ shown.reads) ∙ ap (λ (l : List ℕ). overwritten disk.now at l) same_bytes;
      leaves = subst (λ (l : List ℕ). IsFilled (written disk at v.items) fill l)
          (sym (smears ∙ ap (λ (n : ℕ). smeared image at n fill) (counted ∙ ap length same_bytes)))
          (filled_written disk fill image at v.items shown.leaves);
    })

pub follows_calls : (first : List ℕ) (fill : ℕ) (done more : List Call) (call : Call) (now image : List ℕ)
    → more ≡ done ++ call ∷ [] → IsShownAs (after_call (after_calls (at_start first) done) call) fill now image
    → IsShownAs (after_calls (at_start first) more) fill now image
follows_calls first fill done more call now image is shown =
    subst (λ d. IsShownAs d fill now image) (sym (ap (after_calls (at_start first)) is ∙ after-push (at_start first) done call)) shown
