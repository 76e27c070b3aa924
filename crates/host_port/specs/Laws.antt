-- What a host in memory always reports.
use Rattle.std.specs.Prelude.{◌≡◌, ℕ, ◌+◌, ◌-◌, ◌<◌, ◌≤◌, max, List, [], ◌∷◌, ◌++◌, length, take, drop, get_or, All, IsTrue, false, refl}
use Rattle.std.proofs.Common.{inl, inr, ◌∙◌, ap, subst, arith, length-append}
use Rattle.std.proofs.lemmas.List.{length-take, length-drop, get_or_append_left, get_or-append_right, get_or-take, get_or-drop}
use Rattle.host_port.specs.declared.calls.Call.{Call}
use Rattle.host_port.specs.declared.calls.Call.TheVariants.{Quiet, Say, Write, Sync}
use Rattle.host_port.specs.Host.{Disk, Span, IsOutside, furthest, MayLeave, overwritten}
use Rattle.host_port.specs.Replay.{at_start, after_call, after_calls, disk_after}

-- the furthest with one more range
pub furthest-push : (n : ℕ) (spans : List Span) (span : Span) → furthest n (spans ++ span ∷ []) ≡ max span.to (furthest n spans)
furthest-push n [] span = refl
furthest-push n (s ∷ spans) span = omega (arith, furthest-push n spans span)

-- a file that is overwritten gets no shorter
longer : (old : List ℕ) (at : ℕ) (bytes : List ℕ) → length old ≤ length (overwritten old at bytes)
longer old at bytes = omega (
  arith,
  length-append (take at old ++ bytes) (drop (at + length bytes) old),
  length-append (take at old) bytes,
  length-take at old,
  length-drop (at + length bytes) old,
)

-- and no longer than it was, or than to the end of what is written
not_past : (old : List ℕ) (at : ℕ) (bytes : List ℕ) → length (overwritten old at bytes) ≤ max (length old) (at + length bytes)
not_past old at bytes =
    omega (
      arith,
      length-append (take at old ++ bytes) (drop (at + length bytes) old),
      length-append (take at old) bytes,
      length-take at old,
      length-drop (at + length bytes) old,
    )

-- its bytes outside the range stay
pub kept_outside : (old : List ℕ) (at : ℕ) (bytes : List ℕ) (i : ℕ) → i < length old → IsOutside (record { from = at; to = at + length bytes }) i
    → get_or (overwritten old at bytes) i 0 ≡ get_or old i 0
kept_outside old at bytes i below (inl before) =
    let front : i < length (take at old) = omega (arith, length-take at old) in
    get_or_append_left (take at old ++ bytes) _ 0 i (omega (arith, length-append (take at old) bytes))
    ∙ get_or_append_left (take at old) bytes 0 i front ∙ get_or-take at old i 0 before
kept_outside old at bytes i below (inr behind) =
    let long : length (take at old ++ bytes) ≡ at + length bytes = omega (arith, length-append (take at old) bytes, length-take at old) in
    get_or-append_right (take at old ++ bytes) _ (at + length bytes) i 0 long behind ∙ get_or-drop (at + length bytes) old (i - (at + length bytes)) 0
    ∙ ap (λ (k : ℕ). get_or old k 0) (let e : (at + length bytes) + (i - (at + length bytes)) ≡ i = omega (arith, behind) in e)

-- what all have, those but the last have
pub front_of : (P : Span → Type 0) (spans : List Span) (span : Span) → All P (spans ++ span ∷ []) → All P spans
front_of P spans span all k d low = subst P (get_or_append_left spans (span ∷ []) d k low) (all k d (omega (arith, low, length-append spans (span ∷ []))))

-- and so has the last
pub last_of : (P : Span → Type 0) (spans : List Span) (span : Span) → All P (spans ++ span ∷ []) → P span
last_of P spans span all = subst P (get_or_append_right_zero spans span) (all (length spans) span (omega (arith, length-append spans (span ∷ []))))
  where
    get_or_append_right_zero : (spans : List Span) (span : Span) → get_or (spans ++ span ∷ []) (length spans) span ≡ span
    get_or_append_right_zero [] span = refl
    get_or_append_right_zero (s ∷ spans) span = get_or_append_right_zero spans span

-- a call keeps this: what a read gives is what a crash may leave
step : (disk : Disk) (call : Call) → MayLeave disk disk.now → MayLeave (after_call disk call) (after_call disk call).now
step disk Quiet left = left
step disk (Say bytes) left = left
step disk Sync left = record { no_shorter = omega arith; no_longer = omega arith; kept = λ i below all. refl }
step disk (Write at bytes) left = record {
  no_shorter = omega (arith, left.no_shorter, longer disk.now at bytes.items);
  no_longer = omega (
    arith,
    left.no_longer,
    not_past disk.now at bytes.items,
    furthest-push (length disk.stable) disk.loose (record { from = at; to = at + length bytes.items }),
  );
  kept = λ i below all.
      kept_outside disk.now at bytes.items i (omega (arith, below, left.no_shorter))
      (last_of (λ (s : Span). IsOutside s i) disk.loose (record { from = at; to = at + length bytes.items }) all)
      ∙ left.kept i below (front_of (λ (s : Span). IsOutside s i) disk.loose (record { from = at; to = at + length bytes.items }) all);
}

-- so do some calls, one by one
left_after : (disk : Disk) (calls : List Call) → MayLeave disk disk.now → MayLeave (after_calls disk calls) (after_calls disk calls).now
left_after disk [] left = left
left_after disk (call ∷ calls) left = left_after (after_call disk call) calls (step disk call left)

-- what a read gives is what a crash may leave
pub left_now : (first : List ℕ) (calls : List Call) (t : ℕ) → MayLeave (disk_after first calls t) (disk_after first calls t).now
left_now first calls t = left_after (at_start first) (take t calls) (record { no_shorter = omega arith; no_longer = omega arith; kept = λ i below all. refl })

-- a host that doesn't report owes nothing
pub untold : (disk : Disk) → IsTrue false → MayLeave disk disk.now
untold disk told = cc
