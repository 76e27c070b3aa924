-- What a crash leaves while a range of a stable file is written.
use Rattle.std.proofs.Common.{◌≡◌, ◌⊎◌, inl, inr, ⊎_elim, ℕ, suc, ◌+◌, ◌<◌, ◌≤◌, max, List, [], ◌∷◌, length, take, drop, get_or, sym, ◌∙◌, ap, subst, arith}
use Rattle.std.proofs.lemmas.List.{ext_get_or, drop_all, length-take, length-drop, get_or-take, get_or-drop}
use Rattle.std.proofs.lemmas.List.Elements.{All-push, All-contains_itself}
use Rattle.std.proofs.lemmas.Bool.{cases_lt}
use Rattle.std.specs.Prelude.{All, Contains}
use Rattle.host_port.specs.Host.{Disk, Span, IsOutside, furthest, MayLeave, WrittenPart}
use Rattle.commit_journal.specs.TornWrites.{IsStable, Torn, IsWithin, WrittenWithin}

none_at : (i : ℕ) → All (λ (s : Span). IsOutside s i) []
none_at i = λ k d low. absurd (omega arith)

-- one write within a range
pub part_within : (old disk : Disk) (span : Span) → WrittenPart old span disk → WrittenWithin old span disk
part_within old disk span part = record {
  stable = part.stable;
  loose = ⊎_elim
      (λ same. subst (λ (l : List Span). All P l) (sym same) (all_old))
      (λ more. subst (λ (l : List Span). All P l) (sym more) (All-push P old.loose span all_old (inr (record { from = omega arith; to = omega arith }))))
      part.loose;
  torn = record { no_shorter = part.no_shorter; no_longer = part.no_longer; kept = part.kept };
}
  where
    P : Span → Type 0
    P range = Contains old.loose range ⊎ IsWithin span range

    all_old : All P old.loose
    all_old = λ k d low. inl (All-contains_itself old.loose k d low)

-- one more write within the range
pub more_within : (old mid disk : Disk) (span inner : Span) → WrittenWithin old span mid → WrittenPart mid inner disk → IsWithin span inner
    → WrittenWithin old span disk
more_within old mid disk span inner before part within = record {
  stable = part.stable ∙ before.stable;
  loose = ⊎_elim
      (λ same. subst (λ (l : List Span). All P l) (sym same) before.loose)
      (λ more. subst (λ (l : List Span). All P l) (sym more) (All-push P mid.loose inner before.loose (inr within)))
      part.loose;
  torn = record {
    no_shorter = omega (arith, before.torn.no_shorter, part.no_shorter);
    no_longer = omega (arith, before.torn.no_longer, part.no_longer, within.to);
    kept = λ i below out. part.kept i (omega (arith, below, before.torn.no_shorter)) (farther i out) ∙ before.torn.kept i below out;
  };
}
  where
    P : Span → Type 0
    P range = Contains old.loose range ⊎ IsWithin span range

    farther : (i : ℕ) → IsOutside span i → IsOutside inner i
    farther i (inl low) = inl (omega (arith, low, within.from))
    farther i (inr high) = inr (omega (arith, high, within.to))

module _ (old disk : Disk) (span : Span) (x : List ℕ) (stable : IsStable old) (part : WrittenWithin old span disk) (left : MayLeave disk x) where
  stable_is : disk.stable ≡ old.now
  stable_is = part.stable ∙ sym stable.same

  inside : (range : Span) → Contains old.loose range ⊎ IsWithin span range → IsWithin span range
  inside range (inl had) = absurd (none (subst (λ (l : List Span). Contains l range) stable.tight had))
    where
      none : Contains [] range → ⊥
      none (k, low, here) = absurd (omega (arith, low))
  inside range (inr within) = within

  near : (n : ℕ) (ranges : List Span) → All (λ range. Contains old.loose range ⊎ IsWithin span range) ranges → furthest n ranges ≤ max n span.to
  near n [] all = omega arith
  near n (range ∷ ranges) all = omega (arith, (inside range (all 0 range (omega arith))).to, near n ranges (λ k d low. all (suc k) d (omega (arith, low))))

  outside : (i : ℕ) → IsOutside span i → All (λ (s : Span). IsOutside s i) disk.loose
  outside i out = λ k d low. apart (get_or disk.loose k d) (inside (get_or disk.loose k d) (part.loose k d low)) out
    where
      apart : (range : Span) → IsWithin span range → IsOutside span i → IsOutside range i
      apart range within (inl below) = inl (omega (arith, below, within.from))
      apart range within (inr above) = inr (omega (arith, above, within.to))

  pub torn_part : Torn span old.now x
  torn_part = record {
    no_shorter = omega (arith, left.no_shorter, ap length stable_is);
    no_longer = omega (arith, left.no_longer, near (length disk.stable) disk.loose part.loose, ap length stable_is);
    kept = λ i below out. left.kept i (omega (arith, ap length stable_is)) (outside i out) ∙ ap (λ (l : List ℕ). get_or l i 0) stable_is;
  }

-- after a sync a crash leaves what is read
pub left_stable : (disk : Disk) (x : List ℕ) → IsStable disk → MayLeave disk x → x ≡ disk.now
left_stable disk x stable left =
    let same = stable.same in
    let long : length x ≡ length disk.stable = omega (arith, left.no_shorter, left.no_longer, ap (furthest (length disk.stable)) stable.tight) in
    ext_get_or 0 x disk.stable long
    (λ i below. left.kept i (omega (arith, long)) (subst (λ (l : List Span). All (λ (s : Span). IsOutside s i) l) (sym stable.tight) (none_at i)))
    ∙ sym same

module _ (at n : ℕ) (old x : List ℕ) (torn : Torn (record { from = at; to = at + n }) old x) where
  pub torn_front : (k : ℕ) → k ≤ at → k ≤ length old → take k x ≡ take k old
  torn_front k before within =
      let long : length (take k x) ≡ length (take k old) = omega (arith, length-take k x, length-take k old, torn.no_shorter) in
      ext_get_or 0 (take k x) (take k old) long
      (λ i below.
      let low : i < k = omega (arith, below, length-take k x) in
      get_or-take k x i 0 low ∙ torn.kept i (omega arith) (inl (omega arith)) ∙ sym (get_or-take k old i 0 low))

  pub torn_back : drop (at + n) x ≡ drop (at + n) old
  torn_back = elim (cases_lt (at + n) (length old)) [
    | inl inside ↦
        let long : length (drop (at + n) x) ≡ length (drop (at + n) old) =
        omega (arith, length-drop (at + n) x, length-drop (at + n) old, torn.no_shorter, torn.no_longer) in
        ext_get_or 0 (drop (at + n) x) (drop (at + n) old) long
        (λ i below. get_or-drop (at + n) x i 0
        ∙ torn.kept (at + n + i) (omega (arith, below, length-drop (at + n) x, torn.no_longer)) (inr (omega arith))
        ∙ sym (get_or-drop (at + n) old i 0))
    | inr past ↦ drop_all (at + n) x (omega (arith, torn.no_longer, past)) ∙ sym (drop_all (at + n) old past)
  ]
