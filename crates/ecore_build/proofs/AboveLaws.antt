-- What holds of the classes above each class of a metamodel that is built.
use Rattle.std.proofs.Common.{◌≡◌, ℕ, zero, suc, ◌+◌, ◌<◌, ◌≤◌, true, false, List, [], ◌∷◌, ◌⊎◌, inl, inr, refl, sym, subst, ◌∙◌, arith, length, map}
use Rattle.std.specs.Prelude.{None, slice_get}
use Rattle.std.specs.List.{filter, range_with_len}
use Rattle.std.specs.List.Sorted.{IsStrictlySortedBy}
use Rattle.std.specs.Option.{option_map_or}
use Rattle.std.specs.Ordering.{nat_cmp}
use Rattle.std.proofs.lemmas.List.{length-map}
use Rattle.std.proofs.lemmas.List.Kept.{IsStrictlySortedBy-filter}
use Rattle.ecore_meta.specs.Above.{StandsAbove}
use Rattle.ecore_build.specs.Build.{meta_of}
use Rattle.ecore_drafts.specs.Document.{supers_in}
use Rattle.ecore_build.specs.Faults.{fault, features_of}
use Rattle.ecore_drafts.specs.Supers.{is_cyclic, super_cycle, Inside, IsPath, Leads, is_above, supers_of}
use Rattle.ecore_drafts.specs.declared.rows.MetaRows.{MetaRows}
use Rattle.ecore_build.proofs.BuildLaws.{classes_supers, supers_inside}
use Rattle.ecore_build.proofs.OwnerLaws.{is_a_is}
use Rattle.ecore_meta.proofs.RisingLaws.{rising_range}
use Rattle.ecore_build.proofs.NoFault.{passes}
use Rattle.ecore_drafts.proofs.SuperLaws.{above_leads, any_at, leads_above}
use Rattle.ecore_drafts.proofs.TableLaws.{above_none, cycle_found, led_below, range_length}

split : (c n : ℕ) → (c < n) ⊎ (n ≤ c)
split c zero = inr (omega arith)
split zero (suc n) = inl (omega arith)
split (suc c) (suc n) = elim (split c n) [ inl h ↦ inl (omega arith) | inr h ↦ inr (omega arith) ]

module _ (supers : List (List ℕ)) (inside : Inside supers) where
  low : (c d : ℕ) → is_above supers c d ≡ true → c < length supers
  low c d h = by_place (split c (length supers))
    where
      by_place : (c < length supers) ⊎ (length supers ≤ c) → c < length supers
      by_place (inl lt) = lt
      by_place (inr le) = let e : false ≡ true = sym (above_none supers c d le) ∙ h in cc

  joined : (d e c : ℕ) (path : List ℕ) → IsPath supers c path d → Leads supers d e → Leads supers c e
  joined d e c [] at led = subst (λ x. Leads supers x e) (sym at) led
  joined d e c (b ∷ path) at led = let more = joined d e b path at.1 led in (b ∷ more.0, (at.0, more.1))

  passed_on : (c d e : ℕ) → is_above supers c d ≡ true → is_above supers d e ≡ true → is_above supers c e ≡ true
  passed_on c d e h k =
      let led = above_leads supers c d h in
      leads_above supers inside c e (low c d h) (joined d e c led.0 led.1 (above_leads supers d e k))

  -- a path to a class below its start is empty, where no class is above itself
  no_way_back : super_cycle supers ≡ false → (c d : ℕ) (path : List ℕ) → c < length supers → IsPath supers c path d → is_above supers d c ≡ true → c ≡ d
  no_way_back none c d [] below at back = at
  no_way_back none c d (b ∷ path) below at back =
      let round = leads_above supers inside b c (inside c b at.0) (joined d c b path at.1 (above_leads supers d c back)) in
      let cycle : is_cyclic supers c ≡ true = any_at (λ x. is_above supers x c) b (supers_of supers c) at.0 round in
      let e : true ≡ false = cycle_found supers c below (sym cycle) ∙ none in cc

rising_all : (g : ℕ → List ℕ) → ((k : ℕ) → IsStrictlySortedBy nat_cmp (g k)) → (a n c : ℕ)
    → IsStrictlySortedBy nat_cmp (option_map_or (λ ds. ds) (slice_get (map g (range_with_len a n)) c) [])
unfolding IsStrictlySortedBy
rising_all g h a zero c = tt
rising_all g h a (suc n) zero = h a
rising_all g h a (suc n) (suc c) = rising_all g h (a + 1) n c

pub stands_above : (rows : MetaRows) → fault rows.classifiers ≡ None → StandsAbove (meta_of rows)
stands_above rows none = record {
  many = length-map (range_with_len 0 (length supers)) above ∙ range_length 0 (length supers) ∙ counted;
  own = λ c h. is_a_is rows c c ∙ leads_above supers inside c c (omega (arith, h, counted)) ([], refl);
  through = λ c d e h k. is_a_is rows c e ∙ passed_on supers inside c d e (sym (is_a_is rows c d) ∙ h) (sym (is_a_is rows d e) ∙ k);
  apart = λ c d h k.
      let up : is_above supers c d ≡ true = sym (is_a_is rows c d) ∙ h in
      let led = above_leads supers c d up in
      no_way_back supers inside (passes rows.classifiers none).rising c d led.0 (low supers inside c d up) led.1 (sym (is_a_is rows d c) ∙ k);
  classes = λ c d h.
      let up : is_above supers c d ≡ true = sym (is_a_is rows c d) ∙ h in
      let led = above_leads supers c d up in
      omega (arith, counted, led_below supers inside d c led.0 (low supers inside c d up) led.1);
  rising = rising_all above
      (λ k. IsStrictlySortedBy-filter nat_cmp (is_above supers k) (range_with_len 0 (length supers)) (rising_range 0 (length supers))) 0 (length supers);
}
  where
    supers : List (List ℕ)
    supers = supers_in rows.classifiers rows.classifiers

    inside : Inside supers
    inside = supers_inside rows.classifiers supers refl

    above : ℕ → List ℕ
    above c = filter (is_above supers c) (range_with_len 0 (length supers))

    counted : length supers ≡ length (meta_of rows).classes
    counted = classes_supers rows.classifiers 0 (features_of rows.classifiers) rows.classifiers
