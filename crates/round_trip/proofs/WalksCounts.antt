-- How many elements and targets a good state has in a list.
use Rattle.std.proofs.Common.{◌≡◌, ℕ, suc, ◌+◌, ◌≤◌, Bool, true, false, cond, List, [], ◌∷◌, length, map, refl, sym, ap, subst, ◌∙◌, arith, ◌&&◌, nat_eq}
use Rattle.std.specs.Prelude.{Option, None, Some, is_some, nat_le, not, slice_get}
use Rattle.std.specs.declared.cmp.Ordering.{Ordering}
use Rattle.std.specs.Ordering.{is_lt}
use Rattle.std.specs.List.{filter}
use Rattle.std.specs.Option.{option_map_or}
use Rattle.std.specs.FinMap.{entries}
use Rattle.std.proofs.lemmas.Bool.Decides.{nat_tests}
use Rattle.std.proofs.lemmas.List.{length-map}
use Rattle.finite_maps.specs.Equal.{text_eq}
use Rattle.finite_maps.specs.Maps.{count, is_within, tally}
use Rattle.finite_maps.specs.Sorts.{put_in, in_order, picked}
use Rattle.finite_maps.proofs.EqualLaws.{nat_equality}
use Rattle.ecore_meta.specs.Bounds.{IsBounded, agrees}
use Rattle.ecore_meta.specs.Meta.{Meta}
use Rattle.ecore_meta.specs.Typing.{is_one, kind_of, upper_of}
use Rattle.ecore_meta.specs.declared.meta.Feature.{Feature}
use Rattle.ecore_meta.specs.declared.meta.Kind.TheVariants.{Bounded, Free, Contains, Skip}
use Rattle.model_state.specs.declared.entry.Entry.{Entry}
use Rattle.model_state.specs.declared.step.Place.{Place}
use Rattle.model_state.specs.declared.step.Place.TheVariants.{Inside}
use Rattle.model_state.specs.Good.{Good}
use Rattle.model_state.specs.Keys.{IdBytes}
use Rattle.model_state.specs.Listing.{children, targets, entry_cmp, rank_at, row_entry, is_of}
use Rattle.model_state.specs.State.{State, place_eq}
use Rattle.model_state.specs.Typing.{bounded_kind, is_containment, child_upper, row_upper}
use Rattle.model_texts.specs.Tree.{child_ids, is_single, target_ids}

module _ {A : Type 0} where
  length-put_in : (cmp : A → A → Ordering) (x : A) (ys : List A) → length (put_in cmp x ys) ≡ suc (length ys)
  length-put_in cmp x [] = refl
  length-put_in cmp x (y ∷ ys) =
      elim (is_lt (cmp y x)) as (λ b. length (cond {A = List A} b (y ∷ put_in cmp x ys) (x ∷ y ∷ ys)) ≡ suc (suc (length ys))) [
        | true ↦ ap suc (length-put_in cmp x ys)
        | false ↦ refl
      ]

  length-in_order : (cmp : A → A → Ordering) (xs : List A) → length (in_order cmp xs) ≡ length xs
  length-in_order cmp [] = refl
  length-in_order cmp (x ∷ xs) = length-put_in cmp x (in_order cmp xs) ∙ ap suc (length-in_order cmp xs)

  length-filter : (p : A → Bool) (xs : List A) → length (filter p xs) ≡ tally p xs
  length-filter p [] = refl
  length-filter p (x ∷ xs) =
      elim (p x) as (λ b. length (cond {A = List A} b (x ∷ filter p xs) (filter p xs)) ≡ cond b 1 0 + tally p xs) [
        | true ↦ ap suc (length-filter p xs) ∙ one (tally p xs)
        | false ↦ length-filter p xs ∙ none (tally p xs)
      ]
    where
      one : (n : ℕ) → suc n ≡ 1 + n
      one n = omega arith

      none : (n : ℕ) → n ≡ 0 + n
      none n = omega arith

pub target_count : (m : State) (a : IdBytes) (f : ℕ) → length (target_ids m a f) ≡ count (λ e. text_eq a e.0.0 && nat_eq f e.0.1) m.row
target_count m a f =
    length-map (targets m.row a f) (λ (e : Entry). e.id)
    ∙ length-in_order entry_cmp (map row_entry (picked (λ e. is_of a f e.0) m.row))
    ∙ length-map (picked (λ e. is_of a f e.0) m.row) row_entry
    ∙ length-filter (λ e. is_of a f e.0) (entries m.row)

pub child_count : (m : State) (p : Place) → length (child_ids m p) ≡ count (λ e. place_eq p e.1) m.place
child_count m p =
    length-map (children m.place m.prank p) (λ (e : Entry). e.id)
    ∙ length-in_order entry_cmp (map (λ (e : IdBytes × Place). record { rank = rank_at m.prank e.0; id = e.0 }) (picked (λ e. place_eq p e.1) m.place))
    ∙ length-map (picked (λ e. place_eq p e.1) m.place) (λ (e : IdBytes × Place). record { rank = rank_at m.prank e.0; id = e.0 })
    ∙ length-filter (λ (e : IdBytes × Place). place_eq p e.1) (entries m.place)

-- a list within a bound of one has at most one
few : (n : ℕ) (upper : Option ℕ) → is_one upper ≡ true → is_within n upper ≡ true → n ≤ 1
few n None h k = cc
few n (Some u) h k = let e : u ≡ 1 = nat_equality.exact u 1 h in by_le (subst (λ x. nat_le n x ≡ true) e k)
  where
    by_le : nat_le n 1 ≡ true → n ≤ 1
    by_le k = grind (arith, nat_tests)

module _ (meta : Meta) (m : State) (good : Good meta m) where
  pub bounded_few : (a : IdBytes) (f target : ℕ) (opposite : Option ℕ) → kind_of meta f ≡ Bounded target opposite → is_single meta f ≡ true
      → length (target_ids m a f) ≤ 1
  bounded_few a f target opposite kind single =
      let upper : row_upper meta f ≡ upper_of meta f = ap (λ k. cond (bounded_kind k) (upper_of meta f) None) kind in
      subst (λ n. n ≤ 1) (sym (target_count m a f))
      (few _ (upper_of meta f) single
      (subst (λ u. is_within (count (λ e. text_eq a e.0.0 && nat_eq f e.0.1) m.row) u ≡ true) upper (good.rows.bound a f)))

  pub free_few : IsBounded meta → (a : IdBytes) (f target : ℕ) (opposite : Option ℕ) → kind_of meta f ≡ Free target opposite → is_single meta f ≡ true
      → length (target_ids m a f) ≤ 1
  free_few bounds a f target opposite kind single = by_feature (slice_get meta.features f) refl kind single
    where
      -- a reference without a bound is not single
      neither : (u : Option ℕ) → not (is_some u) ≡ true → is_one u ≡ true → ⊥
      neither None h k = cc
      neither (Some n) h k = cc

      by_feature : (o : Option Feature) → slice_get meta.features f ≡ o → option_map_or (λ (x : Feature). x.kind) o Skip ≡ Free target opposite
          → is_one (option_map_or (λ (x : Feature). x.upper) o None) ≡ true → length (target_ids m a f) ≤ 1
      by_feature None is kind single = cc
      by_feature (Some x) is kind single = absurd (neither x.upper (subst (λ k. agrees k x.upper ≡ true) kind (bounds.agree f x is)) single)

  pub children_within : (a : IdBytes) (f target : ℕ) (opposite : Option ℕ) → kind_of meta f ≡ Contains target opposite
      → is_within (length (child_ids m (Inside a f))) (upper_of meta f) ≡ true
  children_within a f target opposite kind =
      let upper : child_upper meta f ≡ upper_of meta f = ap (λ k. cond (is_containment k) (upper_of meta f) None) kind in
      subst (λ n. is_within n (upper_of meta f) ≡ true) (sym (child_count m (Inside a f)))
      (subst (λ u. is_within (count (λ e. place_eq (Inside a f) e.1) m.place) u ≡ true) upper (good.places.bound a f))
