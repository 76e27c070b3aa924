-- Each child of a place stands in it.
use Rattle.std.proofs.Common.{◌≡◌, Bool, true, false, cond, List, [], ◌∷◌, refl, sym, ap, ◌∙◌, map}
use Rattle.std.specs.Prelude.{Some, T}
use Rattle.std.specs.declared.cmp.Ordering.{Ordering}
use Rattle.std.specs.declared.cmp.Ordering.TheVariants.{Greater}
use Rattle.std.specs.Ordering.{is_lt, is_eq, ordering_reverse}
use Rattle.std.specs.Cmp.{tied_itself}
use Rattle.std.specs.List.{AllByRecursion, filter}
use Rattle.std.specs.FinMap.{FinMap, get, entries, entries_sorted, get-entries, find, is_sorted}
use Rattle.std.specs.FinMap.Entries.{below_all}
use Rattle.finite_maps.specs.Sorts.{put_in, in_order, picked}
use Rattle.finite_maps.proofs.EqualLaws.{text_equality, nat_equality, and_first, and_second}
use Rattle.finite_maps.proofs.MapLaws.{IsKeyOrder}
use Rattle.finite_maps.proofs.Truths.{first, second, is_less}
use Rattle.model_state.specs.declared.entry.Entry.{Entry}
use Rattle.model_state.specs.declared.step.Place.{Place}
use Rattle.model_state.specs.declared.step.Place.TheVariants.{Root, Inside}
use Rattle.model_state.specs.Keys.{IdBytes}
use Rattle.model_state.specs.Listing.{children, entry_cmp, rank_at}
use Rattle.model_state.specs.State.{State, place_eq}
use Rattle.model_state.proofs.Orders.{id_order}
use Rattle.model_texts.specs.Tree.{child_ids}

module _ {A : Type 0} where
  pub all_weaker : (P Q : A → Type 0) → ((x : A) → P x → Q x) → (xs : List A) → AllByRecursion P xs → AllByRecursion Q xs
  all_weaker P Q h [] all = tt
  all_weaker P Q h (x ∷ xs) all = (h x all.0, all_weaker P Q h xs all.1)

  all_put_in : (cmp : A → A → Ordering) (P : A → Type 0) (x : A) (ys : List A) → P x → AllByRecursion P ys → AllByRecursion P (put_in cmp x ys)
  all_put_in cmp P x [] p all = (p, tt)
  all_put_in cmp P x (y ∷ ys) p all =
      elim (is_lt (cmp y x)) as (λ b. AllByRecursion P (cond {A = List A} b (y ∷ put_in cmp x ys) (x ∷ y ∷ ys))) [
        | true ↦ (all.0, all_put_in cmp P x ys p all.1)
        | false ↦ (p, all)
      ]

  all_in_order : (cmp : A → A → Ordering) (P : A → Type 0) (xs : List A) → AllByRecursion P xs → AllByRecursion P (in_order cmp xs)
  all_in_order cmp P [] all = tt
  all_in_order cmp P (x ∷ xs) all = all_put_in cmp P x (in_order cmp xs) all.0 (all_in_order cmp P xs all.1)

  all_map : {B : Type 0} (P : B → Type 0) (h : A → B) (xs : List A) → AllByRecursion (λ x. P (h x)) xs → AllByRecursion P (map h xs)
  all_map P h [] all = tt
  all_map P h (x ∷ xs) all = (all.0, all_map P h xs all.1)

  all_filter : (P Q : A → Type 0) (p : A → Bool) → ((x : A) → p x ≡ true → Q x → P x) → (xs : List A) → AllByRecursion Q xs → AllByRecursion P (filter p xs)
  all_filter P Q p keeps [] all = tt
  all_filter P Q p keeps (x ∷ xs) all =
      elim (p x) as (λ b. p x ≡ b → AllByRecursion P (cond {A = List A} b (x ∷ filter p xs) (filter p xs))) [
        | true ↦ λ is. (keeps x is all.0, all_filter P Q p keeps xs all.1)
        | false ↦ λ is. all_filter P Q p keeps xs all.1
      ] refl

-- ---- the entries of a map are what it holds
module _ {K X : Type 0} {R : K → K → Ordering} (o : IsKeyOrder R) where
  found_later : (q : K) (e : K × X) (es : List (K × X)) → R q e.0 ≡ Greater → find R q (e ∷ es) ≡ find R q es
  found_later q e es h = ap (λ r. cond (is_eq r) (Some e.1) (find R q es)) h

  still_found : (k : K) (v : X) (es fs : List (K × X)) → T (below_all R k es) → AllByRecursion (λ (e : K × X). find R e.0 fs ≡ Some e.1) es
      → AllByRecursion (λ (e : K × X). find R e.0 ((k, v) ∷ fs) ≡ Some e.1) es
  still_found k v [] fs below all = tt
  still_found k v (e ∷ es) fs below all = (
    found_later e.0 (k, v) fs (o.total.antisymm e.0 k ∙ ap ordering_reverse (is_less _ (first _ _ below))) ∙ all.0,
    still_found k v es fs (second _ _ below) all.1,
  )

  all_found : (es : List (K × X)) → T (is_sorted R es) → AllByRecursion (λ (e : K × X). find R e.0 es ≡ Some e.1) es
  all_found [] h = tt
  all_found (e ∷ es) h =
      (ap (λ r. cond (is_eq r) (Some e.1) (find R e.0 es)) (tied_itself o.total e.0), still_found e.0 e.1 es es (first _ _ h) (all_found es (second _ _ h)))

  all_entries : (m : FinMap R X) → AllByRecursion (λ (e : K × X). get m e.0 ≡ Some e.1) (entries m)
  all_entries m = all_weaker _ _ (λ e h. get-entries m e.0 ∙ h) (entries m) (all_found (entries m) (entries_sorted m))

same_place : (p q : Place) → place_eq p q ≡ true → p ≡ q
same_place Root Root h = refl
same_place Root (Inside b g) h = cc
same_place (Inside a f) Root h = cc
same_place (Inside a f) (Inside b g) h = λ i. Inside (text_equality.exact a b (and_first _ _ h) i) (nat_equality.exact f g (and_second _ _ h) i)

pub each_child : (m : State) (p : Place) → AllByRecursion (λ (c : IdBytes). get m.place c ≡ Some p) (child_ids m p)
each_child m p =
    all_map (λ (c : IdBytes). get m.place c ≡ Some p) (λ (e : Entry). e.id) (children m.place m.prank p)
    (all_in_order entry_cmp (λ (e : Entry). get m.place e.id ≡ Some p) _
    (all_map (λ (e : Entry). get m.place e.id ≡ Some p) (λ (e : IdBytes × Place). record { rank = rank_at m.prank e.0; id = e.0 })
    (picked (λ e. place_eq p e.1) m.place)
    (all_filter (λ (e : IdBytes × Place). get m.place e.0 ≡ Some p) (λ (e : IdBytes × Place). get m.place e.0 ≡ Some e.1) (λ e. place_eq p e.1)
    (λ e is h. h ∙ ap (λ q. Some q) (sym (same_place p e.1 is))) (entries m.place) (all_entries id_order m.place))))
