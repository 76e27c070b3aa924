-- Where no step is made for an edit of a place.
use Rattle.std.proofs.Common.{◌≡◌, ℕ, Bool, true, false, cond, List, [], ◌∷◌, ◌++◌, refl, sym, ap, ◌∙◌, ◌||◌, nat_eq, length}
use Rattle.std.specs.Prelude.{Option, None, Some, is_some, unwrap_or}
use Rattle.std.specs.List.{list_any}
use Rattle.std.specs.FinMap.{get}
use Rattle.std.proofs.lemmas.Bool.{or_left, or_right}
use Rattle.finite_maps.specs.Maps.{set}
use Rattle.finite_maps.specs.Equal.{text_eq}
use Rattle.finite_maps.proofs.Cases.{not_so, true_false}
use Rattle.finite_maps.proofs.MapLaws.{get-set_other, get-set_same, set_here}
use Rattle.finite_maps.proofs.NestedLaws.{get-without}
use Rattle.finite_maps.proofs.EqualLaws.{nat_equality, text_equality}
use Rattle.ecore_meta.specs.Meta.{Meta}
use Rattle.model_state.specs.declared.entry.Entry.{Entry}
use Rattle.model_state.specs.declared.step.Place.{Place}
use Rattle.model_state.specs.declared.step.Place.TheVariants.{Root}
use Rattle.model_state.specs.declared.step.Step.{Step}
use Rattle.model_state.specs.declared.step.Step.TheVariants.{RerankPlace}
use Rattle.model_state.specs.Keys.{IdBytes}
use Rattle.model_state.specs.Listing.{children, rank_at}
use Rattle.model_state.specs.State.{State, is_live, place_eq}
use Rattle.model_state.specs.Good.{Good, Sound}
use Rattle.model_state.proofs.Orders.{id_order}
use Rattle.model_state.proofs.StepTests.{place_equality}
use Rattle.edit_steps.specs.Spot.{spot}
use Rattle.edit_steps.specs.Places.{Ranks, MayMoveWithin, ranked_places, rerank_places, move_within_after, move_within_made, move_to_after, move_to_made}
use Rattle.edit_steps.specs.References.{without_entry, stands_at}
use Rattle.edit_steps.proofs.Creates.{Stand, names_differ}
use Rattle.edit_steps.proofs.LinkEdits.{none_without}
use Rattle.edit_steps.proofs.MoveEdits.{ranked_missing, others_stand}
use Rattle.edit_steps.specs.MoveRefusals.{place_of, move_tests, within_tests, arrival_tests}
use Rattle.edit_steps.specs.Subtree.{is_among, subtree_of}
use Rattle.edit_steps.specs.Deletes.{delete_after}
use Rattle.edit_steps.specs.Moves.{move_after, move_made}
use Rattle.edit_steps.proofs.Containers.{live_place}
use Rattle.edit_steps.proofs.MoveRefused.{AllPass, passed}
use Rattle.edit_steps.specs.Containers.{containers_of}
use Rattle.edits.proofs.Allowed.{MayMove}

left_or : (b c : Bool) → b || c ≡ true → b ≡ false → c ≡ true
left_or true c h g = cc
left_or false c h g = h

same_number : (x y : ℕ) → Some x ≡ Some y → x ≡ y
same_number x y e = cc

some_place : (x y : Place) → Some x ≡ Some y → x ≡ y
some_place x y e = cc

-- ---- delete: the element was there, and is there no more
pub deleted : (meta : Meta) (m : State) (e : IdBytes) → is_live m e ≡ true → delete_after meta m e ≡ m → ⊥
deleted meta m e live same =
    let here : is_among (subtree_of meta m e) e ≡ true = or_left (text_eq e e) _ (text_equality.own e) in
    let gone : get m.kind e ≡ None =
    ap (λ (x : State). get x.kind e) (sym same) ∙ get-without id_order (is_among (subtree_of meta m e)) m.kind e
    ∙ ap (λ b. cond b None (get m.kind e)) here in
    true_false (is_live m e) live (ap is_some gone)

-- ---- move within a place: each element has the rank that it had
no_reranks : (m : State) (xs : List Entry) (rs : List ℕ) (prank : Ranks)
    → ((x : IdBytes) → list_any (λ (y : Entry). text_eq x y.id) xs ≡ true → get prank x ≡ get m.prank x) → Stand m xs
    → ((y : IdBytes) → list_any (λ (x : Entry). text_eq y x.id) xs ≡ true → get (ranked_places xs rs prank) y ≡ get prank y) → rerank_places xs rs ≡ []
no_reranks m [] rs prank old stand alike = refl
no_reranks m (x ∷ xs) [] prank old stand alike = refl
no_reranks m (x ∷ xs) (r ∷ rs) prank old stand alike =
    let next = set prank x.id (Some r) in
    let own : text_eq x.id x.id || list_any (λ (y : Entry). text_eq x.id y.id) xs ≡ true = or_left (text_eq x.id x.id) _ (text_equality.own x.id) in
    let held : get prank x.id ≡ Some x.rank = old x.id own ∙ stand.1 in
    let here : get (ranked_places xs rs next) x.id ≡ Some r = ranked_missing x.id xs rs next stand.2 ∙ get-set_same id_order prank x.id (Some r) in
    let rank : x.rank ≡ r = same_number x.rank r (sym held ∙ sym (alike x.id own) ∙ here) in
    let stays : next ≡ prank = set_here id_order prank x.id (Some r) (held ∙ ap Some rank) in
    let rest : rerank_places xs rs ≡ [] =
    no_reranks m xs rs prank (λ y among. old y (or_right (text_eq y x.id) _ among)) stand.3
    (λ y among. ap (λ w. get (ranked_places xs rs w) y) (sym stays) ∙ alike y (or_right (text_eq y x.id) _ among)) in
    ap (λ t. cond {A = List Step} t (rerank_places xs rs) (RerankPlace x.id x.rank r ∷ rerank_places xs rs))
    (ap (nat_eq x.rank) (sym rank) ∙ nat_equality.own x.rank) ∙ rest

no_rerank : (e : IdBytes) (r s : ℕ) → r ≡ s → rerank_places (record { rank = r; id = e } ∷ []) (s ∷ []) ≡ []
no_rerank e r s is = ap (λ t. cond {A = List Step} t [] (RerankPlace e r s ∷ [])) (ap (nat_eq r) (sym is) ∙ nat_equality.own r)

both_none : (xs ys : List Step) → xs ≡ [] → ys ≡ [] → xs ++ ys ≡ []
both_none xs ys h g = ap (λ l. l ++ ys) h ∙ g

module _ (meta : Meta) (sound : Sound meta) (m : State) (good : Good meta m) (e : IdBytes) (p : Place) (k : ℕ) (may : MayMoveWithin m e p k) where
  abbrev others : List Entry
  others = without_entry e (children m.place m.prank p)

  abbrev next : Ranks
  next = ranked_places others (spot others k).ranks m.prank

  moved_still : ◌≡◌ {A = State} (record m { prank = set next e (spot others k).rank }) m
      → rerank_places others (spot others k).ranks
      ++ rerank_places (record { rank = rank_at m.prank e; id = e } ∷ []) (unwrap_or (spot others k).rank 0 ∷ []) ≡ []
  moved_still whole =
      let same : set next e (spot others k).rank ≡ m.prank = ap (λ (x : State). x.prank) whole in
      let mine : get m.prank e ≡ (spot others k).rank = ap (λ w. get w e) (sym same) ∙ get-set_same id_order next e (spot others k).rank in
      let apart : (y : IdBytes) → list_any (λ (x : Entry). text_eq y x.id) others ≡ true → text_eq e y ≡ false = λ y among.
      not_so (text_eq e y) (λ is.
      true_false (list_any (λ (x : Entry). text_eq e x.id) others)
      (ap (λ (z : IdBytes). list_any (λ (x : Entry). text_eq z x.id) others) (text_equality.exact e y is) ∙ among)
      (none_without e (children m.place m.prank p))) in
      both_none (rerank_places others (spot others k).ranks) _
      (no_reranks m others (spot others k).ranks m.prank (λ _ _. refl) (others_stand meta sound m good e p k may)
      (λ y among. sym (get-set_other id_order next e (spot others k).rank y (names_differ e y (apart y among))) ∙ ap (λ w. get w y) same))
      (no_rerank e _ _ (ap (λ o. unwrap_or o 0) mine))

  pub within_still : move_within_after m e p k ≡ m → move_within_made m e p k ≡ []
  within_still same =
      elim (stands_at e k (children m.place m.prank p)) as (λ t. cond t m (record m { prank = set next e (spot others k).rank }) ≡ m
      → cond t [] (rerank_places others (spot others k).ranks
      ++ rerank_places (record { rank = rank_at m.prank e; id = e } ∷ []) (unwrap_or (spot others k).rank 0 ∷ [])) ≡ []) [
        | true ↦ λ _. refl
        | false ↦ moved_still
      ] same

-- ---- move
module _ (meta : Meta) (sound : Sound meta) (m : State) (good : Good meta m) (e : IdBytes) (to : Place) (at : Option ℕ) (up down : List IdBytes)
    (may : MayMove meta m e to at) where
  abbrev xs : List Entry
  xs = children m.place m.prank to

  abbrev inner : ℕ
  inner = unwrap_or at (length (without_entry e xs))

  abbrev outer : ℕ
  outer = unwrap_or at (length xs)

  stands : get m.place e ≡ Some (place_of m e)
  stands = let here = live_place meta m good e may.live in here.1 ∙ ap Some (sym (ap (λ o. unwrap_or o Root) here.1))

  -- an element that is moved to another place was not there
  not_moved : place_eq (place_of m e) to ≡ false → move_to_after m e to outer ≡ m → ⊥
  not_moved differ same =
      let there : Some (place_of m e) ≡ Some to = sym stands ∙ ap (λ (x : State). get x.place e) (sym same) ∙ get-set_same id_order m.place e (Some to) in
      true_false (place_eq (place_of m e) to)
      (ap (place_eq (place_of m e)) (sym (some_place (place_of m e) to there)) ∙ place_equality.own (place_of m e)) differ

  pub move_still : move_after m e to at ≡ m → move_made m e to at up down ≡ []
  move_still =
      let t = passed (move_tests meta m e to (containers_of m to) at) may.taken in
      elim (place_eq (place_of m e) to) as (λ b. place_eq (place_of m e) to ≡ b → AllPass (cond b (within_tests e xs at) (arrival_tests meta m to xs at))
      → cond b (move_within_after m e to inner) (move_to_after m e to outer) ≡ m
      → cond b (move_within_made m e to inner) (move_to_made m e (place_of m e) to outer up down) ≡ []) [
        | true ↦ λ same tests. within_still meta sound m good e to inner (record {
          stands = stands ∙ ap Some (place_equality.exact (place_of m e) to same);
          ranked = left_or _ _ tests.1.0;
        })
        | false ↦ λ differ tests same. absurd (not_moved differ same)
      ] refl t.1.1
