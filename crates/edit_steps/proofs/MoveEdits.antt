-- Moving an element.
use Rattle.std.proofs.Common.{◌≡◌, ℕ, true, false, cond, not, List, [], ◌∷◌, ◌++◌, refl, sym, ap, subst, ◌∙◌, ◌||◌, nat_eq}
use Rattle.std.specs.Prelude.{Some, is_some, unwrap_or}
use Rattle.std.specs.List.{list_any, AllByRecursion}
use Rattle.std.specs.FinMap.{get}
use Rattle.std.proofs.lemmas.Option.{same_Some}
use Rattle.finite_maps.specs.Equal.{option_eq, text_eq}
use Rattle.finite_maps.specs.Maps.{set}
use Rattle.finite_maps.proofs.MapLaws.{get-set_other}
use Rattle.finite_maps.proofs.EqualLaws.{apart, text_equality, option_equality}
use Rattle.ecore_meta.specs.Meta.{Meta}
use Rattle.model_state.specs.declared.entry.Entry.{Entry}
use Rattle.model_state.specs.declared.step.Place.{Place}
use Rattle.model_state.specs.declared.step.Step.TheVariants.{Move}
use Rattle.model_state.specs.Keys.{IdBytes}
use Rattle.model_state.specs.State.{State, is_live, place_eq}
use Rattle.model_state.specs.Steps.{tests, Can, fold}
use Rattle.model_state.specs.Good.{Good, Sound, PlaceOk}
use Rattle.model_state.specs.Listing.{children, rank_at}
use Rattle.finite_maps.proofs.Cases.{not_so, true_false, not_false, or_first, or_second}
use Rattle.model_state.proofs.Orders.{id_order}
use Rattle.model_state.proofs.StepTests.{pass, number_equality, place_equality}
use Rattle.model_laws.proofs.Runs.{fold_more, fold_append}
use Rattle.edit_steps.specs.Spot.{spot}
use Rattle.edit_steps.specs.References.{without_entry, stands_at}
use Rattle.edit_steps.specs.Places.{Ranks, ranked_places, rerank_places, MayMoveWithin, move_within_made, move_within_after}
use Rattle.edit_steps.specs.Laws.{MoveWithinMeets, MoveToMeets}
use Rattle.edit_steps.proofs.Lists.{apart_from}
use Rattle.edit_steps.proofs.Pairs.{some_of}
use Rattle.edit_steps.proofs.LinkEdits.{all_filter, fewer, none_without, at_most}
use Rattle.edit_steps.proofs.Creates.{Stand, names_differ, rerank_leads, placed_live, LiveHere, children_live, children_there, one_child, stand_from}
use Rattle.edit_steps.proofs.Creates.{children_stand}

pub ranked_missing : (e : IdBytes) (xs : List Entry) (rs : List ℕ) (prank : Ranks) → list_any (λ (x : Entry). text_eq e x.id) xs ≡ false
    → get (ranked_places xs rs prank) e ≡ get prank e
ranked_missing e [] rs prank h = refl
ranked_missing e (x ∷ xs) [] prank h = refl
ranked_missing e (x ∷ xs) (r ∷ rs) prank h =
    ranked_missing e xs rs (set prank x.id (Some r)) (or_second (text_eq e x.id) _ h)
    ∙ get-set_other id_order prank x.id (Some r) e (names_differ x.id e (apart text_eq text_equality e x.id (or_first (text_eq e x.id) _ h)))

-- what is known of an element that stands in a place
pub placed : (meta : Meta) (m : State) → Good meta m → (e : IdBytes) (p : Place) → get m.place e ≡ Some p
    → (is_live m e ≡ true) × (get m.prank e ≡ Some (rank_at m.prank e))
placed meta m good e p is =
    placed_live meta m.kind (get m.kind e) p (get m.prank e) (subst (λ o. PlaceOk meta m.kind (get m.kind e) o (get m.prank e)) is (good.places.stands e))

module _ (meta : Meta) (sound : Sound meta) (m : State) (good : Good meta m) (e : IdBytes) (p : Place) (k : ℕ) (may : MayMoveWithin m e p k) where
  abbrev others : List Entry
  others = without_entry e (children m.place m.prank p)

  pub others_stand : Stand m others
  others_stand = stand_from meta m good p others
      (all_filter (LiveHere m) (λ x. not (text_eq e x.id)) (children m.place m.prank p) (children_live meta m good p))
      (apart_from others (λ i. at_most _ _ (fewer (λ x. not (text_eq e x.id)) (λ x. text_eq i x.id) (children m.place m.prank p)) (one_child meta m good p i)))

  moved : is_some (spot others k).rank ≡ true
      → fold meta m (rerank_places others (spot others k).ranks
      ++ rerank_places (record { rank = rank_at m.prank e; id = e } ∷ []) (unwrap_or (spot others k).rank 0 ∷ []))
      ≡ Some (record m { prank = set (ranked_places others (spot others k).ranks m.prank) e (spot others k).rank })
  moved some =
      let next = ranked_places others (spot others k).ranks m.prank in
      let n : State = record m { prank = next } in
      let known = placed meta m good e p may.stands in
      let first = rerank_leads meta sound others (spot others k).ranks m good others_stand in
      let here : get next e ≡ Some (rank_at m.prank e) =
      ranked_missing e others (spot others k).ranks m.prank (none_without e (children m.place m.prank p)) ∙ known.1 in
      let second = rerank_leads meta sound (record { rank = rank_at m.prank e; id = e } ∷ []) (unwrap_or (spot others k).rank 0 ∷ []) n first.good
      (known.0, here, refl, tt) in
      fold_append meta m n (rerank_places others (spot others k).ranks) _ first.run ∙ second.run
      ∙ ap (λ w. Some (record m { prank = set next e w })) (sym (some_of (spot others k).rank some))

  within : fold meta m (move_within_made m e p k) ≡ Some (move_within_after m e p k)
  within =
      elim (stands_at e k (children m.place m.prank p)) as (λ t. stands_at e k (children m.place m.prank p) ≡ t
      → fold meta m (cond t []
      (rerank_places others (spot others k).ranks
      ++ rerank_places (record { rank = rank_at m.prank e; id = e } ∷ []) (unwrap_or (spot others k).rank 0 ∷ [])))
      ≡ Some (cond t m (record m { prank = set (ranked_places others (spot others k).ranks m.prank) e (spot others k).rank }))) [
        | true ↦ λ _. refl
        | false ↦ λ away. moved (may.ranked away)
      ] refl

pub move_within_meets : MoveWithinMeets
move_within_meets meta sound m good e p k may = within meta sound m good e p k may

-- an element of another place is not among them
none_such : (m : State) (e : IdBytes) (from to : Place) → get m.place e ≡ Some from → place_eq from to ≡ false → (xs : List Entry)
    → AllByRecursion (λ (x : Entry). get m.place x.id ≡ Some to) xs → list_any (λ (x : Entry). text_eq e x.id) xs ≡ false
none_such m e from to is elsewhere [] all = refl
none_such m e from to is elsewhere (x ∷ xs) all =
    let other : text_eq e x.id ≡ false = not_so (text_eq e x.id) (λ same.
    let there : Some from ≡ Some to = sym is ∙ ap (get m.place) (text_equality.exact e x.id same) ∙ all.0 in
    true_false (place_eq from to) (ap (place_eq from) (sym (same_Some from to there)) ∙ place_equality.own from) elsewhere) in
    ap (λ b. b || list_any (λ (x : Entry). text_eq e x.id) xs) other ∙ none_such m e from to is elsewhere xs all.1

pub not_there : (meta : Meta) (m : State) (good : Good meta m) (e : IdBytes) (from to : Place) → get m.place e ≡ Some from → place_eq from to ≡ false
    → list_any (λ (x : Entry). text_eq e x.id) (children m.place m.prank to) ≡ false
not_there meta m good e from to is elsewhere = none_such m e from to is elsewhere (children m.place m.prank to) (children_there m to)

pub move_to_meets : MoveToMeets
move_to_meets meta sound m good e from to k up down may =
    let xs = children m.place m.prank to in
    let s = spot xs k in
    let first = rerank_leads meta sound xs s.ranks m good (children_stand meta m good to) in
    let n : State = record m { prank = ranked_places xs s.ranks m.prank } in
    let known = placed meta m good e from may.stands in
    let here : get n.prank e ≡ Some (rank_at m.prank e) =
    ranked_missing e xs s.ranks m.prank (not_there meta m good e from to may.stands may.elsewhere) ∙ known.1 in
    let step = Move e from (rank_at m.prank e) to (unwrap_or s.rank 0) up down in
    let can : Can meta n step = pass (tests meta n step) (
      known.0,
      (
        ap (λ o. option_eq place_eq o (Some from)) may.stands ∙ (option_equality place_eq place_equality).own (Some from),
        (
          ap (λ o. option_eq nat_eq o (Some (rank_at m.prank e))) here ∙ number_equality.own (Some (rank_at m.prank e)),
          (
            not_false _ may.elsewhere,
            (may.parent, (may.typed, (may.above_from, (may.above_to, (not_false _ may.no_cycle, (may.room, tt)))))),
          ),
        ),
      ),
    ) in
    fold_append meta m n (rerank_places xs s.ranks) (step ∷ []) first.run
    ∙ fold_more meta n step [] can
    ∙ ap (λ w. Some (record m { place = set m.place e (Some to); prank = set (ranked_places xs s.ranks m.prank) e w })) (sym (some_of s.rank may.ranked))
