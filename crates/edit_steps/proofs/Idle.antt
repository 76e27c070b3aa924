-- Where no step is made for an edit of a reference.
use Rattle.std.proofs.Common.{◌≡◌, ℕ, true, false, cond, List, [], ◌∷◌, ◌++◌, refl, sym, ap, ◌∙◌, nat_eq}
use Rattle.std.specs.Prelude.{Option, None, Some, is_some, unwrap_or}
use Rattle.std.specs.List.{list_any, AllByRecursion}
use Rattle.std.specs.FinMap.{get}
use Rattle.std.proofs.lemmas.Bool.{or_left, or_right}
use Rattle.finite_maps.specs.Maps.{set}
use Rattle.finite_maps.specs.Equal.{text_eq}
use Rattle.finite_maps.proofs.MapLaws.{get-set_other, get-set_same, set_here}
use Rattle.finite_maps.proofs.EqualLaws.{nat_equality, text_equality}
use Rattle.ecore_meta.specs.Meta.{Meta}
use Rattle.model_state.specs.declared.entry.Entry.{Entry}
use Rattle.model_state.specs.declared.step.Step.{Step}
use Rattle.model_state.specs.declared.step.Step.TheVariants.{RerankRow}
use Rattle.model_state.specs.Keys.{IdBytes}
use Rattle.model_state.specs.Typing.{opposite_of}
use Rattle.model_state.specs.State.{State}
use Rattle.model_state.specs.Steps.{fold}
use Rattle.model_state.specs.Good.{Good, Sound}
use Rattle.model_state.specs.Listing.{targets}
use Rattle.model_state.proofs.Orders.{row_order}
use Rattle.finite_maps.proofs.Cases.{not_so, some_none, true_false}
use Rattle.model_laws.proofs.Runs.{same_state}
use Rattle.edit_steps.specs.Spot.{spot, end_spot}
use Rattle.edit_steps.specs.Rows.{Rows, clear, ranked, reranks, unlinks}
use Rattle.edit_steps.specs.References.{join, clear_there, set_ref_made, set_ref_after, link_made, link_after, MayLink, unlink_made, unlink_after}
use Rattle.edit_steps.specs.References.{backwards, unset_made, unset_after, without_entry, stands_at, reorder_made, reorder_after, MayReorder}
use Rattle.edit_steps.specs.Laws.{SetRefIdle}
use Rattle.edit_steps.proofs.Lists.{targets_held}
use Rattle.edit_steps.proofs.Pairs.{rows_apart, some_of}
use Rattle.edit_steps.proofs.Clears.{Held, pair_row, targets_differ}
use Rattle.edit_steps.proofs.Sets.{set_ref_meets, clear_gone, own_near}
use Rattle.edit_steps.proofs.LinkEdits.{left_targets, ranked_missing, none_without, others_held}
use Rattle.model_state.specs.Ranks.{rank_gap}

-- a run of no step changes nothing
pub idle_from : (meta : Meta) (m : State) (ss : List Step) (row : Rows) → fold meta m ss ≡ Some (record m { row = row }) → ss ≡ [] → row ≡ m.row
idle_from meta m ss row run none = ap (λ (x : State). x.row) (same_state (record m { row = row }) m (sym run ∙ ap (fold meta m) none))

pub join_has : (meta : Meta) → Sound meta → (a : IdBytes) (f : ℕ) (ra : Option ℕ) (b : IdBytes) (row : Rows) (o : Option ℕ) → opposite_of meta f ≡ o
    → get (join o a f ra b row) (a, f, b) ≡ ra
join_has meta sound a f ra b row None is = get-set_same row_order row (a, f, b) ra
join_has meta sound a f ra b row (Some g) is =
    let r = ranked b g (targets row b g) (end_spot (targets row b g)).ranks row in
    get-set_other row_order (set r (a, f, b) ra) (b, g, a) (end_spot (targets row b g)).rank (a, f, b) (rows_apart a f b b g a (sound.other f g is))
    ∙ get-set_same row_order r (a, f, b) ra

nothing_if : (o : Option ℕ) (r : ℕ) (ss : List Step) → o ≡ Some r → cond (is_some o) [] ss ≡ []
nothing_if o r ss is = ap (λ (x : Option ℕ). cond (is_some x) [] ss) is

module _ (meta : Meta) (sound : Sound meta) (m : State) (a : IdBytes) (f : ℕ) (b : IdBytes) where
  abbrev joined_row : Rows
  joined_row = join (opposite_of meta f) a f (Some rank_gap) b (clear_there meta (opposite_of meta f) f b (clear (opposite_of meta f) a f m.row))

  pub set_ref_still : set_ref_after meta a f b m.row ≡ m.row → set_ref_made meta m.row a f b ≡ []
  set_ref_still same =
      elim (get m.row (a, f, b)) as (λ r. get m.row (a, f, b) ≡ r → set_ref_made meta m.row a f b ≡ []) [
        | Some r ↦ λ is. nothing_if (get m.row (a, f, b)) r _ is
        | None ↦ λ none.
            let after : set_ref_after meta a f b m.row ≡ joined_row = ap (λ (o : Option ℕ). cond (is_some o) m.row joined_row) none in
            absurd (some_none (get m.row (a, f, b)) rank_gap
            (ap (λ row. get row (a, f, b)) (sym same ∙ after)
            ∙ join_has meta sound a f (Some rank_gap) b (clear_there meta (opposite_of meta f) f b (clear (opposite_of meta f) a f m.row))
            (opposite_of meta f) refl) none)
      ] refl

pub set_ref_idle : SetRefIdle
set_ref_idle meta sound m good a f b may = (
  idle_from meta m (set_ref_made meta m.row a f b) (set_ref_after meta a f b m.row) (set_ref_meets meta sound m good a f b may),
  set_ref_still meta sound m a f b,
)

-- ---- link, unlink and unset: a row that was not there, or was, is there no more
module _ (meta : Meta) (sound : Sound meta) (m : State) (good : Good meta m) (a : IdBytes) (f : ℕ) where
  pub link_still : (b : IdBytes) (k : ℕ) → MayLink meta m a f b k → link_after meta a f b k m.row ≡ m.row → link_made meta m.row a f b k ≡ []
  link_still b k may same =
      let o = opposite_of meta f in
      let left = clear_there meta o f b m.row in
      let s = spot (targets left a f) k in
      let rank : s.rank ≡ Some (unwrap_or (spot (targets m.row a f) k).rank 0) =
      ap (λ xs. (spot xs k).rank) (left_targets meta sound m good a f b k may o refl) ∙ some_of (spot (targets m.row a f) k).rank may.ranked in
      absurd (some_none (get m.row (a, f, b)) (unwrap_or (spot (targets m.row a f) k).rank 0)
      (ap (λ row. get row (a, f, b)) (sym same) ∙ join_has meta sound a f s.rank b (ranked a f (targets left a f) s.ranks left) o refl ∙ rank) may.absent)

  pub unlink_still : (b : IdBytes) → is_some (get m.row (a, f, b)) ≡ true → unlink_after meta a f b m.row ≡ m.row → unlink_made meta m.row a f b ≡ []
  unlink_still b there same =
      absurd (some_none (get m.row (a, f, b)) (unwrap_or (get m.row (a, f, b)) 0) (some_of (get m.row (a, f, b)) there)
      (ap (λ row. get row (a, f, b)) (sym same) ∙ pair_row meta sound a f (opposite_of meta f) m.row b))

  no_entries : (xs : List Entry) → AllByRecursion (λ (x : Entry). get m.row (a, f, x.id) ≡ Some x.rank) xs
      → ((y : IdBytes) → get m.row (a, f, y) ≡ None) → xs ≡ []
  no_entries [] all none = refl
  no_entries (x ∷ xs) all none = absurd (some_none (get m.row (a, f, x.id)) x.rank all.0 (none x.id))

  pub unset_still : unset_after meta a f m.row ≡ m.row → unset_made meta m.row a f ≡ []
  unset_still same =
      let o = opposite_of meta f in
      let none : (y : IdBytes)
      → get m.row (a, f, y) ≡ None = λ y. ap (λ row. get row (a, f, y)) (sym same) ∙ clear_gone o a f m.row (a, f, y) (own_near o a f y) in
      ap (λ xs. unlinks m.row o a f (backwards xs)) (no_entries (targets m.row a f) (targets_held m.row a f) none)

-- ---- reorder: each entry has the rank that it had
same_number : (x y : ℕ) → Some x ≡ Some y → x ≡ y
same_number x y e = cc

no_reranks : (a : IdBytes) (f : ℕ) (xs : List Entry) (rs : List ℕ) (row : Rows) → Held row row None a f xs
    → ((y : IdBytes) → list_any (λ (x : Entry). text_eq y x.id) xs ≡ true → get (ranked a f xs rs row) (a, f, y) ≡ get row (a, f, y)) → reranks a f xs rs ≡ []
no_reranks a f [] rs row held alike = refl
no_reranks a f (x ∷ xs) [] row held alike = refl
no_reranks a f (x ∷ xs) (r ∷ rs) row held alike =
    let next = set row (a, f, x.id) (Some r) in
    let here : get (ranked a f xs rs next) (a, f, x.id) ≡ Some r =
    ranked_missing a f x.id xs rs next held.2 ∙ get-set_same row_order row (a, f, x.id) (Some r) in
    let rank : x.rank ≡ r = same_number x.rank r (sym held.0 ∙ sym (alike x.id (or_left (text_eq x.id x.id) _ (text_equality.own x.id))) ∙ here) in
    let stays : next ≡ row = set_here row_order row (a, f, x.id) (Some r) (held.0 ∙ ap Some rank) in
    let rest : reranks a f xs rs ≡ [] =
    no_reranks a f xs rs row held.3
    (λ y among. ap (λ w. get (ranked a f xs rs w) (a, f, y)) (sym stays) ∙ alike y (or_right (text_eq y x.id) _ among)) in
    ap (λ t. cond {A = List Step} t (reranks a f xs rs) (RerankRow a f x.id x.rank r ∷ reranks a f xs rs))
    (ap (nat_eq x.rank) (sym rank) ∙ nat_equality.own x.rank) ∙ rest

no_rerank : (a : IdBytes) (f : ℕ) (b : IdBytes) (r s : ℕ) → r ≡ s → reranks a f (record { rank = r; id = b } ∷ []) (s ∷ []) ≡ []
no_rerank a f b r s is = ap (λ t. cond {A = List Step} t [] (RerankRow a f b r s ∷ [])) (ap (nat_eq r) (sym is) ∙ nat_equality.own r)

both_none : (xs ys : List Step) → xs ≡ [] → ys ≡ [] → xs ++ ys ≡ []
both_none xs ys h g = ap (λ l. l ++ ys) h ∙ g

module _ (meta : Meta) (sound : Sound meta) (m : State) (good : Good meta m) (a : IdBytes) (f : ℕ) (b : IdBytes) (k : ℕ) (may : MayReorder m a f b k) where
  abbrev others : List Entry
  others = without_entry b (targets m.row a f)

  abbrev ranked_row : Rows
  ranked_row = ranked a f others (spot others k).ranks m.row

  moved_still : set ranked_row (a, f, b) (spot others k).rank ≡ m.row
      → reranks a f others (spot others k).ranks
      ++ reranks a f (record { rank = unwrap_or (get m.row (a, f, b)) 0; id = b } ∷ []) (unwrap_or (spot others k).rank 0 ∷ []) ≡ []
  moved_still same =
      let mine : get m.row (a, f, b) ≡ (spot others k).rank =
      ap (λ row. get row (a, f, b)) (sym same) ∙ get-set_same row_order ranked_row (a, f, b) (spot others k).rank in
      let apart : (y : IdBytes) → list_any (λ (x : Entry). text_eq y x.id) others ≡ true → text_eq b y ≡ false = λ y among.
      not_so (text_eq b y) (λ is.
      true_false (list_any (λ (x : Entry). text_eq b x.id) others)
      (ap (λ (z : IdBytes). list_any (λ (x : Entry). text_eq z x.id) others) (text_equality.exact b y is) ∙ among)
      (none_without b (targets m.row a f))) in
      both_none (reranks a f others (spot others k).ranks) _
      (no_reranks a f others (spot others k).ranks m.row (others_held meta sound m good a f b k may)
      (λ y among. sym (get-set_other row_order ranked_row (a, f, b) (spot others k).rank (a, f, y) (targets_differ a f b y (apart y among)))
      ∙ ap (λ row. get row (a, f, y)) same))
      (no_rerank a f b _ _ (ap (λ o. unwrap_or o 0) mine))

  pub reorder_still : reorder_after a f b k m.row ≡ m.row → reorder_made m.row a f b k ≡ []
  reorder_still same =
      elim (stands_at b k (targets m.row a f)) as (λ t. cond t m.row (set ranked_row (a, f, b) (spot others k).rank) ≡ m.row
      → cond t [] (reranks a f others (spot others k).ranks
      ++ reranks a f (record { rank = unwrap_or (get m.row (a, f, b)) 0; id = b } ∷ []) (unwrap_or (spot others k).rank 0 ∷ [])) ≡ []) [
        | true ↦ λ _. refl
        | false ↦ moved_still
      ] same
