-- The elements at the root have their ranks, also once another is created.
use Rattle.std.proofs.Common.{◌≡◌, ℕ, true, false, List, [], ◌∷◌, ◌++◌, refl, sym, ap, subst, ◌∙◌}
use Rattle.std.specs.Prelude.{Option, Some, is_some, unwrap_or}
use Rattle.std.specs.List.{list_any}
use Rattle.std.specs.FinMap.{get}
use Rattle.finite_maps.specs.Equal.{text_eq}
use Rattle.finite_maps.specs.Maps.{set}
use Rattle.finite_maps.proofs.Cases.{not_false, not_so, true_false, or_first, or_second}
use Rattle.finite_maps.proofs.EqualLaws.{apart, text_equality}
use Rattle.finite_maps.proofs.MapLaws.{get-set_other, get-set_same}
use Rattle.ecore_meta.specs.Meta.{Meta}
use Rattle.model_state.specs.declared.entry.Entry.{Entry}
use Rattle.model_state.specs.declared.step.Place.{Place}
use Rattle.model_state.specs.declared.step.Place.TheVariants.{Root, Inside}
use Rattle.model_state.specs.declared.step.Step.{Step}
use Rattle.model_state.specs.declared.step.Step.TheVariants.{New}
use Rattle.model_state.specs.Good.{Good, Sound}
use Rattle.model_state.specs.Keys.{IdBytes}
use Rattle.model_state.specs.State.{State, is_live}
use Rattle.model_state.specs.Steps.{Can, fold, has_room, may_stand, place_live, tests}
use Rattle.model_state.specs.Typing.{is_concrete}
use Rattle.model_state.proofs.Orders.{id_order}
use Rattle.model_state.proofs.StepTests.{pass}
use Rattle.model_laws.proofs.Runs.{fold_append, fold_more, undoes}
use Rattle.edit_steps.specs.Places.{Ranks, ranked_places, rerank_places}
use Rattle.edit_steps.specs.Spot.{end_spot}
use Rattle.edit_steps.proofs.Creates.{Stand, names_differ, rerank_leads}
use Rattle.edit_steps.proofs.Pairs.{some_of}
use Rattle.model_laws.proofs.Inserts.{or_none}
use Rattle.import_laws.specs.After.{ranks_after}
use Rattle.import_laws.specs.News as news
use Rattle.import_laws.specs.Roots.{with_ranks}

-- ---- what is live differs from what is not
pub live_differ : (s : State) (e x : IdBytes) → is_live s e ≡ false → is_live s x ≡ true → text_eq e x ≡ false
live_differ s e x dead live = not_so (text_eq e x) (λ same. true_false (is_live s x) live (ap (is_live s) (sym (text_equality.exact e x same)) ∙ dead))

none_stands : (s : State) (e : IdBytes) → is_live s e ≡ false → (xs : List Entry) → Stand s xs → list_any (λ (y : Entry). text_eq e y.id) xs ≡ false
none_stands s e dead [] stand = refl
none_stands s e dead (x ∷ xs) stand = or_none (text_eq e x.id) _ (live_differ s e x.id dead stand.0) (none_stands s e dead xs stand.3)

-- ---- another element gets a rank
ranks_still : (s : State) (x : IdBytes) (v : Option ℕ) (xs : List Entry) → list_any (λ (y : Entry). text_eq x y.id) xs ≡ false → Stand s xs
    → Stand (record s { prank = set s.prank x v }) xs
ranks_still s x v [] differ stand = tt
ranks_still s x v (y ∷ ys) differ stand = (
  stand.0,
  get-set_other id_order s.prank x v y.id (names_differ x y.id (or_first (text_eq x y.id) _ differ)) ∙ stand.1,
  stand.2,
  ranks_still s x v ys (or_second (text_eq x y.id) _ differ) stand.3,
)

-- a new element is created
abbrev pub with_new : State → IdBytes → ℕ → Place → Ranks → State
with_new s e c p prank = record s { kind = set s.kind e (Some c); place = set s.place e (Some p); prank = prank }

stands_still : (s : State) (e : IdBytes) (c : ℕ) (p : Place) (v : Option ℕ) → is_live s e ≡ false → (xs : List Entry) → Stand s xs
    → Stand (with_new s e c p (set s.prank e v)) xs
stands_still s e c p v dead [] stand = tt
stands_still s e c p v dead (x ∷ xs) stand =
    let other = names_differ e x.id (live_differ s e x.id dead stand.0) in (
      ap is_some (get-set_other id_order s.kind e (Some c) x.id other) ∙ stand.0,
      get-set_other id_order s.prank e v x.id other ∙ stand.1,
      stand.2,
      stands_still s e c p v dead xs stand.3,
    )

-- ---- the elements are renumbered
ranked_other : (x : IdBytes) (xs : List Entry) (rs : List ℕ) (prank : Ranks) → list_any (λ (y : Entry). text_eq x y.id) xs ≡ false
    → get (ranked_places xs rs prank) x ≡ get prank x
ranked_other x [] rs prank differ = refl
ranked_other x (y ∷ ys) [] prank differ = refl
ranked_other x (y ∷ ys) (r ∷ rs) prank differ =
    ranked_other x ys rs (set prank y.id (Some r)) (or_second (text_eq x y.id) _ differ)
    ∙ get-set_other id_order prank y.id (Some r) x (names_differ y.id x (apart text_eq text_equality x y.id (or_first (text_eq x y.id) _ differ)))

none_ranked : (x : IdBytes) (xs : List Entry) (rs : List ℕ) → list_any (λ (y : Entry). text_eq x y.id) xs ≡ false
    → list_any (λ (y : Entry). text_eq x y.id) (with_ranks xs rs) ≡ false
none_ranked x [] rs differ = refl
none_ranked x (y ∷ ys) [] differ = refl
none_ranked x (y ∷ ys) (r ∷ rs) differ =
    or_none (text_eq x y.id) _ (or_first (text_eq x y.id) _ differ) (none_ranked x ys rs (or_second (text_eq x y.id) _ differ))

stand_ranked : (s : State) (xs : List Entry) (rs : List ℕ) → Stand s xs → Stand (record s { prank = ranked_places xs rs s.prank }) (with_ranks xs rs)
stand_ranked s [] rs stand = tt
stand_ranked s (x ∷ xs) [] stand = tt
stand_ranked s (x ∷ xs) (r ∷ rs) stand = (
  stand.0,
  ranked_other x.id xs rs (set s.prank x.id (Some r)) stand.2 ∙ get-set_same id_order s.prank x.id (Some r),
  none_ranked x.id xs rs stand.2,
  stand_ranked (record s { prank = set s.prank x.id (Some r) }) xs rs (ranks_still s x.id (Some r) xs stand.2 stand.3),
)

-- ---- an element after the last
none_more : (x : IdBytes) (xs : List Entry) (y : Entry) → list_any (λ (z : Entry). text_eq x z.id) xs ≡ false → text_eq x y.id ≡ false
    → list_any (λ (z : Entry). text_eq x z.id) (xs ++ (y ∷ [])) ≡ false
none_more x [] y none other = or_none (text_eq x y.id) false other refl
none_more x (z ∷ zs) y none other = or_none (text_eq x z.id) _ (or_first (text_eq x z.id) _ none) (none_more x zs y (or_second (text_eq x z.id) _ none) other)

stand_last : (s : State) (xs : List Entry) (y : Entry) → is_live s y.id ≡ true → get s.prank y.id ≡ Some y.rank
    → list_any (λ (z : Entry). text_eq y.id z.id) xs ≡ false → Stand s xs → Stand s (xs ++ (y ∷ []))
stand_last s [] y live rank none stand = (live, rank, refl, tt)
stand_last s (x ∷ xs) y live rank none stand = (
  stand.0,
  stand.1,
  none_more x.id xs y stand.2 (apart text_eq text_equality y.id x.id (or_first (text_eq y.id x.id) _ none)),
  stand_last s xs y live rank (or_second (text_eq y.id x.id) _ none) stand.3,
)

-- ---- a new element is created
pub record Arrives (meta : Meta) (s : State) (ss : List Step) (s' : State) (xs : List Entry) : Type 0 where
  pub run : fold meta s ss ≡ Some s'
  pub good : Good meta s'
  pub stand : Stand s' xs

module _ (meta : Meta) (sound : Sound meta) (s : State) (good : Good meta s) (xs : List Entry) (stand : Stand s xs) (e : IdBytes) (c : ℕ)
    (dead : is_live s e ≡ false) (concrete : is_concrete meta c ≡ true) where
  root_arrives : (k : ℕ) → news.has_room xs Root ≡ true
      → Arrives meta s (news.element_made xs Root e c k) (with_new s e c Root (ranks_after xs Root e k s.prank)) (news.roots_after xs Root e)
  root_arrives k room =
      let spot = end_spot xs in
      let rank = unwrap_or spot.rank 0 in
      let is : spot.rank ≡ Some rank = some_of spot.rank room in
      let first = rerank_leads meta sound xs spot.ranks s good stand in
      let n : State = record s { prank = ranked_places xs spot.ranks s.prank } in
      let can : Can meta n (New e c Root rank) = pass (tests meta n (New e c Root rank)) (not_false _ dead, (refl, (concrete, (refl, (refl, tt))))) in
      let before = stand_ranked s xs spot.ranks stand in
      let here = stands_still n e c Root (Some rank) dead (with_ranks xs spot.ranks) before in
      let last = stand_last (with_new n e c Root (set n.prank e (Some rank))) (with_ranks xs spot.ranks) (record { rank = rank; id = e })
      (ap is_some (get-set_same id_order n.kind e (Some c))) (get-set_same id_order n.prank e (Some rank))
      (none_stands n e dead (with_ranks xs spot.ranks) before) here in
      record {
        run = fold_append meta s n (rerank_places xs spot.ranks) (New e c Root rank ∷ []) first.run ∙ fold_more meta n (New e c Root rank) [] can
            ∙ ap (λ w. Some (with_new n e c Root (set n.prank e w))) (sym is);
        good = subst (λ w. Good meta (with_new n e c Root (set n.prank e w))) (sym is) (undoes meta sound n first.good (New e c Root rank) can).keeps;
        stand = subst (λ w. Stand (with_new n e c Root (set n.prank e w)) (with_ranks xs spot.ranks ++ record { rank = rank; id = e } ∷ [])) (sym is) last;
      }

  inside_arrives : (a : IdBytes) (f k : ℕ) → place_live s (Inside a f) ≡ true → may_stand meta s c (Inside a f) ≡ true → has_room meta s (Inside a f) ≡ true
      → Arrives meta s (news.element_made xs (Inside a f) e c k) (with_new s e c (Inside a f) (ranks_after xs (Inside a f) e k s.prank))
      (news.roots_after xs (Inside a f) e)
  inside_arrives a f k live typed room =
      let can : Can meta s (New e c (Inside a f) (news.rank_of k)) =
      pass (tests meta s (New e c (Inside a f) (news.rank_of k))) (not_false _ dead, (live, (concrete, (typed, (room, tt))))) in
      record {
        run = fold_more meta s (New e c (Inside a f) (news.rank_of k)) [] can;
        good = (undoes meta sound s good (New e c (Inside a f) (news.rank_of k)) can).keeps;
        stand = stands_still s e c (Inside a f) (Some (news.rank_of k)) dead xs stand;
      }

  pub arrives : (p : Place) (k : ℕ) → place_live s p ≡ true → may_stand meta s c p ≡ true → has_room meta s p ≡ true → news.has_room xs p ≡ true
      → Arrives meta s (news.element_made xs p e c k) (with_new s e c p (ranks_after xs p e k s.prank)) (news.roots_after xs p e)
  arrives Root k live typed room end = root_arrives k end
  arrives (Inside a f) k live typed room end = inside_arrives a f k live typed room
