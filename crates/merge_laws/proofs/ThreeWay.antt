-- What is kept of two sides meets in one model, which is the three-way merge of what each leads to.
use Rattle.std.proofs.Common.{◌≡◌, inl, inr, ℕ, zero, suc, cond, nat_eq, map, length, Bool, true, false, List, [], ◌∷◌, ◌++◌, refl, ap, subst, ◌∙◌, ◌&&◌, ◌||◌}
use Rattle.std.specs.List.{list_all}
use Rattle.std.specs.Prelude.{Some, slice_get}
use Rattle.finite_maps.proofs.Cases.{not_so, true_false}
use Rattle.finite_maps.proofs.EqualLaws.{and_first, and_second, nat_equality}
use Rattle.ecore_meta.specs.Meta.{Meta}
use Rattle.model_state.specs.State.{State}
use Rattle.model_state.specs.Good.{Good, Sound}
use Rattle.model_state.specs.declared.operation.Operation.{Operation}
use Rattle.model_laws.specs.Cells.{Cell, has, Agree}
use Rattle.model_laws.proofs.Exchange.{or_cases}
use Rattle.footprint.specs.Same.{IsCell}
use Rattle.footprint.specs.Interference.{interferes, package_writes}
use Rattle.footprint.specs.Buckets.{buckets}
use Rattle.footprint.specs.declared.bucket.Bucket.{Bucket}
use Rattle.footprint.proofs.Alike.{package_leaves_others}
use Rattle.footprint.proofs.Pairs.{packages_apart}
use Rattle.footprint.proofs.Runs.{Leads, one_end, cut, packages_keep, packages_side_by_side}
use Rattle.merge_laws.specs.Grouping.{is_in, shares, in_theirs, in_mine, AreSeparate}
use Rattle.merge_laws.specs.declared.side.Side.{Side}
use Rattle.merge_laws.specs.declared.side.Side.TheVariants.{Mine, Theirs}
use Rattle.merge_laws.specs.Choices.{is_choice, side_of}
use Rattle.merge_laws.specs.Merge.{drops_theirs, drops_mine, dropped}
use Rattle.merge_laws.specs.ThreeWay.{TakesAt, IsThreeWay, TwoSides, Meets, CellByCell, AsChosen, IsMerge, LosesNothing, IsOfEither}
use Rattle.merge_laws.specs.ThreeWay.{kept_theirs, kept_mine, dropped_theirs, dropped_mine}
use Rattle.merge_laws.specs.ThreeWayLaws.{Apart, ChoicesPart, KeptSidesMeet, MergedCellByCell, MergedIsThreeWay, MergedWithoutConflict, MergedAsChosen}
use Rattle.merge_laws.specs.ThreeWayLaws.{MergedIsOfEither}
use Rattle.merge_laws.specs.ThreeWayLaws.{OnlyLettersDrop, KeptSidesLead}
use Rattle.merge_laws.proofs.Rows.{buckets_are_parts}
use Rattle.merge_laws.proofs.States.{agree_turn, agree_join, by_cells, takes_on, AgreesEither, of_takes, either_by_cells, none_dropped, no_change_is_lost}
use Rattle.merge_laws.proofs.States.{no_element_is_lost}
use Rattle.merge_laws.proofs.Separate.{buckets_are_separate}
use Rattle.merge_laws.proofs.Gather.{gather, dropped_dropped}
use Rattle.merge_laws.proofs.Choices.{theirs_apart, mine_apart, kept_apart}

-- ---- what is dropped of both sides
behind : (a c : Bool) → c ≡ true → a || c ≡ true
behind true c h = refl
behind false c h = h

shares_theirs : (bs : List Bucket) (i k : ℕ) → shares bs i k ≡ true → in_theirs i bs ≡ true
shares_theirs [] i k h = h
shares_theirs (b ∷ bs) i k h = or_cases (is_in i b.theirs && is_in k b.mine) (shares bs i k) h
    (λ here. ap (λ t. t || in_theirs i bs) (and_first (is_in i b.theirs) (is_in k b.mine) here))
    (λ later. behind (is_in i b.theirs) (in_theirs i bs) (shares_theirs bs i k later))

shares_mine : (bs : List Bucket) (i k : ℕ) → shares bs i k ≡ true → in_mine k bs ≡ true
shares_mine [] i k h = h
shares_mine (b ∷ bs) i k h = or_cases (is_in i b.theirs && is_in k b.mine) (shares bs i k) h
    (λ here. ap (λ t. t || in_mine k bs) (and_second (is_in i b.theirs) (is_in k b.mine) here))
    (λ later. behind (is_in k b.mine) (in_mine k bs) (shares_mine bs i k later))

dropped_in_theirs : (bs : List Bucket) (sides : List Side) (i : ℕ) → drops_theirs bs sides i ≡ true → in_theirs i bs ≡ true
dropped_in_theirs [] sides i h = h
dropped_in_theirs (b ∷ bs) [] i h = cc
dropped_in_theirs (b ∷ bs) (Mine ∷ sides) i h = or_cases (is_in i b.theirs) (drops_theirs bs sides i) h
    (λ here. ap (λ t. t || in_theirs i bs) here)
    (λ later. behind (is_in i b.theirs) (in_theirs i bs) (dropped_in_theirs bs sides i later))
dropped_in_theirs (b ∷ bs) (Theirs ∷ sides) i h = behind (is_in i b.theirs) (in_theirs i bs) (dropped_in_theirs bs sides i h)

dropped_in_mine : (bs : List Bucket) (sides : List Side) (k : ℕ) → drops_mine bs sides k ≡ true → in_mine k bs ≡ true
dropped_in_mine [] sides k h = h
dropped_in_mine (b ∷ bs) [] k h = cc
dropped_in_mine (b ∷ bs) (Theirs ∷ sides) k h = or_cases (is_in k b.mine) (drops_mine bs sides k) h
    (λ here. ap (λ t. t || in_mine k bs) here)
    (λ later. behind (is_in k b.mine) (in_mine k bs) (dropped_in_mine bs sides k later))
dropped_in_mine (b ∷ bs) (Mine ∷ sides) k h = behind (is_in k b.mine) (in_mine k bs) (dropped_in_mine bs sides k h)

-- of a pair in one bucket, one is kept
one_kept : (bs : List Bucket) (sides : List Side) (i k : ℕ) → AreSeparate bs → shares bs i k ≡ true → drops_theirs bs sides i ≡ true
    → drops_mine bs sides k ≡ true → ⊥
one_kept [] sides i k apart both h g = true_false false both refl
one_kept (b ∷ bs) [] i k apart both h g = true_false false h refl
one_kept (b ∷ bs) (Mine ∷ sides) i k apart both h g =
    or_cases (is_in i b.theirs && is_in k b.mine) (shares bs i k) both
    (λ here. true_false (in_mine k bs) (dropped_in_mine bs sides k g) (apart.1 k (and_second (is_in i b.theirs) (is_in k b.mine) here)))
    (λ later. or_cases (is_in i b.theirs) (drops_theirs bs sides i) h
    (λ first. true_false (in_theirs i bs) (shares_theirs bs i k later) (apart.0 i first))
    (λ rest. one_kept bs sides i k apart.2 later rest g))
one_kept (b ∷ bs) (Theirs ∷ sides) i k apart both h g =
    or_cases (is_in i b.theirs && is_in k b.mine) (shares bs i k) both
    (λ here. true_false (in_theirs i bs) (dropped_in_theirs bs sides i h) (apart.0 i (and_first (is_in i b.theirs) (is_in k b.mine) here)))
    (λ later. or_cases (is_in k b.mine) (drops_mine bs sides k) g
    (λ first. true_false (in_mine k bs) (shares_mine bs i k later) (apart.1 k first))
    (λ rest. one_kept bs sides i k apart.2 later h rest))

pub choices_part : ChoicesPart
choices_part meta theirs mine sides fit =
    let bs = buckets meta theirs mine in
    let parts = buckets_are_parts meta theirs mine in
    record {
      kept_sides = kept_apart meta theirs mine bs parts sides fit;
      of_theirs = theirs_apart meta theirs mine bs parts sides fit;
      of_mine = mine_apart meta theirs mine bs parts sides fit;
      dropped_sides = dropped_dropped meta (drops_theirs bs sides) (drops_mine bs sides) theirs mine (λ i k a b at there h g.
          not_so (interferes meta a b) (λ meet. one_kept bs sides i k (buckets_are_separate meta theirs mine) (parts.across i k a b at there meet) h g));
    }

-- ---- the runs
-- what is kept of a side, and then what is dropped of it
module _ (meta : Meta) (sound : Sound meta) (base end : State) (good : Good meta base) (theirs mine : List Operation) (sides : List Side)
    (fit : length sides ≡ length (buckets meta theirs mine)) where
  theirs_cut : Leads meta base theirs end
      → (k : State) × Leads meta base (kept_theirs meta theirs mine sides) k × Leads meta k (dropped_theirs meta theirs mine sides) end
  theirs_cut h = cut meta base end (kept_theirs meta theirs mine sides) (dropped_theirs meta theirs mine sides)
      (gather meta sound (drops_theirs (buckets meta theirs mine) sides) theirs base end good (choices_part meta theirs mine sides fit).of_theirs h)

  mine_cut : Leads meta base mine end
      → (k : State) × Leads meta base (kept_mine meta theirs mine sides) k × Leads meta k (dropped_mine meta theirs mine sides) end
  mine_cut h = cut meta base end (kept_mine meta theirs mine sides) (dropped_mine meta theirs mine sides)
      (gather meta sound (drops_mine (buckets meta theirs mine) sides) mine base end good (choices_part meta theirs mine sides fit).of_mine h)

pub kept_sides_lead : KeptSidesLead
kept_sides_lead meta sound base end good theirs mine sides fit =
    (theirs_cut meta sound base end good theirs mine sides fit, mine_cut meta sound base end good theirs mine sides fit)

module _ (meta : Meta) (base head work : State) (theirs mine : List Operation) (sides : List Side) (two : TwoSides meta base head work theirs mine sides) where
  abbrev kt : List Operation
  kt = kept_theirs meta theirs mine sides

  abbrev dt : List Operation
  dt = dropped_theirs meta theirs mine sides

  abbrev km : List Operation
  km = kept_mine meta theirs mine sides

  abbrev dm : List Operation
  dm = dropped_mine meta theirs mine sides

  parted : Apart meta theirs mine sides
  parted = choices_part meta theirs mine sides two.fit

  pub kept_meet : (by_theirs by_mine merged : State) × Meets meta base head work theirs mine sides by_theirs by_mine merged × Good meta merged
  kept_meet =
      let t = theirs_cut meta two.sound base head two.good theirs mine sides two.fit two.theirs_lead in
      let m = mine_cut meta two.sound base work two.good theirs mine sides two.fit two.mine_lead in
      let s = packages_side_by_side meta two.sound kt km base t.0 m.0 two.good parted.kept_sides t.1 m.1 in (
        t.0,
        m.0,
        s.0,
        record { theirs_kept = t.1; theirs_dropped = t.2; mine_kept = m.1; mine_dropped = m.2; theirs_first = s.1; mine_first = s.2 },
        packages_keep meta two.sound base s.0 two.good (kt ++ km) s.1,
      )

  -- ---- the cells
  module _ (by_theirs by_mine merged : State) (meets : Meets meta base head work theirs mine sides by_theirs by_mine merged) where
    -- from what is kept of a side, what is kept of the other leads to the merged model
    theirs_on : Leads meta by_theirs km merged
    theirs_on =
        let c = cut meta base merged kt km meets.theirs_first in
        subst (λ k. Leads meta k km merged) (one_end meta base kt c.0 by_theirs c.1 meets.theirs_kept) c.2

    mine_on : Leads meta by_mine kt merged
    mine_on =
        let c = cut meta base merged km kt meets.mine_first in
        subst (λ k. Leads meta k kt merged) (one_end meta base km c.0 by_mine c.1 meets.mine_kept) c.2

    good_theirs : Good meta by_theirs
    good_theirs = packages_keep meta two.sound base by_theirs two.good kt meets.theirs_kept

    good_mine : Good meta by_mine
    good_mine = packages_keep meta two.sound base by_mine two.good km meets.mine_kept

    -- where a side that is kept does not write
    no_theirs : (c : Cell) → IsCell c → has (package_writes meta kt) c ≡ false → Agree meta base by_theirs c × Agree meta by_mine merged c
    no_theirs c is out = (
      package_leaves_others meta two.sound base by_theirs two.good kt meets.theirs_kept c is out,
      package_leaves_others meta two.sound by_mine merged good_mine kt mine_on c is out,
    )

    no_mine : (c : Cell) → IsCell c → has (package_writes meta km) c ≡ false → Agree meta base by_mine c × Agree meta by_theirs merged c
    no_mine c is out = (
      package_leaves_others meta two.sound base by_mine two.good km meets.mine_kept c is out,
      package_leaves_others meta two.sound by_theirs merged good_theirs km theirs_on c is out,
    )

    kept_by_one : (c : Cell) → has (package_writes meta kt) c ≡ true → has (package_writes meta km) c ≡ false
    kept_by_one = (packages_apart meta kt km parted.kept_sides).written

    either : (c : Cell) → IsCell c → TakesAt meta base by_theirs by_mine merged c
    either c is = elim (has (package_writes meta kt) c) as (λ b. has (package_writes meta kt) c ≡ b → TakesAt meta base by_theirs by_mine merged c) [
      | false ↦ λ out. inl (no_theirs c is out)
      | true ↦ λ wrote. inr (no_mine c is (kept_by_one c wrote))
    ] refl

    pub cell_by_cell : CellByCell meta base kt km by_theirs by_mine merged
    cell_by_cell = record {
      by_one = kept_by_one;
      theirs_write = λ c is wrote. (no_mine c is (kept_by_one c wrote)).1;
      mine_write = λ c is wrote. (no_theirs c is (not_so (has (package_writes meta kt) c) (λ w. true_false _ wrote (kept_by_one c w)))).1;
      neither = λ c is first second. agree_join meta base by_theirs merged c (no_theirs c is first).0 (no_mine c is second).1;
    }

    pub is_three_way : IsThreeWay base by_theirs by_mine merged
    is_three_way = by_cells meta base by_theirs by_mine merged either

    -- ---- what is dropped
    -- the head has what is kept of theirs where what is dropped of them does not write, and so has the working model of mine
    head_has : (c : Cell) → IsCell c → has (package_writes meta dt) c ≡ false → Agree meta by_theirs head c
    head_has c is out = package_leaves_others meta two.sound by_theirs head good_theirs dt meets.theirs_dropped c is out

    work_has : (c : Cell) → IsCell c → has (package_writes meta dm) c ≡ false → Agree meta by_mine work c
    work_has c is out = package_leaves_others meta two.sound by_mine work good_mine dm meets.mine_dropped c is out

    dropped_by_one : (c : Cell) → has (package_writes meta dt) c ≡ true → has (package_writes meta dm) c ≡ false
    dropped_by_one = (packages_apart meta dt dm parted.dropped_sides).written

    pub as_chosen : AsChosen meta base head work merged theirs mine sides
    as_chosen = record {
      theirs_stay = λ c is wrote. agree_join meta head by_theirs merged c
          (agree_turn meta by_theirs head c (head_has c is ((packages_apart meta kt dt parted.of_theirs).written c wrote)))
          (no_mine c is (kept_by_one c wrote)).1;
      mine_stay = λ c is wrote. agree_join meta work by_mine merged c
          (agree_turn meta by_mine work c (work_has c is ((packages_apart meta km dm parted.of_mine).written c wrote)))
          (no_theirs c is (not_so (has (package_writes meta kt) c) (λ w. true_false _ wrote (kept_by_one c w)))).1;
      by_one = dropped_by_one;
      theirs_chosen = λ c is wrote.
          let no_km = not_so (has (package_writes meta km) c) (λ w. true_false _ wrote ((packages_apart meta km dm parted.of_mine).written c w)) in
          let no_dt = not_so (has (package_writes meta dt) c) (λ w. true_false _ wrote (dropped_by_one c w)) in
          agree_join meta head by_theirs merged c (agree_turn meta by_theirs head c (head_has c is no_dt)) (no_mine c is no_km).1;
      mine_chosen = λ c is wrote.
          let no_kt = not_so (has (package_writes meta kt) c) (λ w. true_false _ wrote ((packages_apart meta kt dt parted.of_theirs).written c w)) in
          agree_join meta work by_mine merged c (agree_turn meta by_mine work c (work_has c is (dropped_by_one c wrote))) (no_theirs c is no_kt).1;
      neither = λ c is no_dt no_dm.
          takes_on meta base by_theirs by_mine head work merged c (head_has c is no_dt) (work_has c is no_dm) (either c is);
    }

    pub is_of_either : IsOfEither head work merged
    is_of_either = either_by_cells meta head work merged (λ c is.
        elim (has (package_writes meta dm) c) as (λ b. has (package_writes meta dm) c ≡ b → AgreesEither meta head work merged c) [
          | true ↦ λ wrote. inl (as_chosen.theirs_chosen c is wrote)
          | false ↦ λ no_dm. elim (has (package_writes meta dt) c) as (λ b. has (package_writes meta dt) c ≡ b → AgreesEither meta head work merged c) [
            | true ↦ λ wrote. inr (as_chosen.mine_chosen c is wrote)
            | false ↦ λ no_dt. of_takes meta base head work merged c (as_chosen.neither c is no_dt no_dm)
          ] refl
        ] refl)

    pub without_conflict : buckets meta theirs mine ≡ [] → IsThreeWay base head work merged
    without_conflict none =
        let t : by_theirs ≡ head = stays by_theirs head dt
        (ap (λ bs. dropped (drops_theirs bs sides) theirs) none ∙ none_dropped (drops_theirs [] sides) theirs (λ i. refl)) meets.theirs_dropped in
        let m : by_mine ≡ work = stays by_mine work dm
        (ap (λ bs. dropped (drops_mine bs sides) mine) none ∙ none_dropped (drops_mine [] sides) mine (λ i. refl)) meets.mine_dropped in
        subst (λ h. IsThreeWay base h work merged) t (subst (λ w. IsThreeWay base by_theirs w merged) m is_three_way)
      where
        stays : (m n : State) (p : List Operation) → p ≡ [] → Leads meta m p n → m ≡ n
        stays m n p e h = one_end meta m [] m n refl (subst (λ q. Leads meta m q n) e h)

-- the merged model of an update or a merge
pub is_merge : (meta : Meta) (base head work merged : State) (theirs mine : List Operation) (sides : List Side)
    → TwoSides meta base head work theirs mine sides
    → Leads meta base (kept_theirs meta theirs mine sides ++ kept_mine meta theirs mine sides) merged
    → IsMerge meta base head work merged theirs mine sides
is_merge meta base head work merged theirs mine sides two h =
    let k = kept_meet meta base head work theirs mine sides two in
    let same = one_end meta base (kept_theirs meta theirs mine sides ++ kept_mine meta theirs mine sides) k.2 merged k.3.theirs_first h in
    let meets = subst (λ m. Meets meta base head work theirs mine sides k.0 k.1 m) same k.3 in
    record {
      by_theirs = k.0;
      by_mine = k.1;
      meets = meets;
      good = subst (λ m. Good meta m) same k.4;
      cells = cell_by_cell meta base head work theirs mine sides two k.0 k.1 merged meets;
      states = is_three_way meta base head work theirs mine sides two k.0 k.1 merged meets;
      unconflicted = without_conflict meta base head work theirs mine sides two k.0 k.1 merged meets;
      chosen = as_chosen meta base head work theirs mine sides two k.0 k.1 merged meets;
      of_either = is_of_either meta base head work theirs mine sides two k.0 k.1 merged meets;
    }

-- a three-way merge of two sides that both lead on from a good base loses nothing
pub loses_nothing : (meta : Meta) (base head work merged : State) (theirs mine : List Operation) (sides : List Side)
    → TwoSides meta base head work theirs mine sides → IsThreeWay base head work merged → LosesNothing base head work merged
loses_nothing meta base head work merged theirs mine sides two h = record {
  changes = no_change_is_lost base head work merged h;
  elements = no_element_is_lost meta base head work merged two.good (packages_keep meta two.sound base head two.good theirs two.theirs_lead)
      (packages_keep meta two.sound base work two.good mine two.mine_lead) h;
}

pub kept_sides_meet : KeptSidesMeet
kept_sides_meet meta base head work theirs mine sides two = kept_meet meta base head work theirs mine sides two

pub merged_cell_by_cell : MergedCellByCell
merged_cell_by_cell meta base head work theirs mine sides two by_theirs by_mine merged meets =
    cell_by_cell meta base head work theirs mine sides two by_theirs by_mine merged meets

pub merged_is_three_way : MergedIsThreeWay
merged_is_three_way meta base head work theirs mine sides two by_theirs by_mine merged meets =
    is_three_way meta base head work theirs mine sides two by_theirs by_mine merged meets

pub merged_without_conflict : MergedWithoutConflict
merged_without_conflict meta base head work theirs mine sides two by_theirs by_mine merged meets none =
    without_conflict meta base head work theirs mine sides two by_theirs by_mine merged meets none

pub merged_as_chosen : MergedAsChosen
merged_as_chosen meta base head work theirs mine sides two by_theirs by_mine merged meets =
    as_chosen meta base head work theirs mine sides two by_theirs by_mine merged meets

pub merged_is_of_either : MergedIsOfEither
merged_is_of_either meta base head work theirs mine sides two by_theirs by_mine merged meets =
    is_of_either meta base head work theirs mine sides two by_theirs by_mine merged meets

-- ---- what is dropped was chosen so
theirs_chosen_so : (bs : List Bucket) (sides : List Side) (i : ℕ) → drops_theirs bs sides i ≡ true
    → (j : ℕ) × (b : Bucket) × (slice_get bs j ≡ Some b) × (slice_get sides j ≡ Some Mine) × (is_in i b.theirs ≡ true)
theirs_chosen_so [] sides i h = cc
theirs_chosen_so (b ∷ bs) [] i h = cc
theirs_chosen_so (b ∷ bs) (Mine ∷ sides) i h = or_cases (is_in i b.theirs) (drops_theirs bs sides i) h
    (λ here. (0, b, refl, refl, here))
    (λ later. let r = theirs_chosen_so bs sides i later in (suc r.0, r.1, r.2, r.3, r.4))
theirs_chosen_so (b ∷ bs) (Theirs ∷ sides) i h = let r = theirs_chosen_so bs sides i h in (suc r.0, r.1, r.2, r.3, r.4)

mine_chosen_so : (bs : List Bucket) (sides : List Side) (k : ℕ) → drops_mine bs sides k ≡ true
    → (j : ℕ) × (b : Bucket) × (slice_get bs j ≡ Some b) × (slice_get sides j ≡ Some Theirs) × (is_in k b.mine ≡ true)
mine_chosen_so [] sides k h = cc
mine_chosen_so (b ∷ bs) [] k h = cc
mine_chosen_so (b ∷ bs) (Theirs ∷ sides) k h = or_cases (is_in k b.mine) (drops_mine bs sides k) h
    (λ here. (0, b, refl, refl, here))
    (λ later. let r = mine_chosen_so bs sides k later in (suc r.0, r.1, r.2, r.3, r.4))
mine_chosen_so (b ∷ bs) (Mine ∷ sides) k h = let r = mine_chosen_so bs sides k h in (suc r.0, r.1, r.2, r.3, r.4)

-- the letters of the choices
letter_at : (letters : List ℕ) (j : ℕ) (side : Side) → slice_get (map side_of letters) j ≡ Some side
    → (l : ℕ) × (slice_get letters j ≡ Some l) × (side_of l ≡ side)
letter_at [] j side h = cc
letter_at (l ∷ letters) zero side h = (l, refl, same h)
  where
    same : Some (side_of l) ≡ Some side → side_of l ≡ side
    same e = cc
letter_at (l ∷ letters) (suc j) side h = letter_at letters j side h

choice_at : (letters : List ℕ) (j l : ℕ) → list_all is_choice letters ≡ true → slice_get letters j ≡ Some l → is_choice l ≡ true
choice_at [] j l all h = cc
choice_at (x ∷ letters) zero l all h = subst (λ y. is_choice y ≡ true) (same h) (and_first (is_choice x) (list_all is_choice letters) all)
  where
    same : Some x ≡ Some l → x ≡ l
    same e = cc
choice_at (x ∷ letters) (suc j) l all h = choice_at letters j l (and_second (is_choice x) (list_all is_choice letters) all) h

m_for_mine : (l : ℕ) → side_of l ≡ Mine → l ≡ 109
m_for_mine l h = elim (nat_eq l 109) as (λ t. nat_eq l 109 ≡ t → cond t Mine Theirs ≡ Mine → l ≡ 109) [
  | true ↦ λ is g. nat_equality.exact l 109 is
  | false ↦ λ is g. cc
] refl h

t_for_theirs : (l : ℕ) → is_choice l ≡ true → side_of l ≡ Theirs → l ≡ 116
t_for_theirs l is h = elim (nat_eq l 109) as (λ t. t || nat_eq l 116 ≡ true → cond t Mine Theirs ≡ Theirs → l ≡ 116) [
  | true ↦ λ _ g. cc
  | false ↦ λ one g. nat_equality.exact l 116 one
] is h

pub only_letters_drop : OnlyLettersDrop
only_letters_drop bs letters i fit = (
  λ h. let r = theirs_chosen_so bs (map side_of letters) i h in
      let l = letter_at letters r.0 Mine r.3 in
      (r.0, r.1, r.2, subst (λ x. slice_get letters r.0 ≡ Some x) (m_for_mine l.0 l.2) l.1, r.4),
  λ h. let r = mine_chosen_so bs (map side_of letters) i h in
      let l = letter_at letters r.0 Theirs r.3 in
      let choice = choice_at letters r.0 l.0 (and_second (nat_eq (length letters) (length bs)) (list_all is_choice letters) fit) l.1 in
      (r.0, r.1, r.2, subst (λ x. slice_get letters r.0 ≡ Some x) (t_for_theirs l.0 choice l.2) l.1, r.4),
)
