-- Which operations letters keep and drop.
use Rattle.std.proofs.Common.{◌≡◌, ℕ, zero, suc, nat_eq, Bool, true, false, cond, List, [], ◌∷◌, map, Some, refl}
use Rattle.std.proofs.Common.{ap, subst, inl, inr}
use Rattle.std.specs.Prelude.{◌↔◌, Contains, slice_get}
use Rattle.std.specs.List.{list_all}
use Rattle.std.proofs.lemmas.Bool.{eqb-true, or_left, or_right}
use Rattle.finite_maps.proofs.EqualLaws.{and_first, and_second}
use Rattle.finite_maps.proofs.Cases.{true_false}
use Rattle.model_laws.proofs.Exchange.{or_cases}
use Rattle.model_state.specs.declared.operation.Operation.{Operation}
use Rattle.history_tree.proofs.Greatest.{among_of, of_among}
use Rattle.footprint.specs.declared.bucket.Bucket.{Bucket}
use Rattle.merge_laws.specs.declared.side.Side.TheVariants.{Mine, Theirs}
use Rattle.merge_laws.specs.Choices.{is_choice, side_of}
use Rattle.merge_laws.specs.Grouping.{is_in}
use Rattle.merge_laws.specs.Merge.{drops_theirs, drops_mine, dropped, kept}
use Rattle.merge_laws.specs.ChoiceLaws.{LettersAreSides, IsInBucketOf, IsDroppedOfTheirs, IsDroppedOfMine, TheirsGoByLetters, MineGoByLetters, ArePicked}
use Rattle.merge_laws.specs.ChoiceLaws.{UpdatesGoByLetters, MergesGoByLetters}

pub letters_are_sides : LettersAreSides
letters_are_sides = refl

-- a bucket that stands one further on
later : {letter : List ℕ} {side : Bucket → List ℕ} {rows : List Bucket} {letters : List ℕ} {i : ℕ} (row : Bucket) (l : ℕ)
    → IsInBucketOf letter side rows letters i → IsInBucketOf letter side (row ∷ rows) (l ∷ letters) i
later row l r = record { place = suc r.place; row = r.row; there = r.there; has = r.has; letter_is = r.letter_is }

-- ---- theirs
theirs_from : (rows : List Bucket) (letters : List ℕ) (i : ℕ) → drops_theirs rows (map side_of letters) i ≡ true → IsDroppedOfTheirs rows letters i
theirs_from [] letters i is = absurd cc
theirs_from (b ∷ bs) [] i is = absurd cc
theirs_from (b ∷ bs) (l ∷ ls) i is = by (nat_eq l 109) refl (λ more. later b l (theirs_from bs ls i more)) is
  where
    by : (t : Bool) → nat_eq l 109 ≡ t → (drops_theirs bs (map side_of ls) i ≡ true → IsDroppedOfTheirs (b ∷ bs) (l ∷ ls) i)
        → drops_theirs (b ∷ bs) (cond t Mine Theirs ∷ map side_of ls) i ≡ true → IsDroppedOfTheirs (b ∷ bs) (l ∷ ls) i
    by true letter further is = or_cases (is_in i b.theirs) (drops_theirs bs (map side_of ls) i) is
        (λ here. record { place = 0; row = b; there = refl; has = of_among b.theirs i here; letter_is = ap Some (eqb-true l 109 letter) }) further
    by false letter further is = further is

theirs_to : (rows : List Bucket) (letters : List ℕ) (i place : ℕ) (row : Bucket) → slice_get rows place ≡ Some row → Contains row.theirs i
    → slice_get letters place ≡ Some 109 → drops_theirs rows (map side_of letters) i ≡ true
theirs_to [] letters i place row there has letter = absurd cc
theirs_to (b ∷ bs) [] i place row there has letter = absurd cc
theirs_to (b ∷ bs) (l ∷ ls) i zero row there has letter =
    let is_row : row ≡ b = cc in
    let is_m : 109 ≡ l = cc in
    subst (λ (x : ℕ). drops_theirs (b ∷ bs) (map side_of (x ∷ ls)) i ≡ true) is_m
    (or_left (is_in i b.theirs) (drops_theirs bs (map side_of ls) i) (among_of b.theirs i (subst (λ (x : Bucket). Contains x.theirs i) is_row has)))
theirs_to (b ∷ bs) (l ∷ ls) i (suc place) row there has letter = by (nat_eq l 109) (theirs_to bs ls i place row there has letter)
  where
    by : (t : Bool) → drops_theirs bs (map side_of ls) i ≡ true → drops_theirs (b ∷ bs) (cond t Mine Theirs ∷ map side_of ls) i ≡ true
    by true further = or_right (is_in i b.theirs) (drops_theirs bs (map side_of ls) i) further
    by false further = further

pub theirs_go_by_letters : TheirsGoByLetters
theirs_go_by_letters rows letters fit i = (theirs_from rows letters i, λ r. theirs_to rows letters i r.place r.row r.there r.has r.letter_is)

-- ---- mine
other_letter : (l : ℕ) → is_choice l ≡ true → nat_eq l 109 ≡ false → l ≡ 116
other_letter l is not_m = or_cases (nat_eq l 109) (nat_eq l 116) is (λ is_m. absurd (true_false _ is_m not_m)) (λ is_t. eqb-true l 116 is_t)

mine_from : (rows : List Bucket) (letters : List ℕ) → list_all is_choice letters ≡ true → (k : ℕ) → drops_mine rows (map side_of letters) k ≡ true
    → IsDroppedOfMine rows letters k
mine_from [] letters all k is = absurd cc
mine_from (b ∷ bs) [] all k is = absurd cc
mine_from (b ∷ bs) (l ∷ ls) all k is =
    by (nat_eq l 109) refl (λ more. later b l (mine_from bs ls (and_second (is_choice l) (list_all is_choice ls) all) k more)) is
  where
    by : (t : Bool) → nat_eq l 109 ≡ t → (drops_mine bs (map side_of ls) k ≡ true → IsDroppedOfMine (b ∷ bs) (l ∷ ls) k)
        → drops_mine (b ∷ bs) (cond t Mine Theirs ∷ map side_of ls) k ≡ true → IsDroppedOfMine (b ∷ bs) (l ∷ ls) k
    by true letter further is = further is
    by false letter further is = or_cases (is_in k b.mine) (drops_mine bs (map side_of ls) k) is
        (λ here. record {
          place = 0;
          row = b;
          there = refl;
          has = of_among b.mine k here;
          letter_is = ap Some (other_letter l (and_first (is_choice l) (list_all is_choice ls) all) letter);
        }) further

mine_to : (rows : List Bucket) (letters : List ℕ) (k place : ℕ) (row : Bucket) → slice_get rows place ≡ Some row → Contains row.mine k
    → slice_get letters place ≡ Some 116 → drops_mine rows (map side_of letters) k ≡ true
mine_to [] letters k place row there has letter = absurd cc
mine_to (b ∷ bs) [] k place row there has letter = absurd cc
mine_to (b ∷ bs) (l ∷ ls) k zero row there has letter =
    let is_row : row ≡ b = cc in
    let is_t : 116 ≡ l = cc in
    subst (λ (x : ℕ). drops_mine (b ∷ bs) (map side_of (x ∷ ls)) k ≡ true) is_t
    (or_left (is_in k b.mine) (drops_mine bs (map side_of ls) k) (among_of b.mine k (subst (λ (x : Bucket). Contains x.mine k) is_row has)))
mine_to (b ∷ bs) (l ∷ ls) k (suc place) row there has letter = by (nat_eq l 109) (mine_to bs ls k place row there has letter)
  where
    by : (t : Bool) → drops_mine bs (map side_of ls) k ≡ true → drops_mine (b ∷ bs) (cond t Mine Theirs ∷ map side_of ls) k ≡ true
    by true further = further
    by false further = or_right (is_in k b.mine) (drops_mine bs (map side_of ls) k) further

pub mine_go_by_letters : MineGoByLetters
mine_go_by_letters rows letters fit k =
    (mine_from rows letters (and_second _ (list_all is_choice letters) fit) k, λ r. mine_to rows letters k r.place r.row r.there r.has r.letter_is)

-- ---- lists
dropped_picked : (p : ℕ → Bool) (Is : ℕ → Type 0) → ((i : ℕ) → (p i ≡ true) ↔ Is i) → (os : List Operation) → ArePicked Is os (dropped p os)
dropped_picked p Is goes [] = refl
dropped_picked p Is goes (o ∷ os) = by (p 0) refl (dropped_picked (λ i. p (suc i)) (λ i. Is (suc i)) (λ i. goes (suc i)) os)
  where
    by : (b : Bool) → p 0 ≡ b → ArePicked (λ i. Is (suc i)) os (dropped (λ i. p (suc i)) os)
        → ArePicked Is (o ∷ os) (cond b (o ∷ dropped (λ i. p (suc i)) os) (dropped (λ i. p (suc i)) os))
    by true is more = inl ((goes 0).0 is, (dropped (λ i. p (suc i)) os, refl, more))
    by false is more = inr (λ has. true_false _ ((goes 0).1 has) is, more)

kept_picked : (p : ℕ → Bool) (Is : ℕ → Type 0) → ((i : ℕ) → (p i ≡ true) ↔ Is i) → (os : List Operation) → ArePicked (λ i. Is i → ⊥) os (kept p os)
kept_picked p Is goes [] = refl
kept_picked p Is goes (o ∷ os) = by (p 0) refl (kept_picked (λ i. p (suc i)) (λ i. Is (suc i)) (λ i. goes (suc i)) os)
  where
    by : (b : Bool) → p 0 ≡ b → ArePicked (λ i. Is (suc i) → ⊥) os (kept (λ i. p (suc i)) os)
        → ArePicked (λ i. Is i → ⊥) (o ∷ os) (cond b (kept (λ i. p (suc i)) os) (o ∷ kept (λ i. p (suc i)) os))
    by true is more = inr (λ none. none ((goes 0).0 is), more)
    by false is more = inl (λ has. true_false _ ((goes 0).1 has) is, (kept (λ i. p (suc i)) os, refl, more))

pub updates_go_by_letters : UpdatesGoByLetters
updates_go_by_letters theirs mine rows letters fit = record {
  gone = dropped (drops_theirs rows (map side_of letters)) theirs;
  stay = kept (drops_mine rows (map side_of letters)) mine;
  gone_are =
      dropped_picked (drops_theirs rows (map side_of letters)) (IsDroppedOfTheirs rows letters) (theirs_go_by_letters rows letters fit) theirs;
  stay_are = kept_picked (drops_mine rows (map side_of letters)) (IsDroppedOfMine rows letters) (mine_go_by_letters rows letters fit) mine;
  list_is = refl;
}

pub merges_go_by_letters : MergesGoByLetters
merges_go_by_letters theirs mine rows letters fit = record {
  gone = dropped (drops_mine rows (map side_of letters)) mine;
  stay = kept (drops_theirs rows (map side_of letters)) theirs;
  gone_are = dropped_picked (drops_mine rows (map side_of letters)) (IsDroppedOfMine rows letters) (mine_go_by_letters rows letters fit) mine;
  stay_are =
      kept_picked (drops_theirs rows (map side_of letters)) (IsDroppedOfTheirs rows letters) (theirs_go_by_letters rows letters fit) theirs;
  list_is = refl;
}
