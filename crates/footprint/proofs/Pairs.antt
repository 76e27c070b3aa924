-- Interference by cells: symmetric, and exact.
use Rattle.std.proofs.Common.{◌≡◌, Bool, true, false, List, [], ◌∷◌, ◌++◌, refl, sym, ap, subst, ◌∙◌, ◌||◌, inl, inr}
use Rattle.std.specs.List.{list_any}
use Rattle.std.proofs.lemmas.Bool.{or_left, or_right}
use Rattle.finite_maps.specs.Equal.{text_eq}
use Rattle.finite_maps.proofs.EqualLaws.{and_first, and_second, and_both, nat_equality, text_equality}
use Rattle.ecore_meta.specs.Meta.{Meta}
use Rattle.model_state.specs.declared.step.Step.{Step}
use Rattle.model_laws.specs.Cells.{Cell, OfKind, OfPlace, OfRank, OfAttr, OfRow, OfWhole, About, cell_eq, has, step_writes, step_reads, writes_all}
use Rattle.model_laws.specs.Cells.{reads_all, AreDisjoint}
use Rattle.finite_maps.proofs.Cases.{not_so, true_false, or_first, or_second}
use Rattle.model_laws.proofs.Apart.{turned}
use Rattle.model_laws.proofs.Exchange.{has_append, or_cases}
use Rattle.model_state.specs.declared.operation.Operation.{Operation}
use Rattle.model_state.specs.Packages.{steps_of, steps_all}
use Rattle.footprint.specs.Interference.{op_writes, op_reads, meets, interferes, Free, NoPair}
use Rattle.footprint.specs.Laws.{InterferenceIsSymmetric, InterferenceIsOfCells, InterferenceIsExact, InterferenceHasACell}

-- ---- cells
pub cell_exact : (c d : Cell) → cell_eq c d ≡ true → c ≡ d
cell_exact (OfKind a) (OfKind b) h = ap OfKind (text_equality.exact a b h)
cell_exact (OfPlace a) (OfPlace b) h = ap OfPlace (text_equality.exact a b h)
cell_exact (OfRank a) (OfRank b) h = ap OfRank (text_equality.exact a b h)
cell_exact (OfAttr a f) (OfAttr b g) h =
    let p = text_equality.exact a b (and_first (text_eq a b) _ h) in
    let q = nat_equality.exact f g (and_second (text_eq a b) _ h) in
    λ i. OfAttr (p i) (q i)
cell_exact (OfRow a f x) (OfRow b g y) h =
    let front = and_first _ (text_eq x y) h in
    let p = text_equality.exact a b (and_first (text_eq a b) _ front) in
    let q = nat_equality.exact f g (and_second (text_eq a b) _ front) in
    let r = text_equality.exact x y (and_second _ (text_eq x y) h) in
    λ i. OfRow (p i) (q i) (r i)
cell_exact (OfWhole a f) (OfWhole b g) h =
    let p = text_equality.exact a b (and_first (text_eq a b) _ h) in
    let q = nat_equality.exact f g (and_second (text_eq a b) _ h) in
    λ i. OfWhole (p i) (q i)
cell_exact (About a) (About b) h = ap About (text_equality.exact a b h)
cell_exact c d h = cc

cell_own : (c : Cell) → cell_eq c c ≡ true
cell_own (OfKind a) = text_equality.own a
cell_own (OfPlace a) = text_equality.own a
cell_own (OfRank a) = text_equality.own a
cell_own (OfAttr a f) = and_both _ _ (text_equality.own a) (nat_equality.own f)
cell_own (OfRow a f x) = and_both _ _ (and_both _ _ (text_equality.own a) (nat_equality.own f)) (text_equality.own x)
cell_own (OfWhole a f) = and_both _ _ (text_equality.own a) (nat_equality.own f)
cell_own (About a) = text_equality.own a

-- ---- lists of cells that do not meet
any_out : (test : Cell → Bool) (xs : List Cell) (c : Cell) → list_any test xs ≡ false → has xs c ≡ true → test c ≡ false
any_out test [] c out h = absurd (true_false false h refl)
any_out test (x ∷ xs) c out h = or_cases (cell_eq c x) (has xs c) h
    (λ here. subst (λ y. test y ≡ false) (sym (cell_exact c x here)) (or_first (test x) (list_any test xs) out))
    (λ later. any_out test xs c (or_second (test x) (list_any test xs) out) later)

pub apart_of : (xs ys : List Cell) → meets xs ys ≡ false → (c : Cell) → has xs c ≡ true → has ys c ≡ false
apart_of xs ys out c h = any_out (has ys) xs c out h

pub or_neither : (a b : Bool) → a ≡ false → b ≡ false → a || b ≡ false
or_neither a b p q = ap (λ x. x || b) p ∙ q

none_of : (test : Cell → Bool) (xs : List Cell) → ((c : Cell) → has xs c ≡ true → test c ≡ false) → list_any test xs ≡ false
none_of test [] out = refl
none_of test (x ∷ xs) out = or_neither (test x) (list_any test xs)
    (out x (ap (λ b. b || has xs x) (cell_own x)))
    (none_of test xs (λ c h. out c (later c h)))
  where
    later : (c : Cell) → has xs c ≡ true → cell_eq c x || has xs c ≡ true
    later c h = elim (cell_eq c x) as (λ b. b || has xs c ≡ true) [ true ↦ refl | false ↦ h ]

pub meets_of : (xs ys : List Cell) → ((c : Cell) → has xs c ≡ true → has ys c ≡ false) → meets xs ys ≡ false
meets_of xs ys out = none_of (has ys) xs out

turned_false : (xs ys : List Cell) → meets xs ys ≡ false → meets ys xs ≡ false
turned_false xs ys out = meets_of ys xs (λ c there. not_so (has xs c) (λ here. true_false (has ys c) there (apart_of xs ys out c here)))

pub meets_turned : (xs ys : List Cell) → meets xs ys ≡ meets ys xs
meets_turned xs ys =
    elim (meets xs ys) as (λ b. meets xs ys ≡ b → b ≡ meets ys xs) [
      | false ↦ λ out. sym (turned_false xs ys out)
      | true ↦ λ met. elim (meets ys xs) as (λ b. meets ys xs ≡ b → true ≡ b) [
        | true ↦ λ again. refl
        | false ↦ λ out. absurd (true_false (meets xs ys) met (turned_false ys xs out))
      ] refl
    ] refl

-- lists that meet have a cell in common
any_in : (test : Cell → Bool) (xs : List Cell) → list_any test xs ≡ true → (c : Cell) × (has xs c ≡ true) × (test c ≡ true)
any_in test [] h = cc
any_in test (x ∷ xs) h = or_cases (test x) (list_any test xs) h
    (λ here. (x, ap (λ b. b || has xs x) (cell_own x), here))
    (λ later. let r = any_in test xs later in (r.0, or_right (cell_eq r.0 x) (has xs r.0) r.1, r.2))

neither : (xs ys : List Cell) (c : Cell) → has xs c ≡ false → has ys c ≡ false → has (xs ++ ys) c ≡ false
neither xs ys c p q = has_append xs ys c ∙ or_neither (has xs c) (has ys c) p q

-- ---- interference
pub keep_apart : (meta : Meta) (o p : Operation) → interferes meta o p ≡ false → AreDisjoint meta (steps_of o) (steps_of p)
unfolding interferes
keep_apart meta o p h =
    let written = or_first (meets (op_writes meta o) (op_writes meta p)) _ h in
    let rest = or_second (meets (op_writes meta o) (op_writes meta p)) (meets (op_writes meta o) (op_reads p) || meets (op_writes meta p) (op_reads o)) h in
    record {
      written = apart_of (op_writes meta o) (op_writes meta p) written;
      first_read = apart_of (op_writes meta p) (op_reads o) (or_second (meets (op_writes meta o) (op_reads p)) (meets (op_writes meta p) (op_reads o)) rest);
      second_read = apart_of (op_writes meta o) (op_reads p) (or_first (meets (op_writes meta o) (op_reads p)) (meets (op_writes meta p) (op_reads o)) rest);
    }

pub interferes_not : (meta : Meta) (o p : Operation) → AreDisjoint meta (steps_of o) (steps_of p) → interferes meta o p ≡ false
unfolding interferes
interferes_not meta o p k =
    or_neither (meets (op_writes meta o) (op_writes meta p)) (meets (op_writes meta o) (op_reads p) || meets (op_writes meta p) (op_reads o))
    (meets_of (op_writes meta o) (op_writes meta p) k.written)
    (or_neither (meets (op_writes meta o) (op_reads p)) (meets (op_writes meta p) (op_reads o))
    (meets_of (op_writes meta o) (op_reads p) k.second_read)
    (meets_of (op_writes meta p) (op_reads o) k.first_read))

pub interference_is_of_cells : InterferenceIsOfCells
unfolding interferes
interference_is_of_cells meta o p = refl

pub interference_is_exact : InterferenceIsExact
interference_is_exact meta o p = (keep_apart meta o p, interferes_not meta o p)

pub interference_has_a_cell : InterferenceHasACell
unfolding interferes
interference_has_a_cell meta o p h =
    or_cases (meets (op_writes meta o) (op_writes meta p)) (meets (op_writes meta o) (op_reads p) || meets (op_writes meta p) (op_reads o)) h
    (λ both. let c = any_in (has (op_writes meta p)) (op_writes meta o) both
    in (c.0, inl (c.1, or_left (has (op_writes meta p) c.0) (has (op_reads p) c.0) c.2)))
    (λ rest. or_cases (meets (op_writes meta o) (op_reads p)) (meets (op_writes meta p) (op_reads o)) rest
    (λ read. let c = any_in (has (op_reads p)) (op_writes meta o) read in (c.0, inl (c.1, or_right (has (op_writes meta p) c.0) (has (op_reads p) c.0) c.2)))
    (λ read. let c = any_in (has (op_reads o)) (op_writes meta p) read in (c.0, inr (c.1, or_right (has (op_writes meta o) c.0) (has (op_reads o) c.0) c.2))))

pub symmetric_false : (meta : Meta) (o p : Operation) → interferes meta o p ≡ false → interferes meta p o ≡ false
symmetric_false meta o p h = interferes_not meta p o (turned meta (steps_of o) (steps_of p) (keep_apart meta o p h))

pub interference_is_symmetric : InterferenceIsSymmetric
interference_is_symmetric meta o p =
    elim (interferes meta o p) as (λ b. interferes meta o p ≡ b → b ≡ interferes meta p o) [
      | false ↦ λ h. sym (symmetric_false meta o p h)
      | true ↦ λ h. elim (interferes meta p o) as (λ b. interferes meta p o ≡ b → true ≡ b) [
        | true ↦ λ k. refl
        | false ↦ λ k. absurd (true_false _ h (symmetric_false meta p o k))
      ] refl
    ] refl

-- ---- runs of several operations
writes_append : (meta : Meta) (ss ts : List Step) → writes_all meta (ss ++ ts) ≡ writes_all meta ss ++ writes_all meta ts
writes_append meta [] ts = refl
writes_append meta (s ∷ ss) ts =
    ap (λ xs. step_writes meta s ++ xs) (writes_append meta ss ts) ∙ sym (joined (step_writes meta s) (writes_all meta ss) (writes_all meta ts))
  where
    joined : (xs ys zs : List Cell) → (xs ++ ys) ++ zs ≡ xs ++ (ys ++ zs)
    joined [] ys zs = refl
    joined (x ∷ xs) ys zs = ap (λ l. x ∷ l) (joined xs ys zs)

reads_append : (ss ts : List Step) → reads_all (ss ++ ts) ≡ reads_all ss ++ reads_all ts
reads_append [] ts = refl
reads_append (s ∷ ss) ts = ap (λ xs. step_reads s ++ xs) (reads_append ss ts) ∙ sym (joined (step_reads s) (reads_all ss) (reads_all ts))
  where
    joined : (xs ys zs : List Cell) → (xs ++ ys) ++ zs ≡ xs ++ (ys ++ zs)
    joined [] ys zs = refl
    joined (x ∷ xs) ys zs = ap (λ l. x ∷ l) (joined xs ys zs)

apart_none : (meta : Meta) (qs : List Step) → AreDisjoint meta [] qs
apart_none meta qs = record {
  written = λ c h. absurd (true_false false h refl);
  first_read = λ c h. refl;
  second_read =
      λ c h. absurd (true_false false h refl);
}

-- what is disjoint from two runs is disjoint from both in turn
apart_more : (meta : Meta) (ss ts qs : List Step) → AreDisjoint meta ss qs → AreDisjoint meta ts qs → AreDisjoint meta (ss ++ ts) qs
apart_more meta ss ts qs k l = record {
  written = λ c h. either c h (k.written c) (l.written c);
  first_read = λ c h. ap (λ xs. has xs c) (reads_append ss ts) ∙ neither (reads_all ss) (reads_all ts) c (k.first_read c h) (l.first_read c h);
  second_read = λ c h. either c h (k.second_read c) (l.second_read c);
}
  where
    either : (c : Cell) {G : Type 0} → has (writes_all meta (ss ++ ts)) c ≡ true → (has (writes_all meta ss) c ≡ true → G)
        → (has (writes_all meta ts) c ≡ true → G) → G
    either c h = or_cases (has (writes_all meta ss) c) (has (writes_all meta ts) c)
        (sym (has_append (writes_all meta ss) (writes_all meta ts) c) ∙ (ap (λ xs. has xs c) (sym (writes_append meta ss ts)) ∙ h))

free_apart : (meta : Meta) (o : Operation) (ps : List Operation) → Free meta o ps → AreDisjoint meta (steps_all ps) (steps_of o)
free_apart meta o [] free = apart_none meta (steps_of o)
free_apart meta o (p ∷ ps) free = apart_more meta (steps_of p) (steps_all ps) (steps_of o)
    (turned meta (steps_of o) (steps_of p) (keep_apart meta o p free.0))
    (free_apart meta o ps free.1)

pub packages_apart : (meta : Meta) (os ps : List Operation) → NoPair meta os ps → AreDisjoint meta (steps_all os) (steps_all ps)
packages_apart meta [] ps none = apart_none meta (steps_all ps)
packages_apart meta (o ∷ os) ps none = apart_more meta (steps_of o) (steps_all os) (steps_all ps)
    (turned meta (steps_all ps) (steps_of o) (free_apart meta o ps none.0))
    (packages_apart meta os ps none.1)
