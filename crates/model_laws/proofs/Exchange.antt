-- Runs that do not touch what the other needs commute.
use Rattle.std.proofs.Common.{◌≡◌, Bool, true, false, List, [], ◌∷◌, ◌++◌, refl, sym, subst, ◌∙◌, ◌||◌, map}
use Rattle.std.specs.Prelude.{Some}
use Rattle.std.specs.FinMap.{get}
use Rattle.std.proofs.lemmas.Bool.{or_left, or_right}
use Rattle.finite_maps.proofs.MapLaws.{same, set_all_alike}
use Rattle.finite_maps.proofs.Cases.{or_first, or_second}
use Rattle.ecore_meta.specs.Meta.{Meta}
use Rattle.model_state.specs.declared.step.Place.TheVariants.{Inside}
use Rattle.model_state.specs.declared.step.Step.{Step}
use Rattle.model_state.specs.Keys.{IdBytes, RowKey}
use Rattle.model_state.specs.State.{State, Writes, written}
use Rattle.model_state.specs.Steps.{Can, fault, writes, apply, fold}
use Rattle.model_state.specs.Good.{Good, Sound}
use Rattle.model_laws.specs.Cells.{Cell, OfKind, OfPlace, OfRank, OfAttr, OfRow, OfWhole, About, is_bounded, cell_eq, has, stands_in, stands_inside}
use Rattle.model_laws.specs.Cells.{Agree, AgreeAt, step_writes, step_reads, kinds_written, kinds_read, needs, may_change, needs_all, may_change_all}
use Rattle.model_state.proofs.Orders.{id_order, attr_order, row_order}
use Rattle.model_laws.proofs.Runs.{undoes, fold_more, fold_first, steps_keep_good, same_state}

agree_turn : (meta : Meta) (m n : State) (c : Cell) → Agree meta m n c → Agree meta n m c
agree_turn meta m n (OfKind e) h = sym h
agree_turn meta m n (OfPlace e) h = sym h
agree_turn meta m n (OfRank e) h = sym h
agree_turn meta m n (OfAttr e f) h = sym h
agree_turn meta m n (OfRow a f b) h = λ is. sym (h is)
agree_turn meta m n (OfWhole a f) h = (λ is b. sym (h.0 is b), λ is x. sym (h.1 is x))
agree_turn meta m n (About e) h = (λ f. sym (h.0 f), λ f b. sym (h.1 f b), λ a f. sym (h.2 a f), λ x. sym (h.3 x))

agree_join : (meta : Meta) (m n k : State) (c : Cell) → Agree meta m n c → Agree meta n k c → Agree meta m k c
agree_join meta m n k (OfKind e) g h = g ∙ h
agree_join meta m n k (OfPlace e) g h = g ∙ h
agree_join meta m n k (OfRank e) g h = g ∙ h
agree_join meta m n k (OfAttr e f) g h = g ∙ h
agree_join meta m n k (OfRow a f b) g h = λ is. g is ∙ h is
agree_join meta m n k (OfWhole a f) g h = (λ is b. g.0 is b ∙ h.0 is b, λ is x. g.1 is x ∙ h.1 is x)
agree_join meta m n k (About e) g h = (λ f. g.0 f ∙ h.0 f, λ f b. g.1 f b ∙ h.1 f b, λ a f. g.2 a f ∙ h.2 a f, λ x. g.3 x ∙ h.3 x)

agree_self : (meta : Meta) (m : State) (c : Cell) → Agree meta m m c
agree_self meta m (OfKind e) = refl
agree_self meta m (OfPlace e) = refl
agree_self meta m (OfRank e) = refl
agree_self meta m (OfAttr e f) = refl
agree_self meta m (OfRow a f b) = λ is. refl
agree_self meta m (OfWhole a f) = (λ is b. refl, λ is x. refl)
agree_self meta m (About e) = (λ f. refl, λ f b. refl, λ a f. refl, λ x. refl)

-- states that agree at a cell agree there after the same writes
pub agree_written : (meta : Meta) (m n : State) (w : Writes) (c : Cell) → Agree meta m n c → Agree meta (written m w) (written n w) c
agree_written meta m n w (OfKind e) h = set_all_alike id_order (λ o. o) w.kind m.kind n.kind e h
agree_written meta m n w (OfPlace e) h = set_all_alike id_order (λ o. o) w.place m.place n.place e h
agree_written meta m n w (OfRank e) h = set_all_alike id_order (λ o. o) w.prank m.prank n.prank e h
agree_written meta m n w (OfAttr e f) h = set_all_alike attr_order (λ o. o) w.attr m.attr n.attr (e, f) h
agree_written meta m n w (OfRow a f b) h = λ is. set_all_alike row_order (λ o. o) w.row m.row n.row (a, f, b) (h is)
agree_written meta m n w (OfWhole a f) h = (
  λ is b. set_all_alike row_order (λ o. o) w.row m.row n.row (a, f, b) (h.0 is b),
  λ is x. set_all_alike id_order (stands_in (Inside a f)) w.place m.place n.place x (h.1 is x),
)
agree_written meta m n w (About e) h = (
  λ f. set_all_alike attr_order (λ o. o) w.attr m.attr n.attr (e, f) (h.0 f),
  λ f b. set_all_alike row_order (λ o. o) w.row m.row n.row (e, f, b) (h.1 f b),
  λ a f. set_all_alike row_order (λ o. o) w.row m.row n.row (a, f, e) (h.2 a f),
  λ x. set_all_alike id_order (stands_inside e) w.place m.place n.place x (h.3 x),
)

-- ---- lists of cells
pub has_append : (xs ys : List Cell) (c : Cell) → has (xs ++ ys) c ≡ has xs c || has ys c
has_append [] ys c = refl
has_append (x ∷ xs) ys c = elim (cell_eq c x) as (λ b. b || has (xs ++ ys) c ≡ (b || has xs c) || has ys c) [ true ↦ refl | false ↦ has_append xs ys c ]

pub or_cases : (a b : Bool) {G : Type 0} → a || b ≡ true → (a ≡ true → G) → (b ≡ true → G) → G
or_cases true b h g k = g refl
or_cases false b h g k = k h

pub not_first : (xs ys : List Cell) (c : Cell) → has (xs ++ ys) c ≡ false → has xs c ≡ false
not_first xs ys c h = or_first (has xs c) (has ys c) (sym (has_append xs ys c) ∙ h)

pub not_second : (xs ys : List Cell) (c : Cell) → has (xs ++ ys) c ≡ false → has ys c ≡ false
not_second xs ys c h = or_second (has xs c) (has ys c) (sym (has_append xs ys c) ∙ h)

pub has_first : (xs ys : List Cell) (c : Cell) → has xs c ≡ true → has (xs ++ ys) c ≡ true
has_first xs ys c h = has_append xs ys c ∙ or_left (has xs c) (has ys c) h

pub has_second : (xs ys : List Cell) (c : Cell) → has ys c ≡ true → has (xs ++ ys) c ≡ true
has_second xs ys c h = has_append xs ys c ∙ or_right (has xs c) (has ys c) h

-- a cell, and not all that hangs on an element
abbrev pub IsReal : Cell → Type 0
IsReal (About e) = ⊥
IsReal c = Unit {0}

pub real_apart : (c : Cell) (xs : List IdBytes) → IsReal c → has (map About xs) c ≡ false
real_apart (OfKind e) [] r = refl
real_apart (OfKind e) (x ∷ xs) r = real_apart (OfKind e) xs r
real_apart (OfPlace e) [] r = refl
real_apart (OfPlace e) (x ∷ xs) r = real_apart (OfPlace e) xs r
real_apart (OfRank e) [] r = refl
real_apart (OfRank e) (x ∷ xs) r = real_apart (OfRank e) xs r
real_apart (OfAttr e f) [] r = refl
real_apart (OfAttr e f) (x ∷ xs) r = real_apart (OfAttr e f) xs r
real_apart (OfRow a f b) [] r = refl
real_apart (OfRow a f b) (x ∷ xs) r = real_apart (OfRow a f b) xs r
real_apart (OfWhole a f) [] r = refl
real_apart (OfWhole a f) (x ∷ xs) r = real_apart (OfWhole a f) xs r
real_apart (About e) xs r = absurd r

-- a cell that a run touches is one that it needs
touched_needed : (meta : Meta) (ss : List Step) (c : Cell) → IsReal c → has (may_change_all meta ss) c ≡ true → has (needs_all meta ss) c ≡ true
touched_needed meta [] c r h = h
touched_needed meta (s ∷ ss) c r h =
    or_cases (has (may_change meta s) c) (has (may_change_all meta ss) c) (sym (has_append (may_change meta s) (may_change_all meta ss) c) ∙ h)
    (λ here. or_cases (has (step_writes meta s) c) (has (map About (kinds_read s ++ kinds_written s)) c)
    (sym (has_append (step_writes meta s) (map About (kinds_read s ++ kinds_written s)) c) ∙ here)
    (λ w. has_first (needs meta s) (needs_all meta ss) c
    (has_second (step_reads s) (map About (kinds_written s) ++ step_writes meta s) c
    (has_second (map About (kinds_written s)) (step_writes meta s) c w)))
    (λ a. absurd (clash (real_apart c (kinds_read s ++ kinds_written s) r) a)))
    (λ later. has_second (needs meta s) (needs_all meta ss) c (touched_needed meta ss c r later))
  where
    clash : {b : Bool} → b ≡ false → b ≡ true → ⊥
    clash g k = cc

-- states that agree at each cell are equal
pub agree_everywhere : (meta : Meta) (m n : State) → ((c : Cell) → IsReal c → Agree meta m n c) → m ≡ n
agree_everywhere meta m n h =
    let k = same id_order m.kind n.kind (λ e. h (OfKind e) tt) in
    let p = same id_order m.place n.place (λ e. h (OfPlace e) tt) in
    let r = same id_order m.prank n.prank (λ e. h (OfRank e) tt) in
    let a = same attr_order m.attr n.attr (λ q. h (OfAttr q.0 q.1) tt) in
    let w = same row_order m.row n.row (λ (q : RowKey).
    elim (is_bounded meta q.1) as (λ b. is_bounded meta q.1 ≡ b → get m.row q ≡ get n.row q) [
      | true ↦ λ is. (h (OfWhole q.0 q.1) tt).0 is q.2
      | false ↦ λ is. h (OfRow q.0 q.1 q.2) tt is
    ] refl) in
    λ i. record { kind = k i; place = p i; prank = r i; attr = a i; row = w i }

-- ---- what is proved of each step
-- a step leaves what it does not touch
abbrev pub LeavesOthers : Meta → Type 0
LeavesOthers meta = (m : State) → Good meta m → (s : Step) → Can meta m s → (c : Cell) → has (may_change meta s) c ≡ false → Agree meta m (apply meta m s) c

-- a step goes by what it needs alone
abbrev pub GoesByNeeds : Meta → Type 0
GoesByNeeds meta = (m n : State) → Good meta m → Good meta n → (s : Step) → AgreeAt meta m n (needs meta s)
    → (fault meta m s ≡ fault meta n s) × (writes meta m s ≡ writes meta n s)

module _ (meta : Meta) (sound : Sound meta) (leaves : LeavesOthers meta) (goes : GoesByNeeds meta) where
  pub run_leaves : (ss : List Step) (m n : State) → Good meta m → fold meta m ss ≡ Some n → (c : Cell) → has (may_change_all meta ss) c ≡ false
      → Agree meta m n c
  run_leaves [] m n good is c out = subst (λ x. Agree meta m x c) (same_state m n is) (agree_self meta m c)
  run_leaves (s ∷ ss) m n good is c out =
      let p = fold_first meta m n s ss is in
      agree_join meta m (apply meta m s) n c
      (leaves m good s p.0 c (not_first (may_change meta s) (may_change_all meta ss) c out))
      (run_leaves ss (apply meta m s) n (undoes meta sound m good s p.0).keeps p.1 c (not_second (may_change meta s) (may_change_all meta ss) c out))

  pub run_goes : (ss : List Step) (m n k : State) → Good meta m → Good meta n → AgreeAt meta m n (needs_all meta ss) → fold meta m ss ≡ Some k
      → (l : State) × (fold meta n ss ≡ Some l) × ((c : Cell) → Agree meta m n c → Agree meta k l c)
  run_goes [] m n k good goodn alike is = (n, refl, λ c h. subst (λ x. Agree meta x n c) (same_state m k is) h)
  run_goes (s ∷ ss) m n k good goodn alike is =
      let p = fold_first meta m k s ss is in
      let q = goes m n good goodn s (λ c h. alike c (has_first (needs meta s) (needs_all meta ss) c h)) in
      let on : (c : Cell) → Agree meta m n c → Agree meta (apply meta m s) (apply meta n s) c =
      λ c h. subst (λ w. Agree meta (apply meta m s) (written n w) c) q.1 (agree_written meta m n (writes meta m s) c h) in
      let rest = run_goes ss (apply meta m s) (apply meta n s) k (undoes meta sound m good s p.0).keeps
      (undoes meta sound n goodn s (sym q.0 ∙ p.0)).keeps (λ c h. on c (alike c (has_second (needs meta s) (needs_all meta ss) c h))) p.1 in
      (rest.0, fold_more meta n s ss (sym q.0 ∙ p.0) ∙ rest.1, λ c h. rest.2 c (on c h))

  -- two runs, neither of which touches what the other needs, commute
  pub exchange : (ps qs : List Step) (m m1 m2 : State) → Good meta m → fold meta m ps ≡ Some m1 → fold meta m1 qs ≡ Some m2
      → ((c : Cell) → has (needs_all meta qs) c ≡ true → has (may_change_all meta ps) c ≡ false)
      → ((c : Cell) → has (needs_all meta ps) c ≡ true → has (may_change_all meta qs) c ≡ false)
      → (n : State) × (fold meta m qs ≡ Some n) × (fold meta n ps ≡ Some m2)
  exchange ps qs m m1 m2 good first second qp pq =
      let good1 = steps_keep_good meta sound m m1 good ps first in
      let back = run_goes qs m1 m m2 good1 good (λ c h. agree_turn meta m m1 c (run_leaves ps m m1 good first c (qp c h))) second in
      let n = back.0 in
      let goodn = steps_keep_good meta sound m n good qs back.1 in
      let again = run_goes ps m n m1 good goodn (λ c h. run_leaves qs m n good back.1 c (pq c h)) first in
      let all : again.0 ≡ m2 = agree_everywhere meta again.0 m2 (λ c real.
      elim (has (may_change_all meta qs) c) as (λ b. has (may_change_all meta qs) c ≡ b → Agree meta again.0 m2 c) [
        | false ↦ λ out. agree_join meta again.0 m1 m2 c
            (agree_turn meta m1 again.0 c (again.2 c (run_leaves qs m n good back.1 c out)))
            (run_leaves qs m1 m2 good1 second c out)
        | true ↦ λ inside.
            let out = qp c (touched_needed meta qs c real inside) in
            agree_join meta again.0 n m2 c
            (agree_turn meta n again.0 c (run_leaves ps n again.0 goodn again.1 c out))
            (agree_turn meta m2 n c (back.2 c (agree_turn meta m m1 c (run_leaves ps m m1 good first c out))))
      ] refl) in
      (n, back.1, subst (λ x. fold meta n ps ≡ Some x) all again.1)
