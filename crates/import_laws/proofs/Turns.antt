-- The turns of a document's links: each target of each list of each row, in order.
use Rattle.std.proofs.lemmas.Bool.Decides.{nat_tests}
use Rattle.std.proofs.Common.{◌≡◌, ℕ, zero, suc, ◌+◌, ◌<◌, ◌≤◌, Bool, true, false, cond, not, ◌&&◌, ◌||◌, List, [], ◌∷◌, ◌++◌, map, length, drop}
use Rattle.std.proofs.Common.{refl, sym, ap, subst, ◌∙◌, arith, append_assoc, nat_eq}
use Rattle.std.specs.Prelude.{Option, Some, slice_get}
use Rattle.std.specs.List.{AllByRecursion, list_any}
use Rattle.finite_maps.specs.Maps.{set, tally}
use Rattle.finite_maps.proofs.Cases.{not_so, not_true, true_false, or_first, or_second}
use Rattle.finite_maps.proofs.EqualLaws.{and_first, and_second, nat_equality}
use Rattle.ecore_meta.specs.Meta.{Meta}
use Rattle.model_state.specs.declared.step.Step.{Step}
use Rattle.model_state.specs.Keys.{IdBytes, RowKey}
use Rattle.edit_steps.specs.Rows.{Rows}
use Rattle.model_documents.specs.declared.doc.DocRefs.{DocRefs}
use Rattle.model_documents.specs.declared.doc.DocRow.{DocRow}
use Rattle.model_documents.specs.Fits.{numbers_differ}
use Rattle.model_documents.specs.Completed.{targets_at}
use Rattle.import_laws.specs.After.{refs_set, rows_from, targets_set}
use Rattle.import_laws.specs.Links.{link_to, links_from, refs_made, targets_made}
use Rattle.import_laws.specs.Names.{name_at}
use Rattle.import_laws.specs.News.{rank_of}
use Rattle.import_laws.proofs.Indexed.{drop_at, drop_next, drop_none, or_later}

-- a row's feature refers to another row, which stands at the index of its list
pub record Turn : Type 0 where
  pub row : ℕ
  pub feature : ℕ
  pub index : ℕ
  pub target : ℕ

abbrev pub turn : ℕ → ℕ → ℕ → ℕ → Turn
turn n f k b = record { row = n; feature = f; index = k; target = b }

abbrev pub turns_in : ℕ → ℕ → ℕ → List ℕ → List Turn
turns_in n f k [] = []
turns_in n f k (b ∷ bs) = turn n f k b ∷ turns_in n f (suc k) bs

abbrev pub turns_of : ℕ → List DocRefs → List Turn
turns_of n [] = []
turns_of n (q ∷ refs) = turns_in n q.feature 0 q.targets ++ turns_of n refs

abbrev pub turns_from : ℕ → List DocRow → List Turn
turns_from n [] = []
turns_from n (r ∷ rest) = turns_of n r.refs ++ turns_from (suc n) rest

-- ---- the steps of the turns
abbrev pub turn_step : Meta → List IdBytes → List DocRow → Turn → List Step
turn_step meta names rows t = link_to meta rows t.row (name_at names t.row) t.feature t.index t.target (slice_get names t.target)

abbrev pub turn_steps : Meta → List IdBytes → List DocRow → List Turn → List Step
turn_steps meta names rows [] = []
turn_steps meta names rows (t ∷ ts) = turn_step meta names rows t ++ turn_steps meta names rows ts

module _ (meta : Meta) (names : List IdBytes) (rows : List DocRow) where
  steps_append : (ts us : List Turn) → turn_steps meta names rows (ts ++ us) ≡ turn_steps meta names rows ts ++ turn_steps meta names rows us
  steps_append [] us = refl
  steps_append (t ∷ ts) us =
      ap (λ ss. turn_step meta names rows t ++ ss) (steps_append ts us)
      ∙ sym (append_assoc (turn_step meta names rows t) (turn_steps meta names rows ts) (turn_steps meta names rows us))

  steps_in : (n f k : ℕ) (bs : List ℕ) → targets_made meta names rows n (name_at names n) f k bs ≡ turn_steps meta names rows (turns_in n f k bs)
  steps_in n f k [] = refl
  steps_in n f k (b ∷ bs) = ap (λ ss. turn_step meta names rows (turn n f k b) ++ ss) (steps_in n f (suc k) bs)

  steps_of_refs : (n : ℕ) (refs : List DocRefs) → refs_made meta names rows n (name_at names n) refs ≡ turn_steps meta names rows (turns_of n refs)
  steps_of_refs n [] = refl
  steps_of_refs n (q ∷ refs) =
      ap (λ ss. ss ++ refs_made meta names rows n (name_at names n) refs) (steps_in n q.feature 0 q.targets)
      ∙ ap (λ ss. turn_steps meta names rows (turns_in n q.feature 0 q.targets) ++ ss) (steps_of_refs n refs)
      ∙ sym (steps_append (turns_in n q.feature 0 q.targets) (turns_of n refs))

  pub links_are : (n : ℕ) (rest : List DocRow) → links_from meta names rows n rest ≡ turn_steps meta names rows (turns_from n rest)
  links_are n [] = refl
  links_are n (r ∷ rest) =
      ap (λ ss. ss ++ links_from meta names rows (suc n) rest) (steps_of_refs n r.refs)
      ∙ ap (λ ss. turn_steps meta names rows (turns_of n r.refs) ++ ss) (links_are (suc n) rest)
      ∙ sym (steps_append (turns_of n r.refs) (turns_from (suc n) rest))

-- ---- what the turns leave
abbrev pub key_of : List IdBytes → Turn → RowKey
key_of names t = (name_at names t.row, t.feature, name_at names t.target)

abbrev pub turn_set : List IdBytes → Rows → Turn → Rows
turn_set names row t = set row (key_of names t) (Some (rank_of t.index))

abbrev pub turns_set : List IdBytes → Rows → List Turn → Rows
turns_set names row [] = row
turns_set names row (t ∷ ts) = turns_set names (turn_set names row t) ts

module _ (names : List IdBytes) where
  set_append : (row : Rows) (ts us : List Turn) → turns_set names row (ts ++ us) ≡ turns_set names (turns_set names row ts) us
  set_append row [] us = refl
  set_append row (t ∷ ts) us = set_append (turn_set names row t) ts us

  set_in : (n f k : ℕ) (row : Rows) (bs : List ℕ) → targets_set names (name_at names n) f k row bs ≡ turns_set names row (turns_in n f k bs)
  set_in n f k row [] = refl
  set_in n f k row (b ∷ bs) = set_in n f (suc k) (turn_set names row (turn n f k b)) bs

  set_of : (n : ℕ) (row : Rows) (refs : List DocRefs) → refs_set names (name_at names n) row refs ≡ turns_set names row (turns_of n refs)
  set_of n row [] = refl
  set_of n row (q ∷ refs) =
      ap (λ r. refs_set names (name_at names n) r refs) (set_in n q.feature 0 row q.targets)
      ∙ set_of n (turns_set names row (turns_in n q.feature 0 q.targets)) refs
      ∙ sym (set_append row (turns_in n q.feature 0 q.targets) (turns_of n refs))

  pub rows_are : (n : ℕ) (row : Rows) (rest : List DocRow) → rows_from names n row rest ≡ turns_set names row (turns_from n rest)
  rows_are n row [] = refl
  rows_are n row (r ∷ rest) =
      ap (λ x. rows_from names (suc n) x rest) (set_of n row r.refs)
      ∙ rows_are (suc n) (turns_set names row (turns_of n r.refs)) rest
      ∙ sym (set_append row (turns_of n r.refs) (turns_from (suc n) rest))

-- ---- what holds of each turn
abbrev pub Each : (Turn → Type 0) → List Turn → Type 0
Each P ts = AllByRecursion P ts

pub each_append : (P : Turn → Type 0) (ts us : List Turn) → Each P ts → Each P us → Each P (ts ++ us)
each_append P [] us all more = more
each_append P (t ∷ ts) us all more = (all.0, each_append P ts us all.1 more)

pub each_first : (P : Turn → Type 0) (ts us : List Turn) → Each P (ts ++ us) → Each P ts
each_first P [] us all = tt
each_first P (t ∷ ts) us all = (all.0, each_first P ts us all.1)

pub each_second : (P : Turn → Type 0) (ts us : List Turn) → Each P (ts ++ us) → Each P us
each_second P [] us all = all
each_second P (t ∷ ts) us all = each_second P ts us all.1

pub each_map : (P Q : Turn → Type 0) → ((t : Turn) → P t → Q t) → (ts : List Turn) → Each P ts → Each Q ts
each_map P Q h [] all = tt
each_map P Q h (t ∷ ts) all = (h t all.0, each_map P Q h ts all.1)

pub each_both : (P Q : Turn → Type 0) (ts : List Turn) → Each P ts → Each Q ts → Each (λ t. P t × Q t) ts
each_both P Q [] all more = tt
each_both P Q (t ∷ ts) all more = ((all.0, more.0), each_both P Q ts all.1 more.1)

module _ (P : Turn → Type 0) where
  each_in : (n f : ℕ) (whole : List ℕ) (k : ℕ) (bs : List ℕ) → drop k whole ≡ bs → ((j b : ℕ) → slice_get whole j ≡ Some b → P (turn n f j b))
      → Each P (turns_in n f k bs)
  each_in n f whole k [] left h = tt
  each_in n f whole k (b ∷ bs) left h = (h k b (drop_at k whole b bs left), each_in n f whole (suc k) bs (drop_next k whole b bs left) h)

  each_of : (n : ℕ) (refs : List DocRefs)
      → ((l : ℕ) (q : DocRefs) → slice_get refs l ≡ Some q → (j b : ℕ) → slice_get q.targets j ≡ Some b → P (turn n q.feature j b))
      → Each P (turns_of n refs)
  each_of n [] h = tt
  each_of n (q ∷ refs) h =
      each_append P (turns_in n q.feature 0 q.targets) (turns_of n refs)
      (each_in n q.feature q.targets 0 q.targets (drop_none q.targets) (h 0 q refl)) (each_of n refs (λ l. h (suc l)))

  pub each_from : (rows rest : List DocRow) (n : ℕ) → drop n rows ≡ rest
      → ((i : ℕ) (r : DocRow) → slice_get rows i ≡ Some r → (l : ℕ) (q : DocRefs) → slice_get r.refs l ≡ Some q → (j b : ℕ)
      → slice_get q.targets j ≡ Some b → P (turn i q.feature j b))
      → Each P (turns_from n rest)
  each_from rows [] n left h = tt
  each_from rows (r ∷ rest) n left h =
      each_append P (turns_of n r.refs) (turns_from (suc n) rest) (each_of n r.refs (h n r (drop_at n rows r rest left)))
      (each_from rows rest (suc n) (drop_next n rows r rest left) h)

-- ---- each target has its turn
module _ (Q : ℕ → ℕ → ℕ → Type 0) where
  abbrev OfTurn : Turn → Type 0
  OfTurn t = Q t.row t.feature t.target

  found_in : (n f k b : ℕ) (bs : List ℕ) → Each OfTurn (turns_in n f k bs) → list_any (nat_eq b) bs ≡ true → Q n f b
  found_in n f k b [] all h = cc
  found_in n f k b (c ∷ bs) all h =
      elim (nat_eq b c) as (λ t. nat_eq b c ≡ t → t || list_any (nat_eq b) bs ≡ true → Q n f b) [
        | true ↦ λ same _. subst (Q n f) (sym (nat_equality.exact b c same)) all.0
        | false ↦ λ _ later. found_in n f (suc k) b bs all.1 later
      ] refl h

  found_of : (n f b : ℕ) (refs : List DocRefs) → Each OfTurn (turns_of n refs) → list_any (nat_eq b) (targets_at f refs) ≡ true → Q n f b
  found_of n f b [] all h = cc
  found_of n f b (q ∷ refs) all h =
      elim (nat_eq f q.feature) as (λ t. nat_eq f q.feature ≡ t → list_any (nat_eq b) (cond t q.targets (targets_at f refs)) ≡ true → Q n f b) [
        | true ↦ λ same here. subst (λ g. Q n g b) (sym (nat_equality.exact f q.feature same))
            (found_in n q.feature 0 b q.targets (each_first OfTurn (turns_in n q.feature 0 q.targets) (turns_of n refs) all) here)
        | false ↦ λ _ later. found_of n f b refs (each_second OfTurn (turns_in n q.feature 0 q.targets) (turns_of n refs) all) later
      ] refl h

  pub found_from : (rest : List DocRow) (n i : ℕ) (r : DocRow) (f b : ℕ) → Each OfTurn (turns_from n rest) → slice_get rest i ≡ Some r
      → list_any (nat_eq b) (targets_at f r.refs) ≡ true → (k : ℕ) → k ≡ n + i → Q k f b
  found_from [] n i r f b all is h k at = cc
  found_from (x ∷ rest) n zero r f b all is h k at =
      subst (λ j. Q j f b) (sym (at ∙ first n))
      (found_of n f b x.refs (each_first OfTurn (turns_of n x.refs) (turns_from (suc n) rest) all)
      (ap (λ y. list_any (nat_eq b) (targets_at f y)) (same_refs x r is) ∙ h))
    where
      first : (n : ℕ) → n + 0 ≡ n
      first n = omega arith

      same_refs : (x r : DocRow) → ◌≡◌ {A = Option DocRow} (Some x) (Some r) → x.refs ≡ r.refs
      same_refs x r is = cc
  found_from (x ∷ rest) n (suc i) r f b all is h k at =
      found_from rest (suc n) i r f b (each_second OfTurn (turns_of n x.refs) (turns_from (suc n) rest) all) is h k (at ∙ further n i)
    where
      further : (n i : ℕ) → n + suc i ≡ suc n + i
      further n i = omega arith

-- ---- no turn comes twice
abbrev pub Other : Turn → Turn → Type 0
Other t u = nat_eq t.row u.row && (nat_eq t.feature u.feature && nat_eq t.target u.target) ≡ false

abbrev pub Alone : List Turn → Type 0
Alone [] = Unit {0}
Alone (t ∷ ts) = Each (Other t) ts × Alone ts

alone_append : (ts us : List Turn) → Alone ts → Alone us → Each (λ t. Each (Other t) us) ts → Alone (ts ++ us)
alone_append [] us alone more other = more
alone_append (t ∷ ts) us alone more other = (each_append (Other t) ts us alone.0 other.0, alone_append ts us alone.1 more other.1)

each_each : (P Q : Turn → Type 0) → ((t u : Turn) → P t → Q u → Other t u) → (ts us : List Turn) → Each P ts → Each Q us → Each (λ t. Each (Other t) us) ts
each_each P Q h [] us all more = tt
each_each P Q h (t ∷ ts) us all more = (each_map Q (Other t) (λ u. h t u all.0) us more, each_each P Q h ts us all.1 more)

no_first : (a b : Bool) → a ≡ false → a && b ≡ false
no_first a b h = ap (λ x. x && b) h

no_second : (a b : Bool) → b ≡ false → a && b ≡ false
no_second true b h = h
no_second false b h = refl

targets_differ : (n f k b : ℕ) (j : ℕ) (bs : List ℕ) → list_any (nat_eq b) bs ≡ false → Each (Other (turn n f k b)) (turns_in n f j bs)
targets_differ n f k b j [] h = tt
targets_differ n f k b j (c ∷ bs) h =
    (no_second (nat_eq n n) _ (no_second (nat_eq f f) _ (or_first (nat_eq b c) _ h)), targets_differ n f k b (suc j) bs (or_second (nat_eq b c) _ h))

alone_in : (n f k : ℕ) (bs : List ℕ) → numbers_differ bs ≡ true → Alone (turns_in n f k bs)
alone_in n f k [] h = tt
alone_in n f k (b ∷ bs) h = (
  targets_differ n f k b (suc k) bs (not_true (list_any (nat_eq b) bs) (and_first _ _ h)),
  alone_in n f (suc k) bs (and_second (not (list_any (nat_eq b) bs)) _ h),
)

in_feature : (n f k : ℕ) (bs : List ℕ) → Each (λ t. (t.row ≡ n) × (t.feature ≡ f)) (turns_in n f k bs)
in_feature n f k [] = tt
in_feature n f k (b ∷ bs) = ((refl, refl), in_feature n f (suc k) bs)

abbrev features : List DocRefs → List ℕ
features refs = map (λ (q : DocRefs). q.feature) refs

of_features : (n : ℕ) (refs : List DocRefs) → Each (λ t. (t.row ≡ n) × (list_any (nat_eq t.feature) (features refs) ≡ true)) (turns_of n refs)
of_features n [] = tt
of_features n (q ∷ refs) =
    each_append _ (turns_in n q.feature 0 q.targets) (turns_of n refs)
    (each_map (λ t. (t.row ≡ n) × (t.feature ≡ q.feature))
    (λ t. (t.row ≡ n) × (nat_eq t.feature q.feature || list_any (nat_eq t.feature) (features refs) ≡ true))
    (λ t is. (is.0, ap (λ b. b || list_any (nat_eq t.feature) (features refs)) (ap (λ g. nat_eq g q.feature) is.1 ∙ nat_equality.own q.feature)))
    (turns_in n q.feature 0 q.targets) (in_feature n q.feature 0 q.targets))
    (each_map (λ t. (t.row ≡ n) × (list_any (nat_eq t.feature) (features refs) ≡ true))
    (λ t. (t.row ≡ n) × (nat_eq t.feature q.feature || list_any (nat_eq t.feature) (features refs) ≡ true))
    (λ t is. (is.0, or_later (nat_eq t.feature q.feature) _ is.1)) (turns_of n refs) (of_features n refs))

alone_of : (n : ℕ) (refs : List DocRefs) → numbers_differ (features refs) ≡ true
    → ((l : ℕ) (q : DocRefs) → slice_get refs l ≡ Some q → numbers_differ q.targets ≡ true) → Alone (turns_of n refs)
alone_of n [] h each = tt
alone_of n (q ∷ refs) h each =
    let away : list_any (nat_eq q.feature) (features refs) ≡ false = not_true (list_any (nat_eq q.feature) (features refs)) (and_first _ _ h) in
    alone_append (turns_in n q.feature 0 q.targets) (turns_of n refs) (alone_in n q.feature 0 q.targets (each 0 q refl))
    (alone_of n refs (and_second (not (list_any (nat_eq q.feature) (features refs))) _ h) (λ l. each (suc l)))
    (each_each (λ t. (t.row ≡ n) × (t.feature ≡ q.feature)) (λ t. (t.row ≡ n) × (list_any (nat_eq t.feature) (features refs) ≡ true))
    (λ t u is has. no_second (nat_eq t.row u.row) _ (no_first (nat_eq t.feature u.feature) _ (not_so (nat_eq t.feature u.feature) (λ same.
    true_false (list_any (nat_eq u.feature) (features refs)) has.1
    (ap (λ g. list_any (nat_eq g) (features refs)) (sym (nat_equality.exact t.feature u.feature same) ∙ is.1) ∙ away)))))
    (turns_in n q.feature 0 q.targets) (turns_of n refs) (in_feature n q.feature 0 q.targets) (of_features n refs))

behind_rows : (n : ℕ) (rest : List DocRow) → Each (λ t. n ≤ t.row) (turns_from n rest)
behind_rows n [] = tt
behind_rows n (r ∷ rest) =
    each_append _ (turns_of n r.refs) (turns_from (suc n) rest)
    (each_map (λ t. (t.row ≡ n) × (list_any (nat_eq t.feature) (features r.refs) ≡ true)) (λ t. n ≤ t.row) (λ t is. own n t.row is.0)
    (turns_of n r.refs) (of_features n r.refs))
    (each_map (λ t. suc n ≤ t.row) (λ t. n ≤ t.row) (λ t h. less n t.row h) (turns_from (suc n) rest) (behind_rows (suc n) rest))
  where
    own : (n k : ℕ) → k ≡ n → n ≤ k
    own n k h = omega arith

    less : (n k : ℕ) → suc n ≤ k → n ≤ k
    less n k h = omega arith

pub alone_from : (rows rest : List DocRow) (n : ℕ) → drop n rows ≡ rest
    → ((i : ℕ) (r : DocRow) → slice_get rows i ≡ Some r → numbers_differ (map (λ (q : DocRefs). q.feature) r.refs) ≡ true)
    → ((i : ℕ) (r : DocRow) → slice_get rows i ≡ Some r → (l : ℕ) (q : DocRefs) → slice_get r.refs l ≡ Some q → numbers_differ q.targets ≡ true)
    → Alone (turns_from n rest)
alone_from rows [] n left h each = tt
alone_from rows (r ∷ rest) n left h each =
    let here = drop_at n rows r rest left in
    alone_append (turns_of n r.refs) (turns_from (suc n) rest) (alone_of n r.refs (h n r here) (each n r here))
    (alone_from rows rest (suc n) (drop_next n rows r rest left) h each)
    (each_each (λ t. (t.row ≡ n) × (list_any (nat_eq t.feature) (features r.refs) ≡ true)) (λ t. suc n ≤ t.row)
    (λ t u is later. no_first (nat_eq t.row u.row) _ (differ n t.row u.row is.0 later)) (turns_of n r.refs) (turns_from (suc n) rest)
    (of_features n r.refs) (behind_rows (suc n) rest))
  where
    differ : (n a b : ℕ) → a ≡ n → suc n ≤ b → nat_eq a b ≡ false
    differ n a b is later = grind (arith, nat_tests)

-- ---- how many turns a feature of a row has
abbrev pub is_mine : ℕ → ℕ → Turn → Bool
is_mine i h t = nat_eq i t.row && nat_eq h t.feature

pub tally_append : (p : Turn → Bool) (ts us : List Turn) → tally p (ts ++ us) ≡ tally p ts + tally p us
tally_append p [] us = omega arith
tally_append p (t ∷ ts) us = let rest = tally_append p ts us in omega (arith, rest)

tally_none : (p : Turn → Bool) (ts : List Turn) → Each (λ t. p t ≡ false) ts → tally p ts ≡ 0
tally_none p [] all = refl
tally_none p (t ∷ ts) all = let rest = tally_none p ts all.1 in let here : ◌≡◌ {A = ℕ} (cond (p t) 1 0) 0 = ap (λ b. cond b 1 0) all.0
    in omega (arith, rest, here)

tally_all : (i h n f k : ℕ) (bs : List ℕ) → nat_eq i n ≡ true → nat_eq h f ≡ true → tally (is_mine i h) (turns_in n f k bs) ≡ length bs
tally_all i h n f k [] e g = refl
tally_all i h n f k (b ∷ bs) e g =
    let rest = tally_all i h n f (suc k) bs e g in
    let here : ◌≡◌ {A = ℕ} (cond (nat_eq i n && nat_eq h f) 1 0) 1 = ap (λ x. cond (x && nat_eq h f) 1 0) e ∙ ap (λ x. cond x 1 0) g in
    omega (arith, rest, here)

-- none of a feature that has no list
tally_missing : (i h n : ℕ) (refs : List DocRefs) → list_any (nat_eq h) (features refs) ≡ false → tally (is_mine i h) (turns_of n refs) ≡ 0
tally_missing i h n refs away =
    tally_none (is_mine i h) (turns_of n refs)
    (each_map (λ t. (t.row ≡ n) × (list_any (nat_eq t.feature) (features refs) ≡ true)) (λ t. is_mine i h t ≡ false)
    (λ t is. no_second (nat_eq i t.row) _
    (not_so (nat_eq h t.feature)
    (λ same. true_false (list_any (nat_eq t.feature) (features refs)) is.1
    (ap (λ g. list_any (nat_eq g) (features refs)) (sym (nat_equality.exact h t.feature same)) ∙ away)))) (turns_of n refs) (of_features n refs))

tally_of : (i h : ℕ) (refs : List DocRefs) → numbers_differ (features refs) ≡ true → tally (is_mine i h) (turns_of i refs) ≡ length (targets_at h refs)
tally_of i h [] ok = refl
tally_of i h (q ∷ refs) ok =
    tally_append (is_mine i h) (turns_in i q.feature 0 q.targets) (turns_of i refs)
    ∙ elim (nat_eq h q.feature) as (λ b. nat_eq h q.feature ≡ b
    → tally (is_mine i h) (turns_in i q.feature 0 q.targets) + tally (is_mine i h) (turns_of i refs) ≡ length
    (cond b q.targets (targets_at h refs))) [
      | true ↦ λ same.
          let mine = tally_all i h i q.feature 0 q.targets (nat_equality.own i) same in
          let none = tally_missing i h i refs
          (ap (λ g. list_any (nat_eq g) (features refs)) (nat_equality.exact h q.feature same)
          ∙ not_true (list_any (nat_eq q.feature) (features refs)) (and_first _ _ ok)) in
          omega (arith, mine, none)
      | false ↦ λ other.
          let none = tally_none (is_mine i h) (turns_in i q.feature 0 q.targets)
          (each_map (λ t. (t.row ≡ i) × (t.feature ≡ q.feature)) (λ t. is_mine i h t ≡ false)
          (λ t is. no_second (nat_eq i t.row) _ (ap (nat_eq h) is.1 ∙ other)) (turns_in i q.feature 0 q.targets)
          (in_feature i q.feature 0 q.targets)) in
          let rest = tally_of i h refs (and_second (not (list_any (nat_eq q.feature) (features refs))) _ ok) in
          omega (arith, none, rest)
    ] refl

tally_before : (i h n : ℕ) (rest : List DocRow) → i < n → tally (is_mine i h) (turns_from n rest) ≡ 0
tally_before i h n rest less =
    tally_none (is_mine i h) (turns_from n rest)
    (each_map (λ t. n ≤ t.row) (λ t. is_mine i h t ≡ false) (λ t later. no_first (nat_eq i t.row) _ (differ i n t.row less later)) (turns_from n rest)
    (behind_rows n rest))
  where
    differ : (i n k : ℕ) → i < n → n ≤ k → nat_eq i k ≡ false
    differ i n k h g = grind (arith, nat_tests)

pub tally_from : (rest : List DocRow) (n i k h : ℕ) (r : DocRow) → slice_get rest i ≡ Some r → k ≡ n + i
    → numbers_differ (map (λ (q : DocRefs). q.feature) r.refs) ≡ true → tally (is_mine k h) (turns_from n rest) ≡ length (targets_at h r.refs)
tally_from [] n i k h r is at ok = cc
tally_from (x ∷ rest) n zero k h r is at ok =
    let here : k ≡ n = at ∙ first n in
    let same : x.refs ≡ r.refs = same_refs x r is in
    let mine : tally (is_mine n h) (turns_of n x.refs) ≡ length (targets_at h r.refs) =
    ap (λ y. tally (is_mine n h) (turns_of n y)) same ∙ tally_of n h r.refs ok in
    let none = tally_before n h (suc n) rest (less n) in
    let sum = tally_append (is_mine n h) (turns_of n x.refs) (turns_from (suc n) rest) in
    ap (λ j. tally (is_mine j h) (turns_of n x.refs ++ turns_from (suc n) rest)) here ∙ omega (arith, mine, none, sum)
  where
    first : (n : ℕ) → n + 0 ≡ n
    first n = omega arith

    less : (n : ℕ) → n < suc n
    less n = omega arith

    same_refs : (x r : DocRow) → ◌≡◌ {A = Option DocRow} (Some x) (Some r) → x.refs ≡ r.refs
    same_refs x r is = cc
tally_from (x ∷ rest) n (suc i) k h r is at ok =
    let none : tally (is_mine k h) (turns_of n x.refs) ≡ 0 =
    tally_none (is_mine k h) (turns_of n x.refs)
    (each_map (λ t. (t.row ≡ n) × (list_any (nat_eq t.feature) (features x.refs) ≡ true)) (λ t. is_mine k h t ≡ false)
    (λ t is. no_first (nat_eq k t.row) _ (differ k n i t.row at is.0)) (turns_of n x.refs) (of_features n x.refs)) in
    let later = tally_from rest (suc n) i k h r is (at ∙ further n i) ok in
    let sum = tally_append (is_mine k h) (turns_of n x.refs) (turns_from (suc n) rest) in
    omega (arith, none, later, sum)
  where
    further : (n i : ℕ) → n + suc i ≡ suc n + i
    further n i = omega arith

    differ : (k n i a : ℕ) → k ≡ n + suc i → a ≡ n → nat_eq k a ≡ false
    differ k n i a is at = grind (arith, nat_tests)
