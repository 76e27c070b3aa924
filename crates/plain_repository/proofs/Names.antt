-- The names of branches and of tags differ, and each is found by its own.
use Rattle.std.proofs.Common.{◌≡◌, ◌⊎◌, inl, inr, ℕ, zero, suc, ◌<◌, ◌≤◌, List, [], ◌∷◌, ◌++◌, length, length-append, get_or, nat_lt, nat_eq, Bool}
use Rattle.std.proofs.Common.{true, false, Option, None, Some, is_some, cond, refl, sym, ap, ◌∙◌, subst, arith}
use Rattle.std.specs.Prelude.{slice_get, not}
use Rattle.std.specs.List.{find, list_any, position, position_or_len}
use Rattle.std.specs.Option.{option_map_or}
use Rattle.std.specs.Cmp.Lexicographic.{pointwise}
use Rattle.std.proofs.lemmas.Bool.{lt-ltb, or_parts}
use Rattle.std.proofs.lemmas.List.{get_or_append_left}
use Rattle.std.proofs.lemmas.List.Folds.{find_at}
use Rattle.std.proofs.lemmas.List.Sums.{position_or_len_is, fails_before_first}
use Rattle.std.proofs.lemmas.List.Quantifiers.{position-Some}
use Rattle.std.proofs.lemmas.Option.{slice_get_cases, same_Some}
use Rattle.model_state.specs.Names.{is_name}
use Rattle.history_tree.specs.declared.version.Branch.{Branch}
use Rattle.history_tree.specs.declared.version.Tag.{Tag}
use Rattle.history_tree.specs.declared.version.Version.{Version}
use Rattle.history_tree.specs.History.{History, first_history, with_version, with_branch, with_tag}
use Rattle.history_tree.specs.Found.{is_branch_named, is_tag_named, branch_named, branch_name, tag_named, has_tag}
use Rattle.plain_repository.specs.Commits.{is_new_branch}
use Rattle.plain_repository.specs.Orderly.{has_that_name, AreNamed, HasNames}

-- ---- lists with one more
-- an item of a list with one more after it
pub split_last : {X : Type 0} (xs : List X) (y : X) (k : ℕ) (x : X) → slice_get (xs ++ y ∷ []) k ≡ Some x
    → (slice_get xs k ≡ Some x) ⊎ ((k ≡ length xs) × (y ≡ x))
split_last [] y zero x is = inr (refl, cc)
split_last [] y (suc k) x is = absurd cc
split_last (z ∷ xs) y zero x is = inl is
split_last (z ∷ xs) y (suc k) x is =
    elim (split_last xs y k x is) [
      | inl h ↦ inl h
      | inr h ↦ inr (ap suc h.0, h.1)
    ]

found_more : {X : Type 0} (p : X → Bool) (xs ys : List X) (i : ℕ) (d : X) → position p xs ≡ Some i → position p (xs ++ ys) ≡ Some i
found_more p xs ys i d is =
    let k = position-Some p xs i d is in
    let size = length-append xs ys in
    let at : position_or_len p (xs ++ ys) ≡ i = position_or_len_is p (xs ++ ys) i d (omega (arith, k.0, size))
    (λ j lt. ap p (get_or_append_left xs ys d j (omega (arith, lt, k.0))) ∙ k.2 j lt)
    (λ _. ap p (get_or_append_left xs ys d i k.0) ∙ k.1) in
    let within : nat_lt i (length (xs ++ ys)) ≡ true = lt-ltb _ _ (omega (arith, k.0, size)) in
    rw (at, within) refl

past_all : (n m : ℕ) → cond (nat_lt n m) (Some n) None ≡ None → m ≤ n
past_all n m is = by (nat_lt n m) refl is
  where
    by : (b : Bool) → nat_lt n m ≡ b → cond b (Some n) None ≡ None → m ≤ n
    by true t is = absurd cc
    by false t is = grind (arith, t)

found_last : {X : Type 0} (p : X → Bool) (xs : List X) (y : X) → position p xs ≡ None → p y ≡ true → position p (xs ++ y ∷ []) ≡ Some (length xs)
found_last p xs y none is =
    let all = past_all (position_or_len p xs) (length xs) none in
    let size = length-append xs (y ∷ []) in
    let at : position_or_len p (xs ++ y ∷ []) ≡ length xs = position_or_len_is p (xs ++ y ∷ []) (length xs) y (omega (arith, size))
    (λ j lt. ap p (get_or_append_left xs (y ∷ []) y j lt) ∙ fails_before_first p xs j y (omega (arith, lt, all)))
    (λ _. ap p (last_is xs y) ∙ is) in
    let within : nat_lt (length xs) (length (xs ++ y ∷ [])) ≡ true = lt-ltb _ _ (omega (arith, size)) in
    rw (at, within) refl
  where
    last_is : {X : Type 0} (xs : List X) (y : X) → get_or (xs ++ y ∷ []) (length xs) y ≡ y
    last_is [] y = refl
    last_is (x ∷ xs) y = last_is xs y

-- where no item passes a test, none is found by it
none_passes : {X : Type 0} (p : X → Bool) (xs : List X) → list_any p xs ≡ false → position_or_len p xs ≡ length xs
none_passes p [] none = refl
none_passes p (x ∷ xs) none = let parts = or_parts (p x) (list_any p xs) none in rw (parts.0, none_passes p xs parts.1) (omega arith)

none_found : {X : Type 0} (p : X → Bool) (xs : List X) → list_any p xs ≡ false → position p xs ≡ None
none_found p xs none = let past : nat_lt (length xs) (length xs) ≡ false = grind arith in rw (none_passes p xs none, past) refl

-- the item at the first place that passes a test is found by it
pub first_found : {X : Type 0} (p : X → Bool) (xs : List X) (k : ℕ) (x : X) → position p xs ≡ Some k → slice_get xs k ≡ Some x → find p xs ≡ Some x
first_found p xs k x first at =
    let place : position_or_len p xs ≡ k = found_at (nat_lt (position_or_len p xs) (length xs)) (position_or_len p xs) first in
    find_at p xs ∙ ap (slice_get xs) place ∙ at
  where
    found_at : (b : Bool) (n : ℕ) → cond b (Some n) None ≡ Some k → n ≡ k
    found_at true n is = cc
    found_at false n is = absurd cc

same : (text : List ℕ) → pointwise nat_eq text text ≡ true
same [] = refl
same (b ∷ text) = let e : nat_eq b b ≡ true = grind arith in rw (e, same text) refl

-- ---- names
-- a further item whose name is new
named_more : {X : Type 0} (name : X → List ℕ) (xs : List X) (y : X) → AreNamed name xs → is_name (name y) ≡ true
    → position (has_that_name name (name y)) xs ≡ None → AreNamed name (xs ++ y ∷ [])
named_more {X} name xs y named is new k x at =
    elim (split_last xs y k x at) [
      | inl old ↦ ((named k x old).0, found_more (has_that_name name (name x)) xs (y ∷ []) k x (named k x old).1)
      | inr last ↦
          subst (λ (z : X). (is_name (name z) ≡ true) × (position (has_that_name name (name z)) (xs ++ y ∷ []) ≡ Some k)) last.1
          (is, found_last (has_that_name name (name y)) xs y new (same (name y)) ∙ ap (λ (n : ℕ). Some n) (sym last.0))
    ]

pub first_names : HasNames first_history
first_names = record { branches = only; tags = λ k x at. absurd cc }
  where
    only : AreNamed (λ (b : Branch). b.name) first_history.branches
    only zero x at =
        subst (λ (b : Branch). (is_name b.name ≡ true) × (position (has_that_name (λ (b : Branch). b.name) b.name) first_history.branches ≡ Some 0))
        (same_Some _ x at) (refl, refl)
    only (suc k) x at = absurd cc

pub version_names : (h : History) (version : Version) → HasNames h → HasNames (with_version h version)
version_names h version named = record { branches = named.branches; tags = named.tags }

not_there : (o : Option ℕ) → not (is_some o) ≡ true → o ≡ None
not_there None is = refl
not_there (Some n) is = absurd cc

pub branch_names : (h : History) (name : List ℕ) (start : ℕ) → HasNames h → is_name name ≡ true → is_new_branch h name ≡ true
    → HasNames (with_branch h name start)
branch_names h name start named is new =
    let more : Branch = record { name = name; start = start } in
    record { branches = named_more (λ (b : Branch). b.name) h.branches more named.branches is (not_there (branch_named h name) new); tags = named.tags }

pub tag_names : (h : History) (name : List ℕ) (version : ℕ) → HasNames h → is_name name ≡ true → has_tag h name ≡ false → HasNames (with_tag h name version)
tag_names h name version named is new =
    let more : Tag = record { name = name; version = version } in
    record { branches = named.branches; tags = named_more (λ (t : Tag). t.name) h.tags more named.tags is (none_found (is_tag_named name) h.tags new) }

-- a branch that is there has a name, and is found by it
abbrev name_in : Option Branch → List ℕ
name_in o = option_map_or (λ b. b.name) o []

pub branch_found : (h : History) → HasNames h → (branch : ℕ) → branch < length h.branches
    → (is_name (branch_name h branch) ≡ true) × (branch_named h (branch_name h branch) ≡ Some branch)
branch_found h named branch within =
    elim (slice_get_cases h.branches branch).1 [
      | inl found ↦
          subst (λ (o : Option Branch). (is_name (name_in o) ≡ true) × (branch_named h (name_in o) ≡ Some branch)) (sym found.2)
          (named.branches branch found.0 found.2)
      | inr past ↦ absurd (omega (arith, within, past.0))
    ]

last_there : {X : Type 0} (xs : List X) (y : X) → slice_get (xs ++ y ∷ []) (length xs) ≡ Some y
last_there [] y = refl
last_there (x ∷ xs) y = last_there xs y

-- a new branch is found by its name, and so is a new tag
pub new_branch_found : (h : History) (name : List ℕ) (start : ℕ) → is_new_branch h name ≡ true
    → branch_named (with_branch h name start) name ≡ Some (length h.branches)
new_branch_found h name start new =
    found_last (is_branch_named name) h.branches (record { name = name; start = start }) (not_there (branch_named h name) new) (same name)

pub new_tag_found : (h : History) (name : List ℕ) (version : ℕ) → has_tag h name ≡ false
    → tag_named (with_tag h name version) name ≡ Some (record { name = name; version = version })
new_tag_found h name version new =
    let more : Tag = record { name = name; version = version } in
    let first = found_last (is_tag_named name) h.tags more (none_found (is_tag_named name) h.tags new) (same name) in
    first_found (is_tag_named name) (h.tags ++ more ∷ []) (length h.tags) more first (last_there h.tags more)
