-- The features of an element's rows with a version of a path.
use Rattle.std.proofs.Common.{◌≡◌, ℕ, ◌<◌, Bool, true, false, cond, ◌&&◌, ◌||◌, nat_eq, nat_lt, List, [], ◌∷◌, ◌++◌, map, refl, sym, ◌∙◌, ap, subst}
use Rattle.std.proofs.Common.{arith, append-nil}
use Rattle.std.specs.Prelude.{Option, None, Some, is_some}
use Rattle.std.specs.Borrow.{Bor}
use Rattle.std.specs.List.{filter, list_any}
use Rattle.std.specs.List.Sorted.{IsStrictlySortedBy}
use Rattle.std.specs.Map.{lookup, keys_of}
use Rattle.std.specs.Map.Iter.{deref}
use Rattle.std.specs.Ordering.{nat_cmp}
use Rattle.std.specs.declared.cmp.Ordering.TheVariants.{Less, Equal, Greater}
use Rattle.std.specs.declared.vec.Vec.{Vec}
use Rattle.std.specs.declared.alloc.Global.{Global}
use Rattle.std.specs.BTreeMap as tree
use Rattle.std.specs.BTreeMap.{is_at}
use Rattle.std.proofs.lemmas.List.Elements.{All-from_recursion, All-weaker, filter-append}
use Rattle.std.proofs.lemmas.List.Kept.{IsStrictlySortedBy-filter}
use Rattle.finite_maps.proofs.EqualLaws.{nat_equality}
use Rattle.history_tree.specs.Laws.{Rises}
use Rattle.history_tree.specs.MergeBase.{is_among}
use Rattle.change_index.specs.Table.{Rows, numbers, row}
use Rattle.change_index.proofs.Tests.{nat_at}

-- ---- one feature more
map_push : (xs : List (Bor ℕ)) (x : Bor ℕ) → map deref (xs ++ x ∷ []) ≡ map deref xs ++ x.now ∷ []
map_push [] x = refl
map_push (y ∷ ys) x = ap (λ l. y.now ∷ l) (map_push ys x)

added : (b : Bool) (us : List ℕ) (u : ℕ) → cond b (us ++ u ∷ []) us ≡ us ++ cond b (u ∷ []) []
added true us u = refl
added false us u = sym (append-nil us)

pub picked_more : (p : ℕ → Bool) (xs : List (Bor ℕ)) (x : Bor ℕ) (features : List ℕ) → features ≡ filter p (map deref xs) → (b : Bool) → b ≡ p x.now
    → cond b (features ++ x.now ∷ []) features ≡ filter p (map deref (xs ++ x ∷ []))
picked_more p xs x features so_far b is =
    added b features x.now
    ∙ (λ i. so_far i ++ cond (is i) (x.now ∷ []) [])
    ∙ sym (ap (filter p) (map_push xs x) ∙ filter-append p (map deref xs) (x.now ∷ []))

-- ---- all of them
not_less : (b : Bool) → cond b Equal Greater ≡ Less → ⊥
not_less true is = cc
not_less false is = cc

less_is : (x y : ℕ) → nat_cmp x y ≡ Less → x < y
less_is x y is = by (nat_lt x y) refl
  where
    by : (b : Bool) → nat_lt x y ≡ b → x < y
    by true low = grind (arith, low)
    by false high = absurd (not_less (nat_eq x y) (subst (λ b. cond b Less (cond (nat_eq x y) Equal Greater) ≡ Less) high is))

pub sorted_rises : (ks : List ℕ) → IsStrictlySortedBy nat_cmp ks → Rises ks
unfolding IsStrictlySortedBy
sorted_rises [] is = tt
sorted_rises (k ∷ ks) is =
    (All-weaker (λ y. nat_cmp k y ≡ Less) (λ y. k < y) (less_is k) ks (All-from_recursion (λ y. nat_cmp k y ≡ Less) ks is.0), sorted_rises ks is.1)

pub picked_rises : (p : ℕ → Bool) (ks : List ℕ) → IsStrictlySortedBy nat_cmp ks → Rises (filter p ks)
picked_rises p ks is = sorted_rises (filter p ks) (IsStrictlySortedBy-filter nat_cmp p ks is)

and-false : (b : Bool) → (b && false) ≡ false
and-false true = refl
and-false false = refl

and-true : (b : Bool) → (b && true) ≡ b
and-true true = refl
and-true false = refl

among_picked : (p : ℕ → Bool) (f : ℕ) (ks : List ℕ) → is_among (filter p ks) f ≡ (p f && is_among ks f)
among_picked p f [] = sym (and-false (p f))
among_picked p f (k ∷ ks) = by (nat_eq f k) refl (p k) refl (among_picked p f ks)
  where
    by : (same : Bool) → nat_eq f k ≡ same → (b : Bool) → p k ≡ b → is_among (filter p ks) f ≡ (p f && is_among ks f)
        → is_among (cond b (k ∷ filter p ks) (filter p ks)) f ≡ (p f && (same || is_among ks f))
    by true is true passes more =
        let here : p f ≡ true = ap p (nat_equality.exact f k is) ∙ passes in
        ap (λ b. b || is_among (filter p ks) f) is ∙ sym (ap (λ b. b && true) here)
    by true is false passes more =
        let here : p f ≡ false = ap p (nat_equality.exact f k is) ∙ passes in
        more ∙ ap (λ b. b && is_among ks f) here ∙ sym (ap (λ b. b && true) here)
    by false is true passes more = ap (λ b. b || is_among (filter p ks) f) is ∙ more
    by false is false passes more = more

found_among : (f : ℕ) (es : List (ℕ × Vec ℕ Global)) → is_some (lookup (is_at (nat_cmp f)) es) ≡ is_among (keys_of es) f
found_among f [] = refl
found_among f (e ∷ es) = by (nat_eq f e.0) refl (found_among f es) ∙ refl
  where
    by : (b : Bool) → nat_eq f e.0 ≡ b → is_some (lookup (is_at (nat_cmp f)) es) ≡ is_among (keys_of es) f
        → is_some (cond (is_at (nat_cmp f) e.0) (Some e.1) (lookup (is_at (nat_cmp f)) es)) ≡ (nat_eq f e.0 || is_among (keys_of es) f)
    by true is more = ap (λ b. is_some (cond b (Some e.1) (lookup (is_at (nat_cmp f)) es))) (sym (nat_at f e.0) ∙ is)
        ∙ sym (ap (λ b. b || is_among (keys_of es) f) is)
    by false is more = ap (λ b. is_some (cond b (Some e.1) (lookup (is_at (nat_cmp f)) es))) (sym (nat_at f e.0) ∙ is) ∙ more
        ∙ sym (ap (λ b. b || is_among (keys_of es) f) is)

pub nothing : (us : List ℕ) → list_any (is_among []) us ≡ false
nothing [] = refl
nothing (u ∷ us) = nothing us

-- the features that are picked are those with a version on the path
pub picked_those : (rows : Rows) (path : List ℕ) (f : ℕ)
    → is_among (filter (λ g. list_any (is_among (row rows g)) path) (tree.keys rows)) f ≡ list_any (is_among (row rows f)) path
picked_those rows path f =
    among_picked (λ g. list_any (is_among (row rows g)) path) f (tree.keys rows)
    ∙ ap (λ b. list_any (is_among (row rows f)) path && b) (sym (found_among f rows.entries))
    ∙ by (lookup (is_at (nat_cmp f)) rows.entries)
  where
    by : (o : Option (Vec ℕ Global)) → (list_any (is_among (numbers o)) path && is_some o) ≡ list_any (is_among (numbers o)) path
    by None = and-false _ ∙ sym (nothing path)
    by (Some v) = and-true _
