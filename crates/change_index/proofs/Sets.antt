-- Which pairs are in the set of a version, and in that of a package.
use Rattle.std.proofs.Common.{◌≡◌, ℕ, zero, suc, ◌<◌, ◌≤◌, Bool, true, false, cond, ◌&&◌, ◌||◌, List, [], ◌∷◌, ◌++◌, length, refl, sym, ◌∙◌, ap}
use Rattle.std.proofs.Common.{arith, length-append, inl, inr}
use Rattle.std.specs.Prelude.{Option, None, Some, is_some, slice_get, ◌⊎◌}
use Rattle.std.specs.List.{filter, list_any}
use Rattle.std.specs.Option.{option_map_or}
use Rattle.std.specs.Ordering.{eq_by_cmp, nat_cmp}
use Rattle.std.specs.FinMap.{FinMap, get, keys, contains_key-keys}
use Rattle.std.specs.FinSet.{contains, contains-from_list, same_set}
use Rattle.std.specs.BTreeMap as tree
use Rattle.std.specs.declared.vec.Vec.{Vec}
use Rattle.std.specs.declared.alloc.Global.{Global}
use Rattle.std.proofs.lemmas.List.Folds.{list_any-append}
use Rattle.finite_maps.specs.Nested.{nested, inner_get}
use Rattle.finite_maps.proofs.MapLaws.{same_key}
use Rattle.finite_maps.proofs.NestedLaws.{get-nested}
use Rattle.ecore_meta.specs.Meta.{Meta}
use Rattle.model_state.specs.Keys.{IdBytes, AttrKey, id_cmp, attr_cmp}
use Rattle.model_state.specs.declared.operation.Operation.{Operation}
use Rattle.model_state.proofs.Orders.{id_order, attr_order}
use Rattle.model_laws.specs.Cells.{Cell, OfKind, OfPlace, OfRank, OfAttr, OfRow, OfWhole, About}
use Rattle.footprint.specs.Interference.{op_writes}
use Rattle.history_tree.specs.MergeBase.{is_among}
use Rattle.change_index.specs.Written.{is_of, has_of, wrote, Pairs, pair_of, pairs_of, pairs_all, written}
use Rattle.change_index.specs.Table.{Table, numbers, listed, pairs_at, pairs_below, below}
use Rattle.change_index.specs.Index.{wrote_in}
use Rattle.change_index.proofs.Lists.{among_below}
use Rattle.change_index.proofs.Tests.{pair_at}

-- ---- sets of versions
or-nothing : (b : Bool) → (b || false) ≡ b
or-nothing true = refl
or-nothing false = refl

and-true : (b : Bool) → (b && true) ≡ b
and-true true = refl
and-true false = refl

and-false : (b : Bool) → (b && false) ≡ false
and-false true = refl
and-false false = refl

-- a key is among those that pass where it passes and is among all
any_passing : (p : AttrKey → Bool) (q : AttrKey) (ks : List AttrKey)
    → list_any (eq_by_cmp attr_cmp q) (filter p ks) ≡ (p q && list_any (eq_by_cmp attr_cmp q) ks)
any_passing p q [] = sym (and-false (p q))
any_passing p q (k ∷ ks) = by (eq_by_cmp attr_cmp q k) refl (p k) refl (any_passing p q ks)
  where
    by : (same : Bool) → eq_by_cmp attr_cmp q k ≡ same → (b : Bool) → p k ≡ b
        → list_any (eq_by_cmp attr_cmp q) (filter p ks) ≡ (p q && list_any (eq_by_cmp attr_cmp q) ks)
        → list_any (eq_by_cmp attr_cmp q) (cond b (k ∷ filter p ks) (filter p ks)) ≡ (p q && (same || list_any (eq_by_cmp attr_cmp q) ks))
    by true is true passes more =
        let here : p q ≡ true = ap p (same_key attr_order q k is) ∙ passes in
        ap (λ b. b || list_any (eq_by_cmp attr_cmp q) (filter p ks)) is ∙ sym (ap (λ b. b && true) here)
    by true is false passes more =
        let here : p q ≡ false = ap p (same_key attr_order q k is) ∙ passes in
        more ∙ ap (λ b. b && list_any (eq_by_cmp attr_cmp q) ks) here ∙ sym (ap (λ b. b && true) here)
    by false is true passes more = ap (λ b. b || list_any (eq_by_cmp attr_cmp q) (filter p ks)) is ∙ more
    by false is false passes more = more

there_by : (u : ℕ) (o : Option (Vec ℕ Global)) → (is_among (numbers o) u && is_some o) ≡ is_among (numbers o) u
there_by u None = refl
there_by u (Some v) = and-true (is_among v.items u)

-- a pair is in the set of a version where its list has the version
pub contains-pairs_at : (t : Table) (u : ℕ) (e : IdBytes) (f : ℕ) → contains (pairs_at t u) (e, f) ≡ is_among (listed t e f) u
unfolding pairs_at
contains-pairs_at t u e f =
    let m : FinMap attr_cmp (Vec ℕ Global) = nested id_cmp nat_cmp t in
    let p : AttrKey → Bool = λ k. is_among (listed t k.0 k.1) u in
    let found : get m (e, f) ≡ inner_get (λ rows. tree.get nat_cmp rows f) (tree.get id_cmp t e) = get-nested nat_cmp id_order attr_order t e f in
    contains-from_list attr_order.total (filter p (keys m)) (e, f)
    ∙ any_passing p (e, f) (keys m)
    ∙ ap (λ b. p (e, f) && b) (sym (contains_key-keys m (e, f)))
    ∙ ap (λ o. p (e, f) && is_some o) found
    ∙ there_by u (inner_get (λ rows. tree.get nat_cmp rows f) (tree.get id_cmp t e))

-- sets with the same pairs are one
pub same_pairs : (s t : Pairs) → ((e : IdBytes) (f : ℕ) → contains s (e, f) ≡ contains t (e, f)) → s ≡ t
same_pairs s t is = same_set attr_order.total attr_order.exact s t (λ q. is q.0 q.1)

pub pairs_same : (old new : Table) (v n : ℕ) → n ≤ v → ((e : IdBytes) (f : ℕ) → below v (listed new e f) ≡ below v (listed old e f))
    → pairs_below new n ≡ pairs_below old n
unfolding pairs_below
pairs_same old new v zero low same = refl
pairs_same old new v (suc n) low same =
    let under : n < v = omega (arith, low) in
    let here : pairs_at new n ≡ pairs_at old n = same_pairs _ _ (λ e f.
    contains-pairs_at new n e f
    ∙ sym (among_below v n under (listed new e f)) ∙ ap (λ us. is_among us n) (same e f) ∙ among_below v n under (listed old e f)
    ∙ sym (contains-pairs_at old n e f)) in
    let more : pairs_below new n ≡ pairs_below old n = pairs_same old new v n (omega (arith, low)) same in
    λ i. more i ++ here i ∷ []

pub length-pairs_below : (t : Table) (n : ℕ) → length (pairs_below t n) ≡ n
unfolding pairs_below
length-pairs_below t zero = refl
length-pairs_below t (suc n) = omega (arith, length-append (pairs_below t n) (pairs_at t n ∷ []), length-pairs_below t n)

module _ {X : Type 0} where
  pub get_before : (xs ys : List X) (k : ℕ) → k < length xs → slice_get (xs ++ ys) k ≡ slice_get xs k
  get_before [] ys k within = absurd (omega (arith, within))
  get_before (x ∷ xs) ys zero within = refl
  get_before (x ∷ xs) ys (suc k) within = get_before xs ys k (omega (arith, within))

  pub get_end : (xs : List X) (y : X) (k : ℕ) → k ≡ length xs → slice_get (xs ++ y ∷ []) k ≡ Some y
  get_end [] y zero is = refl
  get_end [] y (suc k) is = absurd (omega (arith, is))
  get_end (x ∷ xs) y zero is = absurd (omega (arith, is))
  get_end (x ∷ xs) y (suc k) is = get_end xs y k (omega (arith, is))

earlier : (u n : ℕ) → u < suc n → (u < n) ⊎ (u ≡ n)
earlier u n low = grind (arith, low)

get-pairs_below : (t : Table) (n u : ℕ) → u < n → slice_get (pairs_below t n) u ≡ Some (pairs_at t u)
unfolding pairs_below
get-pairs_below t zero u low = absurd (omega (arith, low))
get-pairs_below t (suc n) u low = elim (earlier u n low) [
  | inl under ↦ get_before (pairs_below t n) (pairs_at t n ∷ []) u (omega (arith, under, length-pairs_below t n)) ∙ get-pairs_below t n u under
  | inr last ↦ get_end (pairs_below t n) (pairs_at t n) u (omega (arith, last, length-pairs_below t n)) ∙ ap (λ k. Some (pairs_at t k)) (sym last)
]

-- what the index says of a version is what the list of the feature does
pub wrote_in-listed : (t : Table) (n u : ℕ) → u < n → (e : IdBytes) (f : ℕ) → wrote_in (pairs_below t n) e f u ≡ is_among (listed t e f) u
wrote_in-listed t n u low e f = ap (λ o. option_map_or (λ pairs. contains pairs (e, f)) o false) (get-pairs_below t n u low) ∙ contains-pairs_at t u e f

-- ---- sets of packages
any_of_cell : (e : IdBytes) (f : ℕ) (c : Cell) → list_any (eq_by_cmp attr_cmp (e, f)) (pair_of c) ≡ is_of e f c
any_of_cell e f (OfKind a) = refl
any_of_cell e f (OfPlace a) = refl
any_of_cell e f (OfRank a) = refl
any_of_cell e f (OfAttr a g) = or-nothing _ ∙ pair_at a e g f
any_of_cell e f (OfRow a g b) = or-nothing _ ∙ pair_at a e g f
any_of_cell e f (OfWhole a g) = or-nothing _ ∙ pair_at a e g f
any_of_cell e f (About a) = refl

any_of_cells : (e : IdBytes) (f : ℕ) (cs : List Cell) → list_any (eq_by_cmp attr_cmp (e, f)) (pairs_of cs) ≡ has_of e f cs
any_of_cells e f [] = refl
any_of_cells e f (c ∷ cs) = list_any-append (eq_by_cmp attr_cmp (e, f)) (pair_of c) (pairs_of cs) ∙ (λ i. any_of_cell e f c i || any_of_cells e f cs i)

any_of_all : (meta : Meta) (e : IdBytes) (f : ℕ) (ops : List Operation) → list_any (eq_by_cmp attr_cmp (e, f)) (pairs_all meta ops) ≡ wrote meta ops e f
any_of_all meta e f [] = refl
any_of_all meta e f (o ∷ ops) =
    list_any-append (eq_by_cmp attr_cmp (e, f)) (pairs_of (op_writes meta o)) (pairs_all meta ops)
    ∙ (λ i. any_of_cells e f (op_writes meta o) i || any_of_all meta e f ops i)

-- a pair is in the set of a package where the package wrote it
pub contains-written : (meta : Meta) (ops : List Operation) (e : IdBytes) (f : ℕ) → contains (written meta ops) (e, f) ≡ wrote meta ops e f
unfolding written
contains-written meta ops e f = contains-from_list attr_order.total (pairs_all meta ops) (e, f) ∙ any_of_all meta e f ops
