-- What stands by feature in one vector, as a finite map.
use Rattle.std.proofs.Common.{◌≡◌, ℕ, ◌+◌, suc, Bool, true, false, cond, not, List, [], ◌∷◌, ◌++◌, refl, sym, ap, subst, ◌∙◌, filter, nat_eq, length, arith}
use Rattle.std.specs.Prelude.{Option, None, Some, position, slice_set, slice_index_or, nat_lt}
use Rattle.std.specs.List.{find, position_or_len}
use Rattle.std.specs.Option.{option_map}
use Rattle.std.specs.Map.{lookup}
use Rattle.std.specs.BTreeMap.{is_at}
use Rattle.std.specs.Ordering.{nat_cmp, eq_by_cmp}
use Rattle.std.specs.FinMap.{get, empty, get-empty, get-from_entries}
use Rattle.finite_maps.specs.Maps.{set}
use Rattle.finite_maps.proofs.Cases.{not_so, some_none}
use Rattle.finite_maps.proofs.EqualLaws.{nat_equality}
use Rattle.finite_maps.proofs.MapLaws.{same, same_key, own_key, get-set}
use Rattle.finite_maps.proofs.TableLaws.{find_is}
use Rattle.spread_maps.specs.Spread.{is_bare}
use Rattle.spread_maps.proofs.BareLaws.{not_bare_some, some_not_bare}
use Rattle.model_state.proofs.Orders.{nat_order}
use Rattle.ranked_lists.proofs.Places.{position_some, position_none, index_is}
use Rattle.graph_parts.specs.Parts.{flat}

alike : (b c : Bool) → (b ≡ true → c ≡ true) → (c ≡ true → b ≡ true) → b ≡ c
alike true c to from = sym (to refl)
alike false true to from = from refl
alike false false to from = refl

-- one test by the order and by equality
nat_at : (q k : ℕ) → eq_by_cmp nat_cmp q k ≡ nat_eq k q
nat_at q k = alike (eq_by_cmp nat_cmp q k) (nat_eq k q)
    (λ at. subst (λ z. nat_eq z q ≡ true) (same_key nat_order q k at) (nat_equality.own q))
    (λ eq. subst (λ z. eq_by_cmp nat_cmp q z ≡ true) (sym (nat_equality.exact k q eq)) (own_key nat_order q))

differ : (f q k : ℕ) → nat_eq f q ≡ true → nat_eq k f ≡ false → nat_eq k q ≡ false
differ f q k same other = subst (λ z. nat_eq k z ≡ false) (nat_equality.exact f q same) other

one_more : (n : ℕ) → 1 + n ≡ suc n
one_more n = omega arith

some_length : (n : ℕ) → suc n ≡ 0 → ⊥
some_length n h = cc

module _ {X : Type 0} where
  -- what stands at a feature
  abbrev pub at_feature : List (ℕ × X) → ℕ → Option X
  at_feature [] q = None
  at_feature (e ∷ es) q = cond (nat_eq e.0 q) (Some e.1) (at_feature es q)

  lookup_is : (es : List (ℕ × X)) (q : ℕ) → lookup (is_at (nat_cmp q)) es ≡ at_feature es q
  lookup_is [] q = refl
  lookup_is (e ∷ es) q = ap (λ b. cond b (Some e.1) (lookup (is_at (nat_cmp q)) es)) (nat_at q e.0) ∙ ap (cond (nat_eq e.0 q) (Some e.1)) (lookup_is es q)

  pub get-flat : (es : List (ℕ × X)) (q : ℕ) → get (flat es) q ≡ at_feature es q
  get-flat es q = get-from_entries nat_order.total es q ∙ find_is nat_cmp es q ∙ lookup_is es q

  -- what a search finds
  pub feature_found : (es : List (ℕ × X)) (q : ℕ) → at_feature es q ≡ option_map (λ (e : ℕ × X). e.1) (find (λ (e : ℕ × X). nat_eq e.0 q) es)
  feature_found [] q = refl
  feature_found (e ∷ es) q =
      elim (nat_eq e.0 q) as (λ b.
      cond b (Some e.1) (at_feature es q) ≡ option_map (λ (d : ℕ × X). d.1) (cond b (Some e) (find (λ (d : ℕ × X). nat_eq d.0 q) es))) [
        | true ↦ refl
        | false ↦ feature_found es q
      ]

  pub feature_none : (es : List (ℕ × X)) (q : ℕ) → position (λ (e : ℕ × X). nat_eq e.0 q) es ≡ None → at_feature es q ≡ None
  feature_none es q is = feature_found es q ∙ ap (option_map (λ (e : ℕ × X). e.1)) (position_none (λ (e : ℕ × X). nat_eq e.0 q) es is)

  -- ---- a feature taken out
  abbrev others : ℕ → List (ℕ × X) → List (ℕ × X)
  others f es = filter (λ (e : ℕ × X). not (nat_eq e.0 f)) es

  none : (b : Bool) → ◌≡◌ {A = Option X} None (cond b None None)
  none true = refl
  none false = refl

  gone : (b : Bool) (v : X) (o : Option X) → cond b None o ≡ cond b None (cond b (Some v) o)
  gone true v o = refl
  gone false v o = refl

  at-others : (f q : ℕ) (es : List (ℕ × X)) → at_feature (others f es) q ≡ cond (nat_eq f q) None (at_feature es q)
  at-others f q [] = none (nat_eq f q)
  at-others f q (e ∷ es) =
      elim (nat_eq e.0 f) as (λ b. nat_eq e.0 f ≡ b
      → at_feature (cond (not b) (e ∷ others f es) (others f es)) q ≡ cond (nat_eq f q) None (cond (nat_eq e.0 q) (Some e.1) (at_feature es q))) [
        | true ↦ λ here.
            at-others f q es
            ∙ subst (λ z. cond (nat_eq f q) None (at_feature es q) ≡ cond (nat_eq f q) None (cond (nat_eq z q) (Some e.1) (at_feature es q)))
            (sym (nat_equality.exact e.0 f here)) (gone (nat_eq f q) e.1 (at_feature es q))
        | false ↦ λ other.
            ap (cond (nat_eq e.0 q) (Some e.1)) (at-others f q es)
            ∙ elim (nat_eq f q) as (λ b. nat_eq f q ≡ b
            → cond (nat_eq e.0 q) (Some e.1) (cond b None (at_feature es q)) ≡ cond b None (cond (nat_eq e.0 q) (Some e.1) (at_feature es q))) [
              | true ↦ λ same. ap (λ b. cond b (Some e.1) None) (differ f q e.0 same other)
              | false ↦ λ _. refl
            ] refl
      ] refl

  -- ---- a feature that is new
  swap : (f q : ℕ) (e : ℕ × X) (v : X) (o : Option X) → nat_eq e.0 f ≡ false
      → cond (nat_eq e.0 q) (Some e.1) (cond (nat_eq f q) (Some v) o) ≡ cond (nat_eq f q) (Some v) (cond (nat_eq e.0 q) (Some e.1) o)
  swap f q e v o other =
      elim (nat_eq f q) as (λ b. nat_eq f q ≡ b → cond (nat_eq e.0 q) (Some e.1) (cond b (Some v) o) ≡ cond b (Some v) (cond (nat_eq e.0 q) (Some e.1) o)) [
        | true ↦ λ same. ap (λ b. cond b (Some e.1) (Some v)) (differ f q e.0 same other)
        | false ↦ λ _. refl
      ] refl

  at-more : (es : List (ℕ × X)) (f q : ℕ) (v : X) → at_feature es f ≡ None → at_feature (es ++ (f, v) ∷ []) q ≡ cond (nat_eq f q) (Some v) (at_feature es q)
  at-more [] f q v new = refl
  at-more (e ∷ es) f q v new =
      elim (nat_eq e.0 f) as (λ b. nat_eq e.0 f ≡ b → cond b (Some e.1) (at_feature es f) ≡ None
      → cond (nat_eq e.0 q) (Some e.1) (at_feature (es ++ (f, v) ∷ []) q) ≡ cond (nat_eq f q) (Some v)
      (cond (nat_eq e.0 q) (Some e.1) (at_feature es q))) [
        | true ↦ λ _ new. absurd (some_none (Some e.1) e.1 refl new)
        | false ↦ λ other new. ap (cond (nat_eq e.0 q) (Some e.1)) (at-more es f q v new) ∙ swap f q e v (at_feature es q) other
      ] refl new

  -- ---- a feature that is there
  position_is : (p : ℕ × X → Bool) (es : List (ℕ × X)) (i : ℕ) → position p es ≡ Some i → position_or_len p es ≡ i
  position_is p es i is =
      elim (nat_lt (position_or_len p es) (length es)) as (λ b. cond b (Some (position_or_len p es)) None ≡ Some i → position_or_len p es ≡ i) [
        | true ↦ λ at. cc
        | false ↦ λ at. cc
      ] is

  same_first : (f q : ℕ) (e : ℕ × X) (v : X) (o : Option X) → nat_eq e.0 f ≡ true
      → cond (nat_eq f q) (Some v) o ≡ cond (nat_eq f q) (Some v) (cond (nat_eq e.0 q) (Some e.1) o)
  same_first f q e v o here =
      elim (nat_eq f q) as (λ b. nat_eq f q ≡ b → cond b (Some v) o ≡ cond b (Some v) (cond (nat_eq e.0 q) (Some e.1) o)) [
        | true ↦ λ _. refl
        | false ↦ λ no. ap (λ b. cond b (Some e.1) o) (sym (subst (λ z. nat_eq z q ≡ false) (sym (nat_equality.exact e.0 f here)) no))
      ] refl

  at-set : (es : List (ℕ × X)) (f q : ℕ) (v w : X) → at_feature es f ≡ Some w
      → at_feature (slice_set es (position_or_len (λ (e : ℕ × X). nat_eq e.0 f) es) (f, v)) q ≡ cond (nat_eq f q) (Some v) (at_feature es q)
  at-set [] f q v w some = cc
  at-set (e ∷ es) f q v w some =
      let n = position_or_len (λ (e : ℕ × X). nat_eq e.0 f) es in
      elim (nat_eq e.0 f) as (λ b. nat_eq e.0 f ≡ b → cond b (Some e.1) (at_feature es f) ≡ Some w
      → at_feature (slice_set (e ∷ es) (cond (not b) (1 + n) 0) (f, v)) q ≡ cond (nat_eq f q) (Some v)
      (cond (nat_eq e.0 q) (Some e.1) (at_feature es q))) [
        | true ↦ λ here _. same_first f q e v (at_feature es q) here
        | false ↦ λ other some.
            ap (λ k. at_feature (slice_set (e ∷ es) k (f, v)) q) (one_more n)
            ∙ ap (cond (nat_eq e.0 q) (Some e.1)) (at-set es f q v w some) ∙ swap f q e v (at_feature es q) other
      ] refl some

  -- ---- the writes
  pub flat_set : (f : ℕ) (v : X) (es : List (ℕ × X)) (i : ℕ) → position (λ (e : ℕ × X). nat_eq e.0 f) es ≡ Some i
      → flat (slice_set es i (f, v)) ≡ set (flat es) f (Some v)
  flat_set f v es i is =
      let found = position_some (λ (e : ℕ × X). nat_eq e.0 f) es i is in
      let some : at_feature es f ≡ Some found.0.1 = feature_found es f ∙ ap (option_map (λ (e : ℕ × X). e.1)) found.3 in
      same nat_order _ _ (λ q.
      ap (λ k. get (flat (slice_set es k (f, v))) q) (sym (position_is (λ (e : ℕ × X). nat_eq e.0 f) es i is))
      ∙ get-flat (slice_set es (position_or_len (λ (e : ℕ × X). nat_eq e.0 f) es) (f, v)) q ∙ at-set es f q v found.0.1 some
      ∙ ap (λ b. cond b (Some v) (at_feature es q)) (sym (nat_at q f)) ∙ ap (cond (eq_by_cmp nat_cmp q f) (Some v)) (sym (get-flat es q))
      ∙ sym (get-set nat_order (flat es) f (Some v) q))

  -- what stands at an index, found by its feature
  pub written_at : (f : ℕ) (es : List (ℕ × X)) (i : ℕ) (w : ℕ × X) → w ≡ slice_index_or es i w → position (λ (e : ℕ × X). nat_eq e.0 f) es ≡ Some i
      → (get (flat es) f ≡ Some w.1) × ((v : X) → flat (slice_set es i (w.0, v)) ≡ set (flat es) f (Some v))
  written_at f es i w at is =
      let found = position_some (λ (e : ℕ × X). nat_eq e.0 f) es i is in
      let now : w ≡ found.0 = at ∙ index_is es i w found.0 found.1 in
      let key : w.0 ≡ f = ap (λ (e : ℕ × X). e.0) now ∙ nat_equality.exact found.0.0 f found.2 in (
        get-flat es f ∙ feature_found es f ∙ ap (option_map (λ (e : ℕ × X). e.1)) found.3 ∙ ap (λ (e : ℕ × X). Some e.1) (sym now),
        λ v. ap (λ k. flat (slice_set es i (k, v))) key ∙ flat_set f v es i is,
      )

  pub get_none : (f : ℕ) (es : List (ℕ × X)) → position (λ (e : ℕ × X). nat_eq e.0 f) es ≡ None → get (flat es) f ≡ None
  get_none f es is = get-flat es f ∙ feature_none es f is

  pub flat_put : (f : ℕ) (v : X) (es : List (ℕ × X)) → position (λ (e : ℕ × X). nat_eq e.0 f) es ≡ None → flat (es ++ (f, v) ∷ []) ≡ set (flat es) f (Some v)
  flat_put f v es new = same nat_order _ _ (λ q.
      get-flat (es ++ (f, v) ∷ []) q ∙ at-more es f q v (feature_none es f new)
      ∙ ap (λ b. cond b (Some v) (at_feature es q)) (sym (nat_at q f)) ∙ ap (cond (eq_by_cmp nat_cmp q f) (Some v)) (sym (get-flat es q))
      ∙ sym (get-set nat_order (flat es) f (Some v) q))

  pub flat_drop : (f : ℕ) (es : List (ℕ × X)) → flat (others f es) ≡ set (flat es) f None
  flat_drop f es = same nat_order _ _ (λ q.
      get-flat (others f es) q ∙ at-others f q es
      ∙ ap (λ b. cond b None (at_feature es q)) (sym (nat_at q f)) ∙ ap (cond (eq_by_cmp nat_cmp q f) None) (sym (get-flat es q))
      ∙ sym (get-set nat_order (flat es) f None q))

  pub flat_empty : flat {X = X} [] ≡ empty
  flat_empty = same nat_order (flat []) empty (λ q. get-flat [] q ∙ sym (get-empty nat_cmp q))

  pub flat_bare : (es : List (ℕ × X)) → nat_eq (length es) 0 ≡ is_bare (flat es)
  flat_bare [] =
      elim (is_bare (flat {X = X} [])) as (λ b. is_bare (flat {X = X} []) ≡ b → true ≡ b) [
        | true ↦ λ _. refl
        | false ↦ λ some. let e = not_bare_some nat_order (flat {X = X} []) some in absurd (some_none (get (flat {X = X} []) e.0) e.1 e.2 (get-flat [] e.0))
      ] refl
  flat_bare (e ∷ es) = not_so (nat_eq (length (e ∷ es)) 0) (λ h. some_length (length es) (nat_equality.exact (length (e ∷ es)) 0 h))
      ∙ sym (some_not_bare nat_order (flat (e ∷ es)) e.0 e.1
      (get-flat (e ∷ es) e.0 ∙ ap (λ b. cond b (Some e.1) (at_feature es e.0)) (nat_equality.own e.0)))
