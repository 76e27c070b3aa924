-- What the table answers, and how it changes.
use Rattle.std.proofs.Common.{◌≡◌, ◌≢◌, ℕ, Bool, true, false, cond, List, [], ◌∷◌, map, refl, sym, ap, subst, ◌∙◌, ◌||◌, rules}
use Rattle.std.specs.Prelude.{Option, None, Some, IsSome}
use Rattle.std.specs.Option.{option_map}
use Rattle.std.specs.List.{list_any}
use Rattle.std.specs.Map.{lookup}
use Rattle.std.specs.Ordering.{eq_by_cmp}
use Rattle.std.specs.Cmp.Lexicographic.{texts_ties, nat_list_eq_equiv}
use Rattle.std.specs.FinMap.{get}
use Rattle.slab.specs.Slab as slab
use Rattle.slab.specs.Slab.{Slab}
use Rattle.slab.proofs.SlabLemmas.{Updates-with_value}
use Rattle.finite_maps.specs.Equal.{text_eq}
use Rattle.finite_maps.specs.Maps.{set}
use Rattle.finite_maps.proofs.EqualLaws.{text_equality}
use Rattle.finite_maps.proofs.MapLaws.{same, get-set}
use Rattle.spread_maps.proofs.TabulateLaws.{get-tabulate}
use Rattle.model_state.specs.Keys.{IdBytes, id_cmp}
use Rattle.model_state.proofs.Orders.{id_order}
use Rattle.nodes.specs.Tied.{in_slot, node_at, IsTied, table}

some_none : {A : Type 0} (x : A) → None ≡ Some x → ⊥
some_none x h = cc

not_listed : {T : Type 0} (es : List (IdBytes × T)) (q : IdBytes) → list_any (eq_by_cmp id_cmp q) (map {B = IdBytes} (λ e. e.0) es) ≡ false
    → lookup (text_eq q) es ≡ None
not_listed [] q h = refl
not_listed (e ∷ es) q h =
    elim (eq_by_cmp id_cmp q e.0) as (λ b. eq_by_cmp id_cmp q e.0 ≡ b → (b || list_any (eq_by_cmp id_cmp q) (map {B = IdBytes} (λ e. e.0) es)) ≡ false
    → cond (text_eq q e.0) (Some e.1) (lookup (text_eq q) es) ≡ None) [
      | true ↦ λ is no. absurd (clash no)
      | false ↦ λ is rest. ap (λ b. cond b (Some e.1) (lookup (text_eq q) es)) (texts_ties q e.0 ∙ is) ∙ not_listed es q rest
    ] refl h
  where
    clash : true ≡ false → ⊥
    clash h = cc

module _ {T : Type 0} where
  pub get-table : (es : List (IdBytes × ℕ)) (s : Slab (IdBytes × T)) (q : IdBytes) → get (table es s) q ≡ node_at es s q
  get-table es s q = get-tabulate id_order (node_at es s) (map {B = IdBytes} (λ e. e.0) es) (λ q none. ap (in_slot s) (not_listed es q none)) q

  -- a table whose answers change at one id is the table after a write
  pub table_updates : (es fs : List (IdBytes × ℕ)) (s t : Slab (IdBytes × T)) (k : IdBytes) (w : Option T)
      → ((q : IdBytes) → node_at fs t q ≡ cond (text_eq q k) w (node_at es s q)) → table fs t ≡ set (table es s) k w
  table_updates es fs s t k w h = same id_order _ _ (λ q.
      get-table fs t q ∙ h q ∙ ap (λ b. cond b w (node_at es s q)) (texts_ties q k)
      ∙ ap (cond (eq_by_cmp id_cmp q k) w) (sym (get-table es s q)) ∙ sym (get-set id_order (table es s) k w q))

  pub table_alike : (es fs : List (IdBytes × ℕ)) (s t : Slab (IdBytes × T)) → ((q : IdBytes) → node_at fs t q ≡ node_at es s q) → table fs t ≡ table es s
  table_alike es fs s t h = same id_order _ _ (λ q. get-table fs t q ∙ h q ∙ sym (get-table es s q))

  -- an id that is in the table has a node
  pub in_table : (es : List (IdBytes × ℕ)) (s : Slab (IdBytes × T)) → IsTied es s → (e : IdBytes) (at : ℕ) → lookup (text_eq e) es ≡ Some at
      → (x : T) × (slab.get s at ≡ Some (e, x)) × (node_at es s e ≡ Some x)
  in_table es s tied e at is = let p = tied e at is in (p.0, p.1, ap (in_slot s) is ∙ ap (option_map (λ x. x.1)) p.1)

  -- an id without a node is not in the table
  pub absent : (es : List (IdBytes × ℕ)) (s : Slab (IdBytes × T)) → IsTied es s → (e : IdBytes) → node_at es s e ≡ None → lookup (text_eq e) es ≡ None
  absent es s tied e none =
      elim (lookup (text_eq e) es) as (λ o. lookup (text_eq e) es ≡ o → o ≡ None) [
        | None ↦ λ is. refl
        | Some at ↦ λ is. let p = in_table es s tied e at is in absurd (some_none p.0 (sym none ∙ p.2))
      ] refl

  -- two ids have not one slot
  pub apart : (es : List (IdBytes × ℕ)) (s : Slab (IdBytes × T)) → IsTied es s → (e q : IdBytes) (at : ℕ) → lookup (text_eq e) es ≡ Some at
      → lookup (text_eq q) es ≡ Some at → q ≡ e
  apart es s tied e q at is that = let p = tied e at is in let r = tied q at that in one_id (e, p.0) (q, r.0) (sym p.1 ∙ r.1)
    where
      one_id : (x y : IdBytes × T) → Some x ≡ Some y → y.0 ≡ x.0
      one_id x y h = cc

  -- what is found where the table answers so
  pub found : (es : List (IdBytes × ℕ)) (s : Slab (IdBytes × T)) (q : IdBytes) (o : Option ℕ) → lookup (text_eq q) es ≡ o → get (table es s) q ≡ in_slot s o
  found es s q o is = get-table es s q ∙ ap (in_slot s) is

  -- an id with a node leads to a slot
  pub present : (es : List (IdBytes × ℕ)) (s : Slab (IdBytes × T)) → IsTied es s → (q : IdBytes) → IsSome (get (table es s) q)
      → lookup (text_eq q) es ≡ None → ⊥
  present es s tied q some is = no_node (get (table es s) q) some (found es s q None is)
    where
      no_node : (o : Option T) → IsSome o → o ≡ None → ⊥
      no_node None h e = search rules
      no_node (Some x) h e = some_none x (sym e)

own_key : (k : IdBytes) → text_eq k k ≡ true
own_key k = text_equality.own k

other_key : (q k : IdBytes) → text_eq q k ≡ false → q ≡ k → ⊥
other_key q k h e = no_both (text_eq k k) (own_key k) (subst (λ x. text_eq x k ≡ false) e h)
  where
    no_both : (b : Bool) → b ≡ true → b ≡ false → ⊥
    no_both b h g = cc

-- a table that changes at one id alone
module _ {T : Type 0} (es fs : List (IdBytes × ℕ)) (s t : Slab (IdBytes × T)) (k : IdBytes) (w : Option T)
    (tied : IsTied es s)
    (ids : (q : IdBytes) → text_eq q k ≡ false → lookup (text_eq q) fs ≡ lookup (text_eq q) es)
    (own : (at : ℕ) → lookup (text_eq k) fs ≡ Some at → (x : T) × (slab.get t at ≡ Some (k, x)))
    (now : node_at fs t k ≡ w)
    (others : (q : IdBytes) (at : ℕ) → text_eq q k ≡ false → lookup (text_eq q) es ≡ Some at → slab.get t at ≡ slab.get s at) where
  pub changed : table fs t ≡ set (table es s) k w
  changed = table_updates es fs s t k w (λ q.
      elim (text_eq q k) as (λ b. text_eq q k ≡ b → node_at fs t q ≡ cond b w (node_at es s q)) [
        | true ↦ λ same. subst (λ x. node_at fs t x ≡ w) (sym (text_equality.exact q k same)) now
        | false ↦ λ differ. ap (in_slot t) (ids q differ) ∙ elim (lookup (text_eq q) es) as (λ o. lookup (text_eq q) es ≡ o → in_slot t o ≡ in_slot s o) [
          | None ↦ λ _. refl
          | Some at ↦ λ there. ap (option_map (λ x. x.1)) (others q at differ there)
        ] refl
      ] refl)

  pub still_tied : IsTied fs t
  still_tied e at there =
      elim (text_eq e k) as (λ b. text_eq e k ≡ b → (x : T) × (slab.get t at ≡ Some (e, x))) [
        | true ↦ λ same. subst (λ x. lookup (text_eq x) fs ≡ Some at → (y : T) × (slab.get t at ≡ Some (x, y))) (sym (text_equality.exact e k same))
            (own at) there
        | false ↦ λ differ.
            let old : lookup (text_eq e) es ≡ Some at = sym (ids e differ) ∙ there in
            let p = tied e at old in
            (p.0, others e at differ old ∙ p.1)
      ] refl

one_number : (a b : ℕ) → Some a ≡ Some b → a ≡ b
one_number a b h = cc

one_value : {A : Type 0} (x y : A) → Some x ≡ Some y → x ≡ y
one_value x y h = cc

pub contains : {A : Type 0} (o : Option A) (x : A) → o ≡ Some x → IsSome o
contains o x h = search (rules, h)

first_of : {A B : Type 0} (x y : A × B) → Some x ≡ Some y → x.0 ≡ y.0
first_of x y h = ap (λ p. p.0) (one_value x y h)

module _ {T : Type 0} (es : List (IdBytes × ℕ)) (s : Slab (IdBytes × T)) (k : IdBytes) (tied : IsTied es s) where
  -- the other ids lead to other slots
  other_slot : (at : ℕ) → lookup (text_eq k) es ≡ Some at → (q : IdBytes) (i : ℕ) → text_eq q k ≡ false → lookup (text_eq q) es ≡ Some i → i ≢ at
  other_slot at is q i differ there one = other_key q k differ (apart es s tied k q at is (there ∙ ap Some one))

  -- another value in the slot of an id
  module _ (at : ℕ) (slot : IdBytes × T) (w : T) (is : lookup (text_eq k) es ≡ Some at) (holds : slab.get s at ≡ Some slot) where
    abbrev after : Slab (IdBytes × T)
    after = slab.with_value s at (slot.0, w)

    step : slab.Updates s after at (Some (slot.0, w))
    step = Updates-with_value s at (slot.0, w) (contains (slab.get s at) slot holds)

    here : slab.get after at ≡ Some (k, w)
    here = let p = tied k at is in step.changed ∙ ap (λ x. Some (x, w)) (first_of slot (k, p.0) (sym holds ∙ p.1))

    leads_here : (i : ℕ) → lookup (text_eq k) es ≡ Some i → (x : T) × (slab.get after i ≡ Some (k, x))
    leads_here i there = (w, subst (λ x. slab.get after x ≡ Some (k, w)) (one_number at i (sym is ∙ there)) here)

    leads_else : (q : IdBytes) (i : ℕ) → text_eq q k ≡ false → lookup (text_eq q) es ≡ Some i → slab.get after i ≡ slab.get s i
    leads_else q i d there = step.others i (other_slot at is q i d there)

    pub written : table es after ≡ set (table es s) k (Some w)
    written = changed es es s after k (Some w) tied (λ q d. refl) leads_here (ap (in_slot after) is ∙ ap (option_map (λ x. x.1)) here) leads_else

    pub written_tied : IsTied es after
    written_tied = still_tied es es s after k (Some w) tied (λ q d. refl) leads_here (ap (in_slot after) is ∙ ap (option_map (λ x. x.1)) here) leads_else

  -- an id that is new
  module _ (fs : List (IdBytes × ℕ)) (t : Slab (IdBytes × T)) (at : ℕ) (node : T)
      (free : slab.get s at ≡ None)
      (ids : (q : IdBytes) → lookup (text_eq q) fs ≡ cond (text_eq k q) (Some at) (lookup (text_eq q) es))
      (here : slab.get t at ≡ Some (k, node)) (others : (i : ℕ) → i ≢ at → slab.get t i ≡ slab.get s i) where
    other_ids : (q : IdBytes) → text_eq q k ≡ false → lookup (text_eq q) fs ≡ lookup (text_eq q) es
    other_ids q d = ids q ∙ ap (λ b. cond b (Some at) (lookup (text_eq q) es)) (nat_list_eq_equiv.symm k q ∙ d)

    own_id : lookup (text_eq k) fs ≡ Some at
    own_id = ids k ∙ ap (λ b. cond b (Some at) (lookup (text_eq k) es)) (own_key k)

    own_slot : (i : ℕ) → lookup (text_eq k) fs ≡ Some i → (x : T) × (slab.get t i ≡ Some (k, x))
    own_slot i there = (node, subst (λ x. slab.get t x ≡ Some (k, node)) (one_number at i (sym own_id ∙ there)) here)

    other_slots : (q : IdBytes) (i : ℕ) → text_eq q k ≡ false → lookup (text_eq q) es ≡ Some i → slab.get t i ≡ slab.get s i
    other_slots q i d there = others i (λ one. let p = tied q i there in some_none (q, p.0) (sym free ∙ ap (slab.get s) (sym one) ∙ p.1))

    pub added : table fs t ≡ set (table es s) k (Some node)
    added = changed es fs s t k (Some node) tied other_ids own_slot (ap (in_slot t) own_id ∙ ap (option_map (λ x. x.1)) here) other_slots

    pub added_tied : IsTied fs t
    added_tied = still_tied es fs s t k (Some node) tied other_ids own_slot (ap (in_slot t) own_id ∙ ap (option_map (λ x. x.1)) here) other_slots

  -- an id taken out
  module _ (fs : List (IdBytes × ℕ)) (t : Slab (IdBytes × T)) (at : ℕ)
      (is : lookup (text_eq k) es ≡ Some at)
      (ids : (q : IdBytes) → lookup (text_eq q) fs ≡ cond (text_eq k q) None (lookup (text_eq q) es))
      (others : (i : ℕ) → i ≢ at → slab.get t i ≡ slab.get s i) where
    kept_ids : (q : IdBytes) → text_eq q k ≡ false → lookup (text_eq q) fs ≡ lookup (text_eq q) es
    kept_ids q d = ids q ∙ ap (λ b. cond b None (lookup (text_eq q) es)) (nat_list_eq_equiv.symm k q ∙ d)

    no_id : lookup (text_eq k) fs ≡ None
    no_id = ids k ∙ ap (λ b. cond b None (lookup (text_eq k) es)) (own_key k)

    pub removed : table fs t ≡ set (table es s) k None
    removed = changed es fs s t k None tied kept_ids (λ i there. absurd (some_none i (sym no_id ∙ there))) (ap (in_slot t) no_id)
        (λ q i d there. others i (other_slot at is q i d there))

    pub removed_tied : IsTied fs t
    removed_tied = still_tied es fs s t k None tied kept_ids (λ i there. absurd (some_none i (sym no_id ∙ there))) (ap (in_slot t) no_id)
        (λ q i d there. others i (other_slot at is q i d there))
