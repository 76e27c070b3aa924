-- Elements that are copied one by one.
use Rattle.std.proofs.Common.{◌≡◌, Bool, true, false, cond, List, [], ◌∷◌, ◌++◌, refl, sym, ap, ◌∙◌, ◌||◌}
use Rattle.std.proofs.lemmas.List.Folds.{list_any-append}
use Rattle.std.proofs.Common.{Bor}
use Rattle.std.specs.Option.{option_copied}
use Rattle.std.specs.Prelude.{Option, None, Some, is_some}
use Rattle.std.specs.List.{list_any}
use Rattle.std.specs.Ordering.{eq_by_cmp}
use Rattle.std.specs.FinMap.{get, keys, contains_key-keys}
use Rattle.finite_maps.specs.Maps.{set}
use Rattle.finite_maps.proofs.MapLaws.{by_key, own_key, get-set, same}
use Rattle.spread_maps.proofs.SpreadLaws.{none_of}
use Rattle.model_state.specs.Keys.{IdBytes, id_cmp}
use Rattle.model_state.proofs.Orders.{id_order}
use Rattle.graph_parts.specs.declared.element.Node.{Node}
use Rattle.model_graph.specs.Seen.{Elements, either_node}

-- nothing is copied where the first has it, or the second has not
pub copy_stays : (c n : Elements) (x : IdBytes) → get c x ≡ either_node (get c x) (get n x) → (q : IdBytes)
    → get c q ≡ cond (eq_by_cmp id_cmp q x) (either_node (get c q) (get n q)) (get c q)
copy_stays c n x h q =
    by_key id_order (λ q. get c q ≡ cond (eq_by_cmp id_cmp q x) (either_node (get c q) (get n q)) (get c q)) x q
    (h ∙ sym (ap (λ b. cond b (either_node (get c x) (get n x)) (get c x)) (own_key id_order x)))
    (λ apart. sym (ap (λ b. cond b (either_node (get c q) (get n q)) (get c q)) apart))

pub has_own : (o p : Option Node) → is_some o ≡ true → o ≡ either_node o p
has_own None p h = cc
has_own (Some k) p h = refl

pub has_none : (o p : Option Node) → o ≡ None → p ≡ None → o ≡ either_node o p
has_none o p h g = h ∙ sym g ∙ sym (ap (λ o. either_node o p) h)

-- the node is copied
pub copy_put : (c n c' : Elements) (x : IdBytes) (k : Node) → get c x ≡ None → get n x ≡ Some k → c' ≡ set c x (Some k) → (q : IdBytes)
    → get c' q ≡ cond (eq_by_cmp id_cmp q x) (either_node (get c q) (get n q)) (get c q)
copy_put c n c' x k none is now q =
    ap (λ m. get m q) now ∙ get-set id_order c x (Some k) q
    ∙ by_key id_order (λ q. cond (eq_by_cmp id_cmp q x) (Some k) (get c q) ≡ cond (eq_by_cmp id_cmp q x) (either_node (get c q) (get n q)) (get c q)) x q
    (ap (λ o. cond (eq_by_cmp id_cmp x x) o (get c x)) (sym (ap (λ o. either_node o (get n x)) none ∙ is)))
    (λ apart. ap (λ b. cond b (Some k) (get c q)) apart ∙ sym (ap (λ b. cond b (either_node (get c q) (get n q)) (get c q)) apart))

one_more : (a b : Bool) (y : Option Node) → cond b (either_node (cond a y None) y) (cond a y None) ≡ cond (a || (b || false)) y None
one_more true true None = refl
one_more true true (Some k) = refl
one_more true false y = refl
one_more false true y = refl
one_more false false y = refl

-- one id more
pub copied_more : (n : Elements) (ids : List IdBytes) (x : IdBytes) (c c' : Elements)
    → ((q : IdBytes) → get c q ≡ cond (list_any (eq_by_cmp id_cmp q) ids) (get n q) None)
    → ((q : IdBytes) → get c' q ≡ cond (eq_by_cmp id_cmp q x) (either_node (get c q) (get n q)) (get c q)) → (q : IdBytes)
    → get c' q ≡ cond (list_any (eq_by_cmp id_cmp q) (ids ++ x ∷ [])) (get n q) None
copied_more n ids x c c' was now q =
    now q ∙ ap (λ o. cond (eq_by_cmp id_cmp q x) (either_node o (get n q)) o) (was q)
    ∙ one_more (list_any (eq_by_cmp id_cmp q) ids) (eq_by_cmp id_cmp q x) (get n q)
    ∙ ap (λ b. cond b (get n q) None) (sym (list_any-append (eq_by_cmp id_cmp q) ids (x ∷ [])))

-- all ids
pub copied_all : (n c : Elements) → ((q : IdBytes) → get c q ≡ cond (list_any (eq_by_cmp id_cmp q) (keys n)) (get n q) None) → c ≡ n
copied_all n c h = same id_order c n
    (λ q. h q ∙ elim (list_any (eq_by_cmp id_cmp q) (keys n)) as (λ b. list_any (eq_by_cmp id_cmp q) (keys n) ≡ b → cond b (get n q) None ≡ get n q) [
      | true ↦ λ _. refl
      | false ↦ λ out. sym (none_of (get n q) (contains_key-keys n q ∙ out))
    ] refl)

pub copied_some : {A : Type 0} (o : Option (Bor A)) → is_some o ≡ is_some (option_copied o)
copied_some None = refl
copied_some (Some b) = refl

pub not_there : (o : Option Node) → is_some o ≡ false → o ≡ None
not_there None h = refl
not_there (Some k) h = cc
