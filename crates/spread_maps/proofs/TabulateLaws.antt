-- Maps made of a look-up and the keys at which it finds something.
use Rattle.std.proofs.Common.{◌≡◌, true, false, cond, List, [], ◌∷◌, refl, sym, ap, ◌∙◌, ◌||◌}
use Rattle.std.specs.Prelude.{Option, None}
use Rattle.std.specs.List.{list_any}
use Rattle.std.specs.declared.cmp.Ordering.{Ordering}
use Rattle.std.specs.Ordering.{eq_by_cmp}
use Rattle.std.specs.FinMap.{get, get-empty}
use Rattle.spread_maps.specs.Spread.{tabulate}
use Rattle.finite_maps.proofs.MapLaws.{IsKeyOrder, same_key, get-set}

module _ {K X : Type 0} {R : K → K → Ordering} (o : IsKeyOrder R) (f : K → Option X) where
  pub get_listed : (ks : List K) (q : K) → get (tabulate R f ks) q ≡ cond (list_any (eq_by_cmp R q) ks) (f q) None
  get_listed [] q = get-empty R q
  get_listed (k ∷ ks) q =
      get-set o (tabulate R f ks) k (f k) q
      ∙ elim (eq_by_cmp R q k) as (λ b. eq_by_cmp R q k ≡ b → cond b (f k) (get (tabulate R f ks) q) ≡ cond (b || list_any (eq_by_cmp R q) ks) (f q) None) [
        | true ↦ λ is. ap f (sym (same_key o q k is))
        | false ↦ λ is. get_listed ks q
      ] refl

  -- where nothing is found at other keys, the map answers as the look-up does
  pub get-tabulate : (ks : List K) → ((q : K) → list_any (eq_by_cmp R q) ks ≡ false → f q ≡ None) → (q : K) → get (tabulate R f ks) q ≡ f q
  get-tabulate ks none q =
      get_listed ks q
      ∙ elim (list_any (eq_by_cmp R q) ks) as (λ b. list_any (eq_by_cmp R q) ks ≡ b → cond b (f q) None ≡ f q) [
        | true ↦ λ is. refl
        | false ↦ λ is. sym (none q is)
      ] refl
