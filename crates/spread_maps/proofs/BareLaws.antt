-- Maps without entries.
use Rattle.std.proofs.Common.{◌≡◌, Bool, true, false, cond, List, [], ◌∷◌, refl, sym, ap, ◌∙◌, nat_eq, length}
use Rattle.std.specs.Prelude.{Option, None, Some}
use Rattle.std.specs.declared.cmp.Ordering.{Ordering}
use Rattle.std.specs.FinMap.{FinMap, get, entries, get-entries, find, empty, get-empty}
use Rattle.finite_maps.specs.Maps.{count}
use Rattle.spread_maps.specs.Spread.{is_bare}
use Rattle.finite_maps.proofs.Cases.{true_false}
use Rattle.finite_maps.proofs.MapLaws.{IsKeyOrder, own_key, same}
use Rattle.finite_maps.proofs.CountLaws.{count_none, none_counted}
use Rattle.finite_maps.proofs.EqualLaws.{nat_equality}

module _ {K X : Type 0} {R : K → K → Ordering} (o : IsKeyOrder R) where
  find_none : (es : List (K × X)) → nat_eq (length es) 0 ≡ true → (k : K) → find R k es ≡ None
  find_none [] h k = refl
  find_none (e ∷ es) h k = absurd (no_length es h)
    where
      no_length : (es : List (K × X)) → nat_eq (length (e ∷ es)) 0 ≡ true → ⊥
      no_length es h = absurd (omega_none (nat_equality.exact (length (e ∷ es)) 0 h))
        where
          omega_none : length (e ∷ es) ≡ 0 → ⊥
          omega_none h = cc

  -- nothing is found in it
  pub bare_none : (m : FinMap R X) → is_bare m ≡ true → (k : K) → get m k ≡ None
  bare_none m h k = get-entries m k ∙ find_none (entries m) h k

  pub bare_is : (m : FinMap R X) → is_bare m ≡ true → m ≡ empty
  bare_is m h = same o m empty (λ k. bare_none m h k ∙ sym (get-empty R k))

  some_entry : (es : List (K × X)) → nat_eq (length es) 0 ≡ false → (k : K) × (v : X) × (find R k es ≡ Some v)
  some_entry [] h = cc
  some_entry (e ∷ es) h = (e.0, e.1, ap (λ b. cond b (Some e.1) (find R e.0 es)) (own_key o e.0))

  -- something is found in another
  pub not_bare_some : (m : FinMap R X) → is_bare m ≡ false → (k : K) × (v : X) × (get m k ≡ Some v)
  not_bare_some m h = let e = some_entry (entries m) h in (e.0, e.1, get-entries m e.0 ∙ e.2)

  -- a map in which something is found
  pub some_not_bare : (m : FinMap R X) (k : K) (v : X) → get m k ≡ Some v → is_bare m ≡ false
  some_not_bare m k v is =
      elim (is_bare m) as (λ b. is_bare m ≡ b → b ≡ false) [
        | true ↦ λ h. absurd (none_some (get m k) (bare_none m h k) is)
        | false ↦ λ h. refl
      ] refl
    where
      none_some : (o : Option X) → o ≡ None → o ≡ Some v → ⊥
      none_some o h g = cc

  -- whether entries that pass a test are there, told by any other test
  pub none_pass : (p : K × X → Bool) (m : FinMap R X) (b : Bool) → (b ≡ true → (k : K) (v : X) → get m k ≡ Some v → p (k, v) ≡ false)
      → (b ≡ false → (k : K) × (v : X) × (get m k ≡ Some v) × (p (k, v) ≡ true)) → b ≡ nat_eq (count p m) 0
  none_pass p m true none some = sym (ap (λ n. nat_eq n 0) (count_none o p m (none refl)))
  none_pass p m false none some =
      let e = some refl in
      elim (nat_eq (count p m) 0) as (λ b. nat_eq (count p m) 0 ≡ b → false ≡ b) [
        | true ↦ λ h. absurd (true_false (p (e.0, e.1)) e.3 (none_counted o p m (nat_equality.exact (count p m) 0 h) e.0 e.1 e.2))
        | false ↦ λ h. refl
      ] refl
