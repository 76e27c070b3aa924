-- What a number that is used leaves of the others.
use Rattle.std.proofs.Common.{◌≡◌, ◌⊎◌, inl, inr, ⊎_elim, ℕ, zero, suc, ◌<◌, Bool, true, false, cond, List, [], ◌∷◌, ◌++◌, length, not, nat_eq}
use Rattle.std.proofs.Common.{Option, Some, None, refl, sym, ◌∙◌, ap, subst, arith}
use Rattle.std.specs.Prelude.{option_to_list, slice_index_or}
use Rattle.std.specs.List.{Contains, filter}
use Rattle.std.proofs.lemmas.Bool.{eqb-true}
use Rattle.std.proofs.lemmas.List.Elements.{Contains-append_cases, Contains-append_left, Contains-append_right, Contains-push}
use Rattle.recently_used.specs.Recent.{used}

pub one : (x n : ℕ) → Contains (x ∷ []) n → x ≡ n
one x n has = by has.0 has.1 has.2
  where
    by : (k : ℕ) → k < length (x ∷ []) → slice_index_or (x ∷ []) k n ≡ n → x ≡ n
    by zero low is = is
    by (suc k) low is = absurd (omega (arith, low))

-- each number that was there is there
in_used : (number n : ℕ) (l : List ℕ) → Contains l n → Contains (used number l) n
in_used number n [] has = absurd (omega (arith, has.1))
in_used number n (x ∷ l) has =
    by (nat_eq x number) refl (λ there. in_used number n l there)
    (⊎_elim (λ here. inl (one x n here)) (λ there. inr there) (Contains-append_cases (x ∷ []) l n has))
  where
    others : List ℕ
    others = filter (λ m. not (nat_eq m number)) l

    by : (b : Bool) → nat_eq x number ≡ b → (Contains l n → Contains (others ++ number ∷ []) n) → (x ≡ n) ⊎ Contains l n
        → Contains (cond (not b) (x ∷ others) others ++ number ∷ []) n
    by true same goes (inl is) =
        Contains-append_right others (number ∷ []) n (subst (λ k. Contains (number ∷ []) k) (sym (eqb-true x number same) ∙ is) (Contains-push [] number))
    by true same goes (inr there) = goes there
    by false other goes (inl is) =
        subst (λ k. Contains ((x ∷ others) ++ number ∷ []) k) is (Contains-append_left (x ∷ []) (others ++ number ∷ []) x (Contains-push [] x))
    by false other goes (inr there) = Contains-append_right (x ∷ []) (others ++ number ∷ []) n (goes there)

-- but for the one that goes
pub stays : (l r : List ℕ) (number : ℕ) (out : Option ℕ) → option_to_list out ++ r ≡ used number l → (n : ℕ) → Contains l n → Contains r n ⊎ (out ≡ Some n)
stays l r number out is n has = by out is
  where
    by : (out : Option ℕ) → option_to_list out ++ r ≡ used number l → Contains r n ⊎ (out ≡ Some n)
    by None is = inl (subst (λ (k : List ℕ). Contains k n) (sym is) (in_used number n l has))
    by (Some m) is = ⊎_elim (λ here. inr (ap Some (one m n here))) (λ there. inl there)
        (Contains-append_cases (m ∷ []) r n (subst (λ (k : List ℕ). Contains k n) (sym is) (in_used number n l has)))
