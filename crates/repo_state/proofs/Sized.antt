-- Which positions have a size, once sizes are taken out, added or moved.
use Rattle.std.proofs.Common.{◌≡◌, ◌⊎◌, inl, inr, ⊎_elim, ℕ, zero, suc, ◌<◌, Bool, true, false, cond, List, [], ◌∷◌, ◌++◌, length, not, nat_eq}
use Rattle.std.proofs.Common.{refl, sym, ◌∙◌, ap, subst, arith}
use Rattle.std.specs.List.{Contains, filter, remove}
use Rattle.std.proofs.Math.ListN.{set, get_or}
use Rattle.std.proofs.lemmas.Bool.{eqb-true}
use Rattle.std.proofs.lemmas.List.Elements.{Contains-append_cases, Contains-append_right}
use Rattle.recently_used.proofs.Used.{one}
use Rattle.repo_state.specs.declared.sizes.Size.{Size}
use Rattle.repo_state.specs.Sizes.{sized}

-- the first position, or one after it
first_or : (x i : ℕ) (l : List ℕ) → Contains (x ∷ l) i → (x ≡ i) ⊎ Contains l i
first_or x i l has = ⊎_elim (λ here. inl (one x i here)) (λ there. inr there) (Contains-append_cases (x ∷ []) l i has)

or_first : (x i : ℕ) (l : List ℕ) → (x ≡ i) ⊎ Contains l i → Contains (x ∷ l) i
or_first x i l (inl is) = (0, omega arith, is)
or_first x i l (inr there) = Contains-append_right (x ∷ []) l i there

-- each position but the one whose sizes go has a size still
pub but_one : (at i : ℕ) (l : List Size) → Contains (sized l) i → Contains (sized (filter (λ s. not (nat_eq s.at at)) l)) i ⊎ (at ≡ i)
but_one at i [] has = absurd (omega (arith, has.1))
but_one at i (s ∷ l) has = by (nat_eq s.at at) refl (λ there. but_one at i l there) (first_or s.at i (sized l) has)
  where
    others : List Size
    others = filter (λ s. not (nat_eq s.at at)) l

    by : (b : Bool) → nat_eq s.at at ≡ b → (Contains (sized l) i → Contains (sized others) i ⊎ (at ≡ i)) → (s.at ≡ i) ⊎ Contains (sized l) i
        → Contains (sized (cond (not b) (s ∷ others) others)) i ⊎ (at ≡ i)
    by true same goes (inl is) = inr (sym (eqb-true s.at at same) ∙ is)
    by true same goes (inr there) = goes there
    by false other goes (inl is) = inl (or_first s.at i (sized others) (inl is))
    by false other goes (inr there) = ⊎_elim (λ has. inl (or_first s.at i (sized others) (inr has))) (λ is. inr is) (goes there)

-- with a size added last
pub pushed : (l : List Size) (s : Size) (i : ℕ) → Contains (sized l) i ⊎ (s.at ≡ i) → Contains (sized (l ++ s ∷ [])) i
pushed [] s i (inl has) = absurd (omega (arith, has.1))
pushed [] s i (inr is) = (0, omega arith, is)
pushed (x ∷ l) s i (inl has) =
    or_first x.at i (sized (l ++ s ∷ []))
    (⊎_elim (λ here. inl here) (λ there. inr (pushed l s i (inl there))) (first_or x.at i (sized l) has))
pushed (x ∷ l) s i (inr is) = or_first x.at i (sized (l ++ s ∷ [])) (inr (pushed l s i (inr is)))

-- with a size moved to the end
pub moved : (l : List Size) (k i : ℕ) (s : Size) → k < length l → s ≡ get_or l k s → Contains (sized l) i → Contains (sized (remove l k ++ s ∷ [])) i
moved [] k i s below is has = absurd (omega arith)
moved (x ∷ l) zero i s below is has =
    pushed l s i (⊎_elim (λ here. inr (ap (λ (t : Size). t.at) is ∙ here)) (λ there. inl there) (first_or x.at i (sized l) has))
moved (x ∷ l) (suc k) i s below is has =
    or_first x.at i (sized (remove l k ++ s ∷ []))
    (⊎_elim (λ here. inl here) (λ there. inr (moved l k i s (omega arith) is there)) (first_or x.at i (sized l) has))

-- with a size set to another one of the same position
pub set_sized : (l : List Size) (k : ℕ) (s d : Size) → s.at ≡ (get_or l k d).at → sized (set l k s) ≡ sized l
set_sized [] k s d is = refl
set_sized (x ∷ l) zero s d is = ap (λ (n : ℕ). n ∷ sized l) is
set_sized (x ∷ l) (suc k) s d is = ap (λ (places : List ℕ). x.at ∷ places) (set_sized l k s d is)
