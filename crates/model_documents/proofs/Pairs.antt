-- Lists of what each item of another list gives.
use Rattle.std.proofs.Common.{◌≡◌, ℕ, zero, suc, ◌+◌, List, [], ◌∷◌, ◌++◌, length, refl, sym, ap, subst, ◌∙◌, append_assoc, append-nil, arith}
use Rattle.std.specs.Prelude.{Ok, Some, slice_get}
use Rattle.model_documents.specs.Reads.{Read, collected}
use Rattle.model_documents.proofs.Apart.{then_ok}

-- item by item, with their numbers from the first's on
abbrev pub Paired : {A B : Type 0} → (ℕ → A → B → Type 0) → ℕ → List A → List B → Type 0
Paired R n [] [] = Unit {0}
Paired R n [] (b ∷ bs) = ⊥
Paired R n (a ∷ xs) [] = ⊥
Paired R n (a ∷ xs) (b ∷ bs) = R n a b × Paired R (suc n) xs bs

module _ {A B : Type 0} (R : ℕ → A → B → Type 0) where
  list_ok : (xs ys : List B) → ◌≡◌ {A = Read (List B)} (Ok xs) (Ok ys) → xs ≡ ys
  list_ok xs ys h = cc

  long : (bs : List B) (b : B) → length (bs ++ b ∷ []) ≡ suc (length bs)
  long [] b = refl
  long (x ∷ bs) b = ap (λ n. suc n) (long bs b)

  -- what was collected stands after what was there
  collected_pairs : (give : List B → A → Read B) → ((bs : List B) (a : A) (b : B) → give bs a ≡ Ok b → R (length bs) a b)
      → (bs : List B) (xs : List A) (cs : List B) → collected give bs xs ≡ Ok cs
      → (ds : List B) × (cs ≡ bs ++ ds) × Paired R (length bs) xs ds
  collected_pairs give gives bs [] cs h = ([], sym (list_ok bs cs h) ∙ sym (append-nil bs), tt)
  collected_pairs give gives bs (a ∷ xs) cs h =
      let one = then_ok (give bs a) (λ b. collected give (bs ++ b ∷ []) xs) cs h in
      let rest = collected_pairs give gives (bs ++ one.0 ∷ []) xs cs one.2 in
      (one.0 ∷ rest.0, rest.1 ∙ append_assoc bs (one.0 ∷ []) rest.0, (gives bs a one.0 one.1, subst (λ n. Paired R n xs rest.0) (long bs one.0) rest.2))

  pub all_pairs : (give : List B → A → Read B) → ((bs : List B) (a : A) (b : B) → give bs a ≡ Ok b → R (length bs) a b) → (xs : List A) (cs : List B)
      → collected give [] xs ≡ Ok cs → Paired R 0 xs cs
  all_pairs give gives xs cs h = let made = collected_pairs give gives [] xs cs h in subst (λ (bs : List B). Paired R 0 xs bs) (sym made.1) made.2

  moved : (n k : ℕ) → suc n + k ≡ n + suc k
  moved n k = omega arith

  nothing : (n : ℕ) → n ≡ n + 0
  nothing n = omega arith

  pub pair_back : (n : ℕ) (xs : List A) (bs : List B) (k : ℕ) (b : B) → Paired R n xs bs → slice_get bs k ≡ Some b
      → (a : A) × (slice_get xs k ≡ Some a) × R (n + k) a b
  pair_back n [] [] k b p h = cc
  pair_back n [] (c ∷ bs) k b p h = absurd p
  pair_back n (a ∷ xs) [] k b p h = absurd p
  pair_back n (a ∷ xs) (c ∷ bs) zero b p h = let e : c ≡ b = cc in (a, refl, subst (λ m. R m a b) (nothing n) (subst (R n a) e p.0))
  pair_back n (a ∷ xs) (c ∷ bs) (suc k) b p h = let at = pair_back (suc n) xs bs k b p.1 h in (at.0, at.1, subst (λ m. R m at.0 b) (moved n k) at.2)

  pub pair_forth : (n : ℕ) (xs : List A) (bs : List B) (k : ℕ) (a : A) → Paired R n xs bs → slice_get xs k ≡ Some a
      → (b : B) × (slice_get bs k ≡ Some b) × R (n + k) a b
  pair_forth n [] [] k a p h = cc
  pair_forth n [] (c ∷ bs) k a p h = absurd p
  pair_forth n (d ∷ xs) [] k a p h = absurd p
  pair_forth n (d ∷ xs) (b ∷ bs) zero a p h = let e : d ≡ a = cc in (b, refl, subst (λ m. R m a b) (nothing n) (subst (λ x. R n x b) e p.0))
  pair_forth n (d ∷ xs) (b ∷ bs) (suc k) a p h = let at = pair_forth (suc n) xs bs k a p.1 h in (at.0, at.1, subst (λ m. R m a at.0) (moved n k) at.2)
