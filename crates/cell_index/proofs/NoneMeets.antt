-- An operation of the index that interferes with another stands in the list of one of the other's cells.
use Rattle.std.proofs.Common.{◌≡◌, ℕ, suc, ◌+◌, ◌<◌, Bool, true, false, ◌||◌, List, [], ◌∷◌, ◌++◌, refl, sym, ap, subst, inl, inr, ◌∙◌, take, length}
use Rattle.std.proofs.Common.{get_or, arith}
use Rattle.std.specs.Prelude.{◌⊎◌}
use Rattle.std.specs.List.{Contains, list_any}
use Rattle.std.specs.declared.vec.Vec.{Vec}
use Rattle.std.specs.declared.alloc.Global.{Global}
use Rattle.std.proofs.lemmas.List.Elements.{Contains-push_cases, Contains-append_left, Contains-append_right, Contains-push}
use Rattle.std.proofs.Math.Seq.{take-suc}
use Rattle.std.proofs.lemmas.List.Folds.{list_any_at}
use Rattle.finite_maps.proofs.Cases.{true_false, not_so}
use Rattle.footprint.specs.declared.cell.Cell.{Cell as Held}
use Rattle.footprint.specs.declared.cell.Print.{Print}
use Rattle.footprint.specs.Interference.{meets}
use Rattle.footprint.specs.Prints.{cells}
use Rattle.cell_index.specs.Near.{row_of, Listed, IsMet, AllMet, prints_interfere}
use Rattle.cell_index.specs.declared.listing.CellIndex.{CellIndex}
use Rattle.cell_index.proofs.Far.{apart, row_same}
use Rattle.cell_index.proofs.Rises.{first_or_rest}
use Rattle.cell_index.proofs.Rows.{same_or_not}
use Rattle.cell_index.proofs.Touching.{print_same}

-- the place is in no list of the cells
abbrev pub IsUnlisted : List (Vec ℕ Global) → List Held → ℕ → Type 0
IsUnlisted table cs k = (h : Held) → Contains cs h → Contains (row_of table h) k → ⊥

module _ (index : CellIndex) (prints : List Print) (p : Print) (w r : List Held) (s t u : List (Vec ℕ Global)) (k : ℕ)
    (in_writers : (q : Print) → q ≡ get_or prints k q → Listed index.writers.items q.writes k)
    (in_readers : (q : Print) → q ≡ get_or prints k q → Listed index.readers.items q.reads k)
    (w_is : w ≡ p.writes) (r_is : r ≡ p.reads) (s_is : s ≡ index.writers.items) (t_is : t ≡ index.readers.items) (u_is : u ≡ index.writers.items) where
  pub far : IsMet prints p k → IsUnlisted s w k → IsUnlisted t w k → IsUnlisted u r k → ⊥
  far met ww wr rw' =
      let q : Print = get_or prints k p in
      let q_is : q ≡ get_or prints k q = print_same prints k p q met.low in
      let written : meets (cells p.writes) (cells q.writes) ≡ false =
      apart p.writes q.writes
      (λ h g a b e. ww h (subst (λ l. Contains l h) (sym w_is) a)
      (subst (λ x. Contains (row_of x h) k) (sym s_is)
      (subst (λ l. Contains l k) (sym (row_same index.writers.items h g e)) (in_writers q q_is g b)))) in
      let second : meets (cells p.writes) (cells q.reads) ≡ false =
      apart p.writes q.reads
      (λ h g a b e. wr h (subst (λ l. Contains l h) (sym w_is) a)
      (subst (λ x. Contains (row_of x h) k) (sym t_is)
      (subst (λ l. Contains l k) (sym (row_same index.readers.items h g e)) (in_readers q q_is g b)))) in
      let first : meets (cells q.writes) (cells p.reads) ≡ false =
      apart q.writes p.reads
      (λ h g a b e. rw' g (subst (λ l. Contains l g) (sym r_is) b)
      (subst (λ x. Contains (row_of x g) k) (sym u_is)
      (subst (λ l. Contains l k) (row_same index.writers.items h g e) (in_writers q q_is h a)))) in
      true_false (prints_interfere p q) met.meets (λ i. written i || (second i || first i))

-- ---- whether any is met
any_none : (test : Print → Bool) (prints : List Print) (p : Print) → ((k : ℕ) → k < length prints → test (get_or prints k p) ≡ true → ⊥)
    → list_any test prints ≡ false
any_none test [] p none = refl
any_none test (x ∷ prints) p none =
    ap (λ b. b || list_any test prints) (not_so (test x) (λ e. none 0 (omega arith) e))
    ∙ any_none test prints p (λ k low e. none (suc k) (omega (arith, low)) e)

pub meets_one : (prints : List Print) (p : Print) → (k : ℕ) × IsMet prints p k → true ≡ list_any (prints_interfere p) prints
meets_one prints p (k, met) = sym (list_any_at (prints_interfere p) prints k p met.low met.meets)

pub meets_none : (prints : List Print) (p : Print) → ((k : ℕ) → IsMet prints p k → ⊥) → false ≡ list_any (prints_interfere p) prints
meets_none prints p none = sym (any_none (prints_interfere p) prints p (λ k low on. none k (record { low = low; meets = on })))

-- by what the last search found
pub meets_by : (prints : List Print) (p : Print) (found : Bool) → (found ≡ true → (k : ℕ) × IsMet prints p k)
    → (found ≡ false → false ≡ list_any (prints_interfere p) prints) → found ≡ list_any (prints_interfere p) prints
meets_by prints p true met none = meets_one prints p (met refl)
meets_by prints p false met none = none refl

-- ---- those that are met
pub met_push : (prints : List Print) (p : Print) (near : List ℕ) (k : ℕ) → AllMet prints p near → IsMet prints p k → AllMet prints p (near ++ k ∷ [])
met_push prints p near k all met j on = elim (Contains-push_cases near k j on) [
  | inl before ↦ all j before
  | inr e ↦ subst (IsMet prints p) e met
]

pub none_met : (prints : List Print) (p : Print) (near : List ℕ) → near ≡ [] → AllMet prints p near
none_met prints p near is k on = absurd (nowhere (subst (λ l. Contains l k) is on))
  where
    nowhere : Contains [] k → ⊥
    nowhere h = let low = h.1 in omega (arith, low)

-- a number is in a list, or it isn't
pub in_or_not : (xs : List ℕ) (k : ℕ) → Contains xs k ⊎ (Contains xs k → ⊥)
in_or_not [] k = inr (λ h. let low = h.1 in omega (arith, low))
in_or_not (x ∷ xs) k = same_or_not x k
    (λ e. inl (subst (Contains (x ∷ xs)) e (Contains-append_left (x ∷ []) xs x (Contains-push [] x))))
    (λ f. elim (in_or_not xs k) [
      | inl on ↦ inl (Contains-append_right (x ∷ []) xs k on)
      | inr out ↦ inr (λ h. out (later h f))
    ])
  where
    later : Contains (x ∷ xs) k → (x ≡ k → ⊥) → Contains xs k
    later h f = elim (first_or_rest x xs k h) [ inl e ↦ absurd (f e) | inr on ↦ on ]

-- one that no list leaves out is found
pub found_by : (near : List ℕ) (k : ℕ) → ((Contains near k → ⊥) → ⊥) → Contains near k
found_by near k found = elim (in_or_not near k) [ inl on ↦ on | inr out ↦ absurd (found out) ]

-- a number that a loop has gone over
pub taken_number : (xs : List ℕ) (i k : ℕ) → i < length xs → Contains (take (i + 1) xs) k → Contains (take i xs) k ⊎ (get_or xs i 0 ≡ k)
taken_number xs i k low on =
    let e : i + 1 ≡ suc i = omega arith in
    Contains-push_cases (take i xs) (get_or xs i 0) k (subst (λ l. Contains l k) (ap (λ n. take n xs) e ∙ take-suc xs i 0 low) on)
