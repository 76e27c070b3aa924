-- Lists of places by slots.
use Rattle.std.proofs.Common.{◌≡◌, ℕ, zero, suc, ◌+◌, ◌<◌, ◌≤◌, List, [], ◌∷◌, ◌++◌, refl, sym, ap, subst, inl, inr, ◌∙◌, take, length, get_or, set}
use Rattle.std.proofs.Common.{arith, length-set, ◌%◌}
use Rattle.std.specs.List.{Contains}
use Rattle.std.specs.Prelude.{◌⊎◌}
use Rattle.std.specs.declared.vec.Vec.{Vec}
use Rattle.std.specs.declared.alloc.Global.{Global}
use Rattle.std.proofs.Math.Seq.{take-suc}
use Rattle.std.proofs.lemmas.List.{take_all}
use Rattle.std.proofs.lemmas.List.Elements.{Contains-push, Contains-append_left, Contains-push_cases}
use Rattle.footprint.specs.declared.cell.Cell.{Cell as Held}
use Rattle.footprint.specs.declared.cell.Print.{Print}
use Rattle.footprint.specs.Prints.{seen}
use Rattle.cell_index.specs.Keys.{cell_key}
use Rattle.cell_index.specs.Near.{list_at, row_of, Listed, Wider}

-- ---- what a loop has gone over
pub taken : {X : Type 0} (xs : List X) (i : ℕ) (x y : X) → i < length xs → y ≡ get_or xs i y → Contains (take (i + 1) xs) x → Contains (take i xs) x ⊎ (y ≡ x)
taken xs i x y low is h =
    let e : i + 1 ≡ suc i = omega arith in
    Contains-push_cases (take i xs) y x (subst (λ l. Contains l x) (ap (λ n. take n xs) e ∙ take-suc xs i y low ∙ ap (λ z. take i xs ++ z ∷ []) (sym is)) h)

pub whole : {X : Type 0} (xs : List X) (n : ℕ) (x : X) → length xs ≤ n → Contains xs x → Contains (take n xs) x
whole xs n x high h = subst (λ l. Contains l x) (sym (take_all n xs high)) h

-- ---- lists at slots
pub at_same : (t : List (Vec ℕ Global)) (s : ℕ) (v : Vec ℕ Global) → s < length t → list_at (set t s v) s ≡ v.items
at_same [] s v h = absurd (omega (arith, h))
at_same (w ∷ t) zero v h = refl
at_same (w ∷ t) (suc s) v h = at_same t s v (omega (arith, h))

pub at_other : (t : List (Vec ℕ Global)) (s r : ℕ) (v : Vec ℕ Global) → (r ≡ s → ⊥) → list_at (set t s v) r ≡ list_at t r
at_other [] s r v h = refl
at_other (w ∷ t) zero zero v h = absurd (h refl)
at_other (w ∷ t) zero (suc r) v h = refl
at_other (w ∷ t) (suc s) zero v h = refl
at_other (w ∷ t) (suc s) (suc r) v h = at_other t s r v (λ e. h (ap suc e))

pub list_here : (t : List (Vec ℕ Global)) (s : ℕ) (v : Vec ℕ Global) → s < length t → v ≡ get_or t s v → list_at t s ≡ v.items
list_here [] s v h is = absurd (omega (arith, h))
list_here (w ∷ t) zero v h is = ap (λ (x : Vec ℕ Global). x.items) (sym is)
list_here (w ∷ t) (suc s) v h is = list_here t s v (omega (arith, h)) is

pub same_or_not : (r s : ℕ) {G : Type 0} → (r ≡ s → G) → ((r ≡ s → ⊥) → G) → G
same_or_not zero zero same other = same refl
same_or_not zero (suc s) same other = other (λ e. cc)
same_or_not (suc r) zero same other = other (λ e. cc)
same_or_not (suc r) (suc s) same other = same_or_not r s (λ e. same (ap suc e)) (λ f. other (λ e. f (cc)))

pub put_wider : (t made : List (Vec ℕ Global)) (s k : ℕ) (v w : Vec ℕ Global) → s < length t → v ≡ get_or t s v → w.items ≡ v.items ++ k ∷ []
    → made ≡ set t s w → Wider t made
put_wider t made s k v w low is more out = record {
  size = ap length out ∙ length-set t s w;
  kept = λ r x h. same_or_not r s
      (λ e. subst (λ l. Contains l x) (sym (ap (λ m. list_at m r) out ∙ ap (list_at (set t s w)) e ∙ at_same t s w low ∙ more))
      (Contains-append_left v.items (k ∷ []) x (subst (λ l. Contains l x) (ap (list_at t) e ∙ list_here t s v low is) h)))
      (λ f. subst (λ l. Contains l x) (sym (ap (λ m. list_at m r) out ∙ at_other t s r w f)) h);
}

pub put_listed : (t made : List (Vec ℕ Global)) (s k : ℕ) (v w : Vec ℕ Global) → s < length t → w.items ≡ v.items ++ k ∷ [] → made ≡ set t s w
    → Contains (list_at made s) k
put_listed t made s k v w low more out = subst (λ l. Contains l k) (sym (ap (λ m. list_at m s) out ∙ at_same t s w low ∙ more)) (Contains-push v.items k)

pub wider_on : (t u v : List (Vec ℕ Global)) → Wider t u → Wider u v → Wider t v
wider_on t u v a b = record { size = b.size ∙ a.size; kept = λ s k h. b.kept s k (a.kept s k h) }

-- ---- rows of cells
pub row_kept : (t made : List (Vec ℕ Global)) (h : Held) (k : ℕ) → Wider t made → Contains (row_of t h) k → Contains (row_of made h) k
row_kept t made h k w is = subst (λ n. Contains (list_at made (cell_key (seen h) % n)) k) (sym w.size) (w.kept (cell_key (seen h) % length t) k is)

pub row_is : (t : List (Vec ℕ Global)) (y h : Held) (s : ℕ) (v : Vec ℕ Global) → s < length t → v ≡ get_or t s v → s ≡ cell_key (seen y) % length t
    → y ≡ h → row_of t h ≡ v.items
row_is t y h s v low is slot same = ap (λ (x : Held). list_at t (cell_key (seen x) % length t)) (sym same) ∙ ap (list_at t) (sym slot) ∙ list_here t s v low is

-- one cell more, whose list has the place
pub row_more : (t made : List (Vec ℕ Global)) (cs : List Held) (i k s n : ℕ) (y h : Held) → i < length cs → y ≡ get_or cs i y → Wider t made
    → Contains (list_at made s) k → s ≡ cell_key (seen y) % n → n ≡ length t
    → Listed t (take i cs) k → Contains (take (i + 1) cs) h → Contains (row_of made h) k
row_more t made cs i k s n y h low is w put slot size before more = elim (taken cs i h y low is more) [
  | inl b ↦ row_kept t made h k w (before h b)
  | inr e ↦ subst (λ m. Contains (list_at made m) k) (slot ∙ (λ j. cell_key (seen (e j)) % (size ∙ sym w.size) j)) put
]

-- ---- prints
defaults : {X : Type 0} (xs : List X) (i : ℕ) (x y : X) → i < length xs → get_or xs i x ≡ get_or xs i y
defaults [] i x y h = absurd (omega (arith, h))
defaults (z ∷ xs) zero x y h = refl
defaults (z ∷ xs) (suc i) x y h = defaults xs i x y (omega (arith, h))

-- one print more, whose cells' lists have its place
pub print_more : (which : Print → List Held) (t made : List (Vec ℕ Global)) (prints : List Print) (i : ℕ) (q : Print) (cs : List Held)
    → i < length prints → q ≡ get_or prints i q → cs ≡ which q → Wider t made → Listed made cs i
    → ((k : ℕ) (p : Print) → k < i → p ≡ get_or prints k p → Listed t (which p) k) → (k : ℕ) (p : Print) → k < i + 1 → p ≡ get_or prints k p
    → Listed made (which p) k
print_more which t made prints i q cs low is all w put before k p below p_is = same_or_not k i
    (λ e.
    let same : q ≡ p = is ∙ defaults prints i q p low ∙ ap (λ n. get_or prints n p) (sym e) ∙ sym p_is in
    λ h has_h. subst (λ n. Contains (row_of made h) n) (sym e) (put h (subst (λ l. Contains l h) (sym (all ∙ ap which same)) has_h)))
    (λ f. λ h has_h. row_kept t made h k w (before k p (less k i below f) p_is h has_h))
  where
    less : (k i : ℕ) → k < i + 1 → (k ≡ i → ⊥) → k < i
    less k i h f = same_or_not k i (λ e. absurd (f e)) (λ g. omega (arith, h, g))
