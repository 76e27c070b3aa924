-- Names that differ, and the number of a name.
use Rattle.std.proofs.Common.{◌≡◌, ℕ, zero, suc, Bool, true, false, cond, List, [], ◌∷◌, ◌||◌, refl, sym, ap, subst, ◌∙◌, map}
use Rattle.std.specs.Prelude.{Option, None, Some, slice_get}
use Rattle.std.specs.List.{list_any}
use Rattle.std.specs.Option.{option_map}
use Rattle.std.specs.Str.{bytes_eq}
use Rattle.std.proofs.lemmas.Bool.{or_left, or_right}
use Rattle.ecore_meta.specs.Names.{Name, has_repeat, number_of}
use Rattle.ecore_meta.proofs.NameLaws.{itself, same}
use Rattle.ecore_meta.proofs.NumberLaws.{or_split}
use Rattle.metamodel_growth.proofs.RenumberLaws.{never, none_some, same_some}

-- the list that has a name has an item of that name
named_at : {X : Type 0} (name : X → Name) (q : Name) (xs : List X) → list_any (bytes_eq q) (map name xs) ≡ true
    → (i : ℕ) × (x : X) × (slice_get xs i ≡ Some x) × (bytes_eq q (name x) ≡ true)
named_at name q [] h = cc
named_at {X} name q (y ∷ xs) h = or_split (bytes_eq q (name y)) (list_any (bytes_eq q) (map name xs)) h first (λ e. later (named_at name q xs e))
  where
    first : bytes_eq q (name y) ≡ true → (i : ℕ) × (x : X) × (slice_get (y ∷ xs) i ≡ Some x) × (bytes_eq q (name x) ≡ true)
    first e = (0, y, refl, e)

    later : (i : ℕ) × (x : X) × (slice_get xs i ≡ Some x) × (bytes_eq q (name x) ≡ true)
        → (i : ℕ) × (x : X) × (slice_get (y ∷ xs) i ≡ Some x) × (bytes_eq q (name x) ≡ true)
    later r = (suc r.0, r.1, r.2, r.3)

not_both : (a b : Bool) → (a ≡ true → ⊥) → b ≡ false → a || b ≡ false
not_both true b f h = absurd (f refl)
not_both false b f h = h

zero_suc : (i : ℕ) → 0 ≡ suc i → ⊥
zero_suc i h = cc

suc_suc : (i j : ℕ) → suc i ≡ suc j → i ≡ j
suc_suc i j h = cc

-- where no two items have one name, no name stands twice
pub no_repeat : {X : Type 0} (name : X → Name) (xs : List X)
    → ((i j : ℕ) (x y : X) → slice_get xs i ≡ Some x → slice_get xs j ≡ Some y → name x ≡ name y → i ≡ j) → has_repeat (map name xs) ≡ false
no_repeat name [] one = refl
no_repeat name (x ∷ xs) one = not_both (list_any (bytes_eq (name x)) (map name xs)) (has_repeat (map name xs))
    (λ h. let r = named_at name (name x) xs h in zero_suc r.0 (one 0 (suc r.0) x r.1 refl r.2 (same (name x) (name r.1) r.3)))
    (no_repeat name xs (λ i j y z is at e. suc_suc i j (one (suc i) (suc j) y z is at e)))

or_first : (a b : Bool) → a || b ≡ false → a ≡ false
or_first true b h = h
or_first false b h = refl

or_second : (a b : Bool) → a || b ≡ false → b ≡ false
or_second true b h = absurd (never (sym h))
or_second false b h = h

named_in : {X : Type 0} (name : X → Name) (q : Name) (xs : List X) (i : ℕ) (x : X) → slice_get xs i ≡ Some x → q ≡ name x
    → list_any (bytes_eq q) (map name xs) ≡ true
named_in name q [] i x is e = absurd (none_some x is)
named_in name q (y ∷ xs) zero x is e = or_left (bytes_eq q (name y)) _ (subst (λ z. bytes_eq q z ≡ true) (e ∙ ap name (sym (same_some y x is))) (itself q))
named_in name q (y ∷ xs) (suc i) x is e = or_right (bytes_eq q (name y)) _ (named_in name q xs i x is e)

-- where no name stands twice, no two items have one name
pub one_name : {X : Type 0} (name : X → Name) (xs : List X) → has_repeat (map name xs) ≡ false → (i j : ℕ) (x y : X)
    → slice_get xs i ≡ Some x → slice_get xs j ≡ Some y → name x ≡ name y → i ≡ j
one_name name [] h i j x y is at e = absurd (none_some x is)
one_name name (z ∷ xs) h zero zero x y is at e = refl
one_name name (z ∷ xs) h zero (suc j) x y is at e =
    absurd (never (sym (or_first (list_any (bytes_eq (name z)) (map name xs)) (has_repeat (map name xs)) h)
    ∙ named_in name (name z) xs j y at (ap name (same_some z x is) ∙ e)))
one_name name (z ∷ xs) h (suc i) zero x y is at e =
    absurd (never (sym (or_first (list_any (bytes_eq (name z)) (map name xs)) (has_repeat (map name xs)) h)
    ∙ named_in name (name z) xs i x is (ap name (same_some z y at) ∙ sym e)))
one_name name (z ∷ xs) h (suc i) (suc j) x y is at e =
    ap suc (one_name name xs (or_second (list_any (bytes_eq (name z)) (map name xs)) (has_repeat (map name xs)) h) i j x y is at e)

-- the item of the number that a name has has that name
pub number_is : {X : Type 0} (name : X → Name) (q : Name) (xs : List X) (k : ℕ) → number_of q (map name xs) ≡ Some k
    → (x : X) × (slice_get xs k ≡ Some x) × (q ≡ name x)
number_is name q [] k h = absurd (none_some k h)
number_is {X} name q (y ∷ xs) k h = by_test (bytes_eq q (name y)) refl (λ m e. number_is name q xs m e) h
  where
    later : (o : Option ℕ) → number_of q (map name xs) ≡ o
        → ((m : ℕ) → number_of q (map name xs) ≡ Some m → (x : X) × (slice_get xs m ≡ Some x) × (q ≡ name x))
        → option_map (λ n. suc n) o ≡ Some k → (x : X) × (slice_get (y ∷ xs) k ≡ Some x) × (q ≡ name x)
    later None is more g = absurd (none_some k g)
    later (Some m) is more g =
        let r = more m is in
        let e : suc m ≡ k = same_some (suc m) k g in
        (r.0, ap (slice_get (y ∷ xs)) (sym e) ∙ r.1, r.2)

    by_test : (b : Bool) → bytes_eq q (name y) ≡ b
        → ((m : ℕ) → number_of q (map name xs) ≡ Some m → (x : X) × (slice_get xs m ≡ Some x) × (q ≡ name x))
        → cond b (Some 0) (option_map (λ n. suc n) (number_of q (map name xs))) ≡ Some k
        → (x : X) × (slice_get (y ∷ xs) k ≡ Some x) × (q ≡ name x)
    by_test true e more g = let z : 0 ≡ k = same_some 0 k g in (y, ap (slice_get (y ∷ xs)) (sym z), same q (name y) e)
    by_test false e more g = later (number_of q (map name xs)) refl more g
