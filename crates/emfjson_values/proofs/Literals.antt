-- Literals of different texts are known by their texts.
use Rattle.std.proofs.Common.{◌≡◌, ℕ, zero, suc, ◌<◌, Bool, true, false, cond, ◌||◌, List, [], ◌∷◌, Some, length, map, refl, sym, ap, subst, ◌∙◌, arith, rules}
use Rattle.std.specs.Prelude.{option_map, slice_get}
use Rattle.std.specs.List.{list_any}
use Rattle.std.specs.Option.{option_map_or}
use Rattle.std.specs.Str.{bytes_eq}
use Rattle.std.proofs.lemmas.Slice.Eq.{bytes_eq-Decides}
use Rattle.ecore_meta.specs.Names.{Name, has_repeat, number_of}
use Rattle.ecore_meta.specs.Values.{literal_in, or_else, text_in}
use Rattle.ecore_meta.specs.declared.meta.EnumLiteral.{EnumLiteral}

neither : (a b : Bool) → a || b ≡ false → (a ≡ false) × (b ≡ false)
neither true b h = cc
neither false b h = (refl, h)

itself : (x : Name) → bytes_eq x x ≡ true
itself x = search (rules, bytes_eq-Decides)

same : (x y : Name) → bytes_eq x y ≡ true → x ≡ y
same x y h = search (rules, bytes_eq-Decides)

any_there : (p : Name → Bool) (xs : List Name) (n : ℕ) (x : Name) → slice_get xs n ≡ Some x → p x ≡ true → list_any p xs ≡ true
any_there p [] n x is h = cc
any_there p (y ∷ ys) zero x is h = let e : y ≡ x = cc in ap (λ b. b || list_any p ys) (ap p e ∙ h)
any_there p (y ∷ ys) (suc n) x is h = ap (λ b. p y || b) (any_there p ys n x is h) ∙ or_true (p y)
  where
    or_true : (b : Bool) → b || true ≡ true
    or_true true = refl
    or_true false = refl

-- in a list without repeats a name that stands at a place has that number
number_at : (xs : List Name) (n : ℕ) (x : Name) → has_repeat xs ≡ false → slice_get xs n ≡ Some x → number_of x xs ≡ Some n
number_at [] n x apart is = cc
number_at (y ∷ ys) zero x apart is =
    let e : y ≡ x = cc in
    ap (λ b. cond b (Some 0) (option_map (λ n. suc n) (number_of x ys))) (subst (λ z. bytes_eq x z ≡ true) (sym e) (itself x))
number_at (y ∷ ys) (suc n) x apart is =
    let parts = neither (list_any (bytes_eq y) ys) (has_repeat ys) apart in
    by_test (bytes_eq x y) refl parts.0 (number_at ys n x parts.1 is)
  where
    by_test : (b : Bool) → bytes_eq x y ≡ b → list_any (bytes_eq y) ys ≡ false → number_of x ys ≡ Some n
        → cond b (Some 0) (option_map (λ n. suc n) (number_of x ys)) ≡ Some (suc n)
    by_test true e none more =
        let there : list_any (bytes_eq y) ys ≡ true = any_there (bytes_eq y) ys n x is (subst (λ z. bytes_eq z x ≡ true) (same x y e) (itself x)) in
        cc
    by_test false e none more = ap (option_map (λ n. suc n)) more

entry_of_map : {X : Type 0} (f : X → Name) (xs : List X) (n : ℕ) (x : X) → slice_get xs n ≡ Some x → slice_get (map f xs) n ≡ Some (f x)
entry_of_map f [] n x is = cc
entry_of_map f (y ∷ ys) zero x is = let e : y ≡ x = cc in ap (λ z. Some (f z)) e
entry_of_map f (y ∷ ys) (suc n) x is = entry_of_map f ys n x is

entry_below : {X : Type 0} (xs : List X) (n : ℕ) → n < length xs → (x : X) × (slice_get xs n ≡ Some x)
entry_below [] n h = absurd (omega arith)
entry_below (x ∷ xs) zero h = (x, refl)
entry_below (x ∷ xs) (suc n) h = entry_below xs n (omega arith)

-- a literal is named by its text
pub named_again : (ls : List EnumLiteral) (n : ℕ) → has_repeat (map (λ l. l.text) ls) ≡ false → n < length ls → literal_in ls (text_in ls n) ≡ Some n
named_again ls n apart h =
    let l = entry_below ls n h in
    let text : text_in ls n ≡ l.0.text = ap (λ o. option_map_or (λ l. l.text) o []) l.1 in
    let at : number_of l.0.text (map (λ l. l.text) ls) ≡ Some n = number_at (map (λ l. l.text) ls) n l.0.text apart (entry_of_map (λ l. l.text) ls n l.0 l.1) in
    ap (literal_in ls) text ∙ ap (λ o. or_else o (number_of l.0.text (map (λ l. l.name) ls))) at
