-- Names in lists: one more at the end.
use Rattle.std.proofs.Common.{◌≡◌, ℕ, zero, suc, ◌+◌, ◌<◌, Bool, true, false, List, [], ◌∷◌, ◌++◌, ◌||◌, cond, refl, sym, ap, subst, ◌∙◌, arith, length}
use Rattle.std.proofs.Common.{take, drop, get_or, map, rules}
use Rattle.std.specs.Prelude.{Option, None, Some, is_some}
use Rattle.std.specs.List.{list_any}
use Rattle.std.specs.Option.{option_map}
use Rattle.std.specs.Str.{bytes_eq}
use Rattle.std.specs.Map.{update}
use Rattle.std.proofs.lemmas.Slice.Eq.{bytes_eq-Decides}
use Rattle.std.proofs.lemmas.List.{take_more, map-append, take-append-drop, length-take-le, length-map}
use Rattle.std.proofs.lemmas.List.Folds.{list_any-append}
use Rattle.ecore_meta.specs.Names.{Name, has_repeat, number_of}
use Rattle.ecore_meta.specs.Values.{or_else}

same_some : (x y : ℕ) → Some x ≡ Some y → x ≡ y
same_some x y h = cc

pub same : (x y : Name) → bytes_eq x y ≡ true → x ≡ y
same x y h = search (rules, bytes_eq-Decides)

pub itself : (x : Name) → bytes_eq x x ≡ true
itself x = search (rules, bytes_eq-Decides)

pub turned : (x y : Name) → bytes_eq x y ≡ bytes_eq y x
turned x y = by_first (bytes_eq x y) refl
  where
    by_second : (b : Bool) → bytes_eq y x ≡ b → bytes_eq x y ≡ false → bytes_eq x y ≡ bytes_eq y x
    by_second true f e = let k : bytes_eq x y ≡ true = subst (λ z. bytes_eq x z ≡ true) (sym (same y x f)) (itself x) in cc
    by_second false f e = cc

    by_first : (b : Bool) → bytes_eq x y ≡ b → bytes_eq x y ≡ bytes_eq y x
    by_first true e = let k : bytes_eq y x ≡ true = subst (λ z. bytes_eq z x ≡ true) (same x y e) (itself x) in cc
    by_first false e = by_second (bytes_eq y x) refl e

pub or_none : (o : Option ℕ) → or_else o None ≡ o
or_none None = refl
or_none (Some m) = refl

pub number_of-push : (q x : Name) (xs : List Name) → number_of q (xs ++ x ∷ []) ≡ or_else (number_of q xs) (cond (bytes_eq q x) (Some (length xs)) None)
number_of-push q x [] = refl
number_of-push q x (y ∷ ys) =
    ap (λ o. cond (bytes_eq q y) (Some 0) (option_map (λ n. suc n) o)) (number_of-push q x ys)
    ∙ by_tests (bytes_eq q y) (bytes_eq q x) (number_of q ys) (length ys)
  where
    by_tests : (a b : Bool) (o : Option ℕ) (n : ℕ)
        → cond a (Some 0) (option_map (λ n. suc n) (or_else o (cond b (Some n) None))) ≡ or_else (cond a (Some 0) (option_map (λ n. suc n) o))
        (cond b (Some (suc n)) None)
    by_tests true b o n = refl
    by_tests false true None n = refl
    by_tests false false None n = refl
    by_tests false b (Some m) n = refl

-- a name that an index is given at its end
pub told_more : (x q : Name) (xs : List Name) (n : ℕ) (o : Option ℕ) → number_of x xs ≡ None → length xs ≡ n → o ≡ number_of q xs
    → cond (bytes_eq x q) (Some n) o ≡ number_of q (xs ++ x ∷ [])
told_more x q xs n o absent long is = by_test (bytes_eq x q) refl
  where
    by_test : (b : Bool) → bytes_eq x q ≡ b → cond b (Some n) o ≡ number_of q (xs ++ x ∷ [])
    by_test true e =
        let k : number_of q xs ≡ None = subst (λ z. number_of z xs ≡ None) (same x q e) absent in
        let t : bytes_eq q x ≡ true = sym (turned x q) ∙ e in
        ap (λ (i : ℕ). Some i) (sym long)
        ∙ sym (number_of-push q x xs ∙ ap (λ o. or_else o (cond (bytes_eq q x) (Some (length xs)) None)) k
        ∙ ap (λ b. cond b (Some (length xs)) None) t)
    by_test false e =
        let t : bytes_eq q x ≡ false = sym (turned x q) ∙ e in
        is ∙ sym (number_of-push q x xs ∙ ap (λ b. or_else (number_of q xs) (cond b (Some (length xs)) None)) t ∙ or_none (number_of q xs))

or_assoc : (a b c : Bool) → a || b || c ≡ a || (b || c)
or_assoc true b c = refl
or_assoc false b c = refl

or_true : (b : Bool) → b || true ≡ true
or_true true = refl
or_true false = refl

or_cases : (a b : Bool) → a || b ≡ true → (c d : Bool) → (a ≡ true → c ≡ true) → (b ≡ true → d ≡ true) → c || d ≡ true
or_cases true b h c d f g = ap (λ x. x || d) (f refl)
or_cases false b h c d f g = ap (λ x. c || x) (g h) ∙ or_true c

pub has_repeat-append : (xs ys : List Name) → has_repeat xs ≡ true → has_repeat (xs ++ ys) ≡ true
has_repeat-append [] ys h = cc
has_repeat-append (x ∷ xs) ys h =
    or_cases (list_any (bytes_eq x) xs) (has_repeat xs) h (list_any (bytes_eq x) (xs ++ ys)) (has_repeat (xs ++ ys))
    (λ e. list_any-append (bytes_eq x) xs ys ∙ ap (λ b. b || list_any (bytes_eq x) ys) e)
    (λ e. has_repeat-append xs ys e)

-- a name is in a list exactly where it has a number there
pub listed : (x : Name) (xs : List Name) → list_any (bytes_eq x) xs ≡ is_some (number_of x xs)
listed x [] = refl
listed x (y ∷ ys) = ap (λ b. bytes_eq x y || b) (listed x ys) ∙ by_test (bytes_eq x y) (number_of x ys)
  where
    by_test : (b : Bool) (o : Option ℕ) → b || is_some o ≡ is_some (cond b (Some 0) (option_map (λ n. suc n) o))
    by_test true o = refl
    by_test false None = refl
    by_test false (Some n) = refl

-- the name of an item of the list has a number
pub number_at : {X : Type 0} (name : X → Name) (xs : List X) (i : ℕ) (d : X) → i < length xs
    → is_some (number_of (name (get_or xs i d)) (map name xs)) ≡ true
number_at name [] i d h = absurd (omega (arith, h))
number_at name (x ∷ xs) zero d h = ap (λ b. is_some (cond b (Some 0) (option_map (λ n. suc n) (number_of (name x) (map name xs))))) (itself (name x))
number_at name (x ∷ xs) (suc i) d h =
    by_test (bytes_eq (name (get_or xs i d)) (name x)) (number_of (name (get_or xs i d)) (map name xs)) (number_at name xs i d (omega (arith, h)))
  where
    by_test : (b : Bool) (o : Option ℕ) → is_some o ≡ true → is_some (cond b (Some 0) (option_map (λ n. suc n) o)) ≡ true
    by_test true o h = refl
    by_test false None h = cc
    by_test false (Some n) h = refl

pub has_repeat-push : (xs : List Name) (x : Name) → has_repeat (xs ++ x ∷ []) ≡ has_repeat xs || is_some (number_of x xs)
has_repeat-push [] x = refl
has_repeat-push (y ∷ ys) x =
    ap (λ b. list_any (bytes_eq y) (ys ++ x ∷ []) || b) (has_repeat-push ys x)
    ∙ ap (λ b. b || (has_repeat ys || is_some (number_of x ys))) (list_any-append (bytes_eq y) ys (x ∷ []))
    ∙ ap (λ b. list_any (bytes_eq y) ys || (b || false) || (has_repeat ys || is_some (number_of x ys))) (turned y x)
    ∙ by_tests (list_any (bytes_eq y) ys) (bytes_eq x y) (has_repeat ys) (number_of x ys)
  where
    by_tests : (a b c : Bool) (o : Option ℕ) → a || (b || false) || (c || is_some o) ≡ a || c || is_some (cond b (Some 0) (option_map (λ n. suc n) o))
    by_tests true b c o = refl
    by_tests false true true o = refl
    by_tests false true false o = refl
    by_tests false false true o = refl
    by_tests false false false None = refl
    by_tests false false false (Some n) = refl

-- the names so far, with the next
pub next_names : {X : Type 0} (name : X → Name) (xs : List X) (i : ℕ) (d : X) → i < length xs
    → map name (take (i + 1) xs) ≡ map name (take i xs) ++ name (get_or xs i d) ∷ []
next_names name xs i d h = ap (map name) (take_more xs i d h) ∙ map-append name (take i xs) (get_or xs i d ∷ [])

-- the next name stands among those so far, so the whole list repeats it
pub repeat_found : {X : Type 0} (name : X → Name) (xs : List X) (i : ℕ) (d : X) → i < length xs
    → true ≡ is_some (number_of (name (get_or xs i d)) (map name (take i xs))) → has_repeat (map name xs) ≡ true
repeat_found name xs i d h found =
    subst (λ ys. has_repeat ys ≡ true) (sym (map-append name (take (i + 1) xs) (drop (i + 1) xs)) ∙ ap (map name) (take-append-drop (i + 1) xs))
    (has_repeat-append (map name (take (i + 1) xs)) (map name (drop (i + 1) xs))
    (ap has_repeat (next_names name xs i d h) ∙ has_repeat-push (map name (take i xs)) (name (get_or xs i d))
    ∙ ap (λ b. has_repeat (map name (take i xs)) || b) (sym found) ∙ or_true (has_repeat (map name (take i xs)))))

-- the next name is new, so the list so far still repeats none
pub still_apart : {X : Type 0} (name : X → Name) (xs : List X) (i : ℕ) (d : X) → i < length xs → has_repeat (map name (take i xs)) ≡ false
    → false ≡ is_some (number_of (name (get_or xs i d)) (map name (take i xs))) → has_repeat (map name (take (i + 1) xs)) ≡ false
still_apart name xs i d h apart new =
    ap has_repeat (next_names name xs i d h) ∙ has_repeat-push (map name (take i xs)) (name (get_or xs i d))
    ∙ ap (λ b. b || is_some (number_of (name (get_or xs i d)) (map name (take i xs)))) apart ∙ sym new

pub none_of : (o : Option ℕ) → false ≡ is_some o → o ≡ None
none_of None h = refl
none_of (Some n) h = cc

-- the index with the next name is that of the list so far
pub still_told : {X : Type 0} (name : X → Name) (xs : List X) (i : ℕ) (d : X) → i < length xs
    → false ≡ is_some (number_of (name (get_or xs i d)) (map name (take i xs))) → (x : Name) → x ≡ name (get_or xs i d) → (f : Name → Option ℕ)
    → ((q : Name) → f q ≡ number_of q (map name (take i xs))) → (q : Name) → update bytes_eq f x (Some i) q ≡ number_of q (map name (take (i + 1) xs))
still_told name xs i d h new x is f told q =
    ap (λ z. cond (bytes_eq z q) (Some i) (f q)) is
    ∙ told_more (name (get_or xs i d)) q (map name (take i xs)) i (f q) (none_of _ new)
    (length-map (take i xs) name ∙ length-take-le i xs (omega arith)) (told q)
    ∙ sym (ap (number_of q) (next_names name xs i d h))

-- a number that a name has stays, whatever follows
number_of-kept : (q : Name) (xs ys : List Name) (n : ℕ) → number_of q xs ≡ Some n → number_of q (xs ++ ys) ≡ Some n
number_of-kept q [] ys n h = cc
number_of-kept q (x ∷ xs) ys n h = by_test (bytes_eq q x) (number_of q xs) refl (λ m e. number_of-kept q xs ys m e) h
  where
    by_test : (b : Bool) (o : Option ℕ) → number_of q xs ≡ o → ((m : ℕ) → number_of q xs ≡ Some m → number_of q (xs ++ ys) ≡ Some m)
        → cond b (Some 0) (option_map (λ n. suc n) o) ≡ Some n → cond b (Some 0) (option_map (λ n. suc n) (number_of q (xs ++ ys))) ≡ Some n
    by_test true o is more h = h
    by_test false None is more h = cc
    by_test false (Some m) is more h = ap (λ o. option_map (λ n. suc n) o) (more m is) ∙ h

-- a name that is not among those so far has the number of its place
pub first_place : {X : Type 0} (name : X → Name) (q : Name) (xs : List X) (i : ℕ) (d : X) → i < length xs → number_of q (map name (take i xs)) ≡ None
    → true ≡ bytes_eq (name (get_or xs i d)) q → Some i ≡ number_of q (map name xs)
first_place name q xs i d h before equal =
    sym (ap (number_of q) (sym (ap (map name) (take-append-drop (i + 1) xs)) ∙ map-append name (take (i + 1) xs) (drop (i + 1) xs))
    ∙ number_of-kept q (map name (take (i + 1) xs)) (map name (drop (i + 1) xs)) i here)
  where
    here : number_of q (map name (take (i + 1) xs)) ≡ Some i
    here =
        ap (number_of q) (next_names name xs i d h)
        ∙ number_of-push q (name (get_or xs i d)) (map name (take i xs))
        ∙ ap (λ o. or_else o (cond (bytes_eq q (name (get_or xs i d))) (Some (length (map name (take i xs)))) None)) before
        ∙ ap (λ b. cond b (Some (length (map name (take i xs)))) None) (turned q (name (get_or xs i d)) ∙ sym equal)
        ∙ ap (λ (n : ℕ). Some n) (length-map (take i xs) name ∙ length-take-le i xs (omega arith))

-- a name that is not the next is still not among those so far
pub still_absent : {X : Type 0} (name : X → Name) (q : Name) (xs : List X) (i : ℕ) (d : X) → i < length xs → number_of q (map name (take i xs)) ≡ None
    → false ≡ bytes_eq (name (get_or xs i d)) q → number_of q (map name (take (i + 1) xs)) ≡ None
still_absent name q xs i d h before apart =
    ap (number_of q) (next_names name xs i d h)
    ∙ number_of-push q (name (get_or xs i d)) (map name (take i xs))
    ∙ ap (λ o. or_else o (cond (bytes_eq q (name (get_or xs i d))) (Some (length (map name (take i xs)))) None)) before
    ∙ ap (λ b. cond b (Some (length (map name (take i xs)))) None) (turned q (name (get_or xs i d)) ∙ sym apart)

-- the number of a name is a place of the list
pub number_of-below : (q : Name) (xs : List Name) (n : ℕ) → number_of q xs ≡ Some n → n < length xs
number_of-below q [] n h = cc
number_of-below q (x ∷ xs) n h = by_test (bytes_eq q x) (number_of q xs) refl (λ m e. number_of-below q xs m e) h
  where
    by_test : (b : Bool) (o : Option ℕ) → number_of q xs ≡ o → ((m : ℕ) → number_of q xs ≡ Some m → m < length xs)
        → cond b (Some 0) (option_map (λ n. suc n) o) ≡ Some n → n < suc (length xs)
    by_test true o is more h = let e : 0 ≡ n = same_some 0 n h in omega (arith, e)
    by_test false None is more h = cc
    by_test false (Some m) is more h = let e : suc m ≡ n = same_some (suc m) n h in let k : m < length xs = more m is in omega (arith, e, k)
