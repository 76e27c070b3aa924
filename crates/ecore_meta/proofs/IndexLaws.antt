-- Indexes of names, one name or one enum more.
use Rattle.std.proofs.Common.{String, ◌≡◌, ℕ, zero, suc, ◌+◌, ◌<◌, Bool, true, false, cond, List, [], ◌∷◌, ◌++◌, refl, sym, ap, subst, ◌∙◌, arith}
use Rattle.std.proofs.Common.{length, map, take, get_or}
use Rattle.std.specs.Prelude.{Option, None, Some, is_some, slice_get}
use Rattle.std.specs.BTreeMap.{BTreeMap, get_by_text}
use Rattle.std.specs.Map.{update}
use Rattle.std.specs.Option.{option_and_then}
use Rattle.std.specs.Str.{bytes_eq}
use Rattle.std.proofs.lemmas.List.{length-map, length-take-le, take_more}
use Rattle.ecore_meta.specs.Indexes.{AllKnown}
use Rattle.ecore_meta.specs.Names.{Name, number_of}
use Rattle.ecore_meta.specs.Values.{literal_in, literals_at, or_else}
use Rattle.ecore_meta.specs.declared.meta.Enum.{Enum}
use Rattle.ecore_meta.proofs.NameLaws.{next_names, none_of, number_of-push, or_none, same, turned}

or_thrice : (a b c : Option ℕ) → or_else (or_else a b) c ≡ or_else a (or_else b c)
or_thrice None b c = refl
or_thrice (Some n) b c = refl

-- a name that the index has, entered again
pub entered_there : (f : Name → Option ℕ) (x q : Name) (n : ℕ) → true ≡ is_some (f x) → f q ≡ or_else (f q) (cond (bytes_eq q x) (Some n) None)
entered_there f x q n there = by_test (bytes_eq q x) refl
  where
    kept : (o p : Option ℕ) → true ≡ is_some o → o ≡ or_else o p
    kept None p h = cc
    kept (Some m) p h = refl

    by_test : (b : Bool) → bytes_eq q x ≡ b → f q ≡ or_else (f q) (cond b (Some n) None)
    by_test true e = kept (f q) (Some n) (subst (λ z. true ≡ is_some (f z)) (sym (same q x e)) there)
    by_test false e = sym (or_none (f q))

-- a name that is a text which the index has, entered again
pub entered_own : (f : Name → Option ℕ) (x t q : Name) (n : ℕ) → true ≡ bytes_eq x t → is_some (f t) ≡ true
    → f q ≡ or_else (f q) (cond (bytes_eq q x) (Some n) None)
entered_own f x t q n own there = entered_there f x q n (subst (λ z. true ≡ is_some (f z)) (sym (same x t (sym own))) (sym there))

-- an index that has what another has, and more
pub has_more : (a b : Option ℕ) → is_some a ≡ true → is_some (or_else a b) ≡ true
has_more None b h = cc
has_more (Some n) b h = refl

-- a name that the index lacks, entered
pub entered_new : (f : Name → Option ℕ) (x q z : Name) (n : ℕ) → z ≡ x → false ≡ is_some (f x)
    → update bytes_eq f z (Some n) q ≡ or_else (f q) (cond (bytes_eq q x) (Some n) None)
entered_new f x q z n is new = ap (λ y. cond (bytes_eq y q) (Some n) (f q)) is ∙ by_test (bytes_eq x q) refl
  where
    by_test : (b : Bool) → bytes_eq x q ≡ b → cond b (Some n) (f q) ≡ or_else (f q) (cond (bytes_eq q x) (Some n) None)
    by_test true e =
        let k : f q ≡ None = subst (λ z. f z ≡ None) (same x q e) (none_of (f x) new) in
        let t : bytes_eq q x ≡ true = sym (turned x q) ∙ e in
        sym (ap (λ o. or_else o (cond (bytes_eq q x) (Some n) None)) k ∙ ap (λ b. cond b (Some n) None) t)
    by_test false e =
        let t : bytes_eq q x ≡ false = sym (turned x q) ∙ e in
        sym (ap (λ b. or_else (f q) (cond b (Some n) None)) t ∙ or_none (f q))

-- the next name of a list, entered after those before it
pub entered_more : {X : Type 0} (name : X → Name) (xs : List X) (i : ℕ) (d : X) → i < length xs → (g : Option ℕ) (q x : Name)
    → x ≡ name (get_or xs i d)
    → or_else (or_else g (number_of q (map name (take i xs)))) (cond (bytes_eq q x) (Some i) None) ≡ or_else g (number_of q (map name (take (i + 1) xs)))
entered_more name xs i d h g q x is =
    ap (λ y. or_else (or_else g (number_of q (map name (take i xs)))) (cond (bytes_eq q y) (Some i) None)) is
    ∙ or_thrice g (number_of q (map name (take i xs))) (cond (bytes_eq q (name (get_or xs i d))) (Some i) None)
    ∙ ap (or_else g) (sym (ap (number_of q) (next_names name xs i d h)
    ∙ number_of-push q (name (get_or xs i d)) (map name (take i xs))
    ∙ ap (λ (k : ℕ). or_else (number_of q (map name (take i xs))) (cond (bytes_eq q (name (get_or xs i d))) (Some k) None))
    (length-map (take i xs) name ∙ length-take-le i xs (omega arith))))

known_push : {Y : Type 0} (es : List Enum) (ms : List (BTreeMap (String Y) ℕ)) (e : Enum) (m : BTreeMap (String Y) ℕ) → AllKnown es ms
    → ((q : Name) → get_by_text m q ≡ literal_in e.literals q) → AllKnown (es ++ e ∷ []) (ms ++ m ∷ [])
known_push [] [] e m known here = (here, tt)
known_push [] (x ∷ ms) e m known here = absurd known
known_push (x ∷ es) [] e m known here = absurd known
known_push (x ∷ es) (y ∷ ms) e m known here = (known.0, known_push es ms e m known.1 here)

-- the indexes of the enums so far, with the next
pub known_more : {Y : Type 0} (es : List Enum) (i : ℕ) (d : Enum) (ms : List (BTreeMap (String Y) ℕ)) (m : BTreeMap (String Y) ℕ)
    (ns : List (BTreeMap (String Y) ℕ)) → ns ≡ ms ++ m ∷ [] → i < length es → AllKnown (take i es) ms
    → ((q : Name) → get_by_text m q ≡ literal_in (get_or es i d).literals q) → AllKnown (take (i + 1) es) ns
known_more es i d ms m ns is h known here =
    subst (λ ks. AllKnown (take (i + 1) es) ks) (sym is)
    (subst (λ xs. AllKnown xs (ms ++ m ∷ [])) (sym (take_more es i d h)) (known_push (take i es) ms (get_or es i d) m known here))

-- what the index of an enum says
pub known_at : {Y : Type 0} (es : List Enum) (ms : List (BTreeMap (String Y) ℕ)) (e : ℕ) (q : Name) → AllKnown es ms
    → option_and_then (λ m. get_by_text m q) (slice_get ms e) ≡ literal_in (literals_at es e) q
known_at [] [] e q known = refl
known_at [] (m ∷ ms) e q known = absurd known
known_at (x ∷ es) [] e q known = absurd known
known_at (x ∷ es) (m ∷ ms) zero q known = known.0 q
known_at (x ∷ es) (m ∷ ms) (suc e) q known = known_at es ms e q known.1
