-- The names of versions' tags, as one tag more is gone over.
use Rattle.std.proofs.Common.{◌≡◌, ℕ, zero, suc, ◌+◌, ◌<◌, ◌≤◌, Bool, true, false, cond, nat_eq, List, [], ◌∷◌, ◌++◌, refl, sym, ap, ◌∙◌, map, take}
use Rattle.std.proofs.Common.{length, get_or, set, arith, append-nil, get_or-set_same, get_or-set_other}
use Rattle.std.specs.List.{filter}
use Rattle.std.proofs.Math.Seq.{take-suc}
use Rattle.std.proofs.lemmas.Bool.{ne_eqb, eq-eqb, eqb-true, eqb-false}
use Rattle.std.proofs.lemmas.List.{map-append, take_all}
use Rattle.std.proofs.lemmas.List.Elements.{filter-append}
use Rattle.history_tree.specs.declared.version.Tag.{Tag}

-- the names of a version's tags
abbrev pub names_at : ℕ → List Tag → List (List ℕ)
names_at v tags = map (λ t. t.name) (filter (λ t. nat_eq t.version v) tags)

-- a number is another, or it isn't
same_or_not : (r s : ℕ) {G : Type 0} → (r ≡ s → G) → ((r ≡ s → ⊥) → G) → G
same_or_not r s {G = G} same other = elim (nat_eq r s) as (λ b. nat_eq r s ≡ b → G) [
  | true ↦ λ e. same (eqb-true r s e)
  | false ↦ λ e. other (eqb-false r s e)
] refl

-- a name is put into the list of a version
pub put_name : (lists made : List (List (List ℕ))) (at : ℕ) (name : List ℕ) (old new : List (List ℕ)) → at < length lists → old ≡ get_or lists at old
    → new ≡ old ++ name ∷ [] → made ≡ set lists at new
    → (v : ℕ) → v < length lists → get_or made v [] ≡ cond (nat_eq at v) (get_or lists v [] ++ name ∷ []) (get_or lists v [])
put_name lists made at name old new low is put out v there = same_or_not at v
    (λ e.
    ap (λ l. get_or l v []) out ∙ ap (λ n. get_or (set lists at new) n []) (sym e) ∙ get_or-set_same lists at new [] low ∙ put
    ∙ ap (λ l. l ++ name ∷ []) (is ∙ either lists at old [] low ∙ ap (λ n. get_or lists n []) e)
    ∙ ap (λ b. cond b (get_or lists v [] ++ name ∷ []) (get_or lists v [])) (sym (eq-eqb at v e)))
    (λ f.
    ap (λ l. get_or l v []) out ∙ get_or-set_other lists at v new [] (λ e. f (sym e))
    ∙ ap (λ b. cond b (get_or lists v [] ++ name ∷ []) (get_or lists v [])) (sym (ne_eqb at v f)))
  where
    either : (xs : List (List (List ℕ))) (i : ℕ) (x y : List (List ℕ)) → i < length xs → get_or xs i x ≡ get_or xs i y
    either [] i x y low = absurd (omega (arith, low))
    either (z ∷ xs) zero x y low = refl
    either (z ∷ xs) (suc i) x y low = either xs i x y (omega (arith, low))

with_one : (b : Bool) (f : Tag → List ℕ) (ts : List Tag) (t : Tag) → map f (ts ++ cond b (t ∷ []) []) ≡ cond b (map f ts ++ f t ∷ []) (map f ts)
with_one true f ts t = map-append f ts (t ∷ [])
with_one false f ts t = ap (map f) (append-nil ts)

names_push : (v : ℕ) (ts : List Tag) (t : Tag) → names_at v (ts ++ t ∷ []) ≡ cond (nat_eq t.version v) (names_at v ts ++ t.name ∷ []) (names_at v ts)
names_push v ts t =
    ap (map (λ (x : Tag). x.name)) (filter-append (λ (x : Tag). nat_eq x.version v) ts (t ∷ []))
    ∙ with_one (nat_eq t.version v) (λ (x : Tag). x.name) (filter (λ (x : Tag). nat_eq x.version v) ts) t

pub names_more : (v : ℕ) (tags : List Tag) (i version : ℕ) (name : List ℕ) (t : Tag) (old new : List (List ℕ)) → i < length tags → t ≡ get_or tags i t
    → version ≡ t.version → name ≡ t.name
    → old ≡ names_at v (take i tags) → new ≡ cond (nat_eq version v) (old ++ name ∷ []) old → new ≡ names_at v (take (i + 1) tags)
names_more v tags i version name t old new low is at named so_far put =
    let e : i + 1 ≡ suc i = omega arith in
    put
    ∙ (λ n. cond (nat_eq (at n) v) (so_far n ++ named n ∷ []) (so_far n))
    ∙ sym (names_push v (take i tags) t)
    ∙ ap (λ x. names_at v (take i tags ++ x ∷ [])) is
    ∙ ap (names_at v) (sym (ap (λ n. take n tags) e ∙ take-suc tags i t low))

pub names_all : (v : ℕ) (tags : List Tag) (i : ℕ) (found : List (List ℕ)) → length tags ≤ i → found ≡ names_at v (take i tags) → found ≡ names_at v tags
names_all v tags i found past is = is ∙ ap (names_at v) (take_all i tags past)
