-- What the lists of a table answer is what the index does.
use Rattle.std.proofs.Common.{◌≡◌, ℕ, zero, suc, ◌<◌, ◌≤◌, Bool, true, false, cond, ◌+◌, ◌||◌, List, [], ◌∷◌, ◌++◌, take, length, refl, inl, inr, sym}
use Rattle.std.proofs.Common.{◌∙◌, ap, arith}
use Rattle.std.specs.Prelude.{All, Contains, ◌⊎◌, Option, None, Some, is_some, slice_get}
use Rattle.std.specs.List.{list_any}
use Rattle.std.proofs.lemmas.List.Elements.{All-contains, All-head, All-tail}
use Rattle.ecore_meta.specs.Meta.{Meta}
use Rattle.model_state.specs.Keys.{IdBytes}
use Rattle.history_tree.specs.declared.version.Version.{Version}
use Rattle.history_tree.specs.Laws.{Rises}
use Rattle.history_tree.specs.MergeBase.{is_among}
use Rattle.history_tree.specs.States.{package_of_version}
use Rattle.change_index.specs.Last.{IsLast, later, last_of}
use Rattle.change_index.specs.Written.{Pairs, wrote, written}
use Rattle.change_index.specs.Table.{Table, listed, pairs_below}
use Rattle.change_index.specs.Index.{wrote_in, index_of}
use Rattle.change_index.proofs.Sets.{wrote_in-listed, contains-written, length-pairs_below}

-- tests that answer alike on a list have the same last number there
pub last_same : (p q : ℕ → Bool) (us : List ℕ) → ((u : ℕ) → Contains us u → p u ≡ q u) → (o : Option ℕ) → IsLast p us o → IsLast q us o
last_same p q us alike None none = λ w there. sym (alike w there) ∙ none w there
last_same p q us alike (Some u) is = record {
  there = is.there;
  passes = sym (alike u is.there) ∙ is.passes;
  greatest = λ w there passes. is.greatest w there (alike w there ∙ passes);
}

clash : {x : Bool} → x ≡ false → x ≡ true → ⊥
clash is other = cc

-- there is one last number
pub last_one : (p : ℕ → Bool) (us : List ℕ) (a b : Option ℕ) → IsLast p us a → IsLast p us b → a ≡ b
last_one p us None None first second = refl
last_one p us None (Some v) first second = absurd (clash (first v second.there) second.passes)
last_one p us (Some u) None first second = absurd (clash (second u first.there) first.passes)
last_one p us (Some u) (Some v) first second =
    let low : u ≤ v = second.greatest u first.there first.passes in
    let high : v ≤ u = first.greatest v second.there second.passes in
    let same : u ≡ v = omega (arith, low, high) in
    ap Some same

contains_later : (u : ℕ) (us : List ℕ) (w : ℕ) → Contains (u ∷ us) w → (u ≡ w) ⊎ Contains us w
contains_later u us w (zero, within, is) = inl is
contains_later u us w (suc k, within, is) = inr (k, omega (arith, within), is)

one_later : (p : ℕ → Bool) (u : ℕ) (us : List ℕ) → All (λ v. u < v) us → (o : Option ℕ) → IsLast p us o → (b : Bool) → p u ≡ b
    → IsLast p (u ∷ us) (later (cond b (Some u) None) o)
one_later p u us above (Some v) is b here = record {
  there = (suc is.there.0, omega (arith, is.there.1), is.there.2);
  passes = is.passes;
  greatest = λ w there passes. elim (contains_later u us w there) [
    | inl same ↦ let less : u < v = All-contains (λ x. u < x) us v above is.there in omega (arith, less, same)
    | inr more ↦ is.greatest w more passes
  ];
}
one_later p u us above None none true here = record {
  there = (0, omega arith, refl);
  passes = here;
  greatest = λ w there passes. elim (contains_later u us w there) [
    | inl same ↦ omega (arith, same)
    | inr more ↦ absurd (clash (none w more) passes)
  ];
}
one_later p u us above None none false here = λ w there. elim (contains_later u us w there) [
  | inl same ↦ ap p (sym same) ∙ here
  | inr more ↦ none w more
]

-- the last that passes is the greatest, where the list rises
pub last_found : (p : ℕ → Bool) (us : List ℕ) → Rises us → IsLast p us (last_of p us)
last_found p [] rises = λ w (k, within, is). absurd (omega (arith, within))
last_found p (u ∷ us) rises = one_later p u us rises.0 (last_of p us) (last_found p us rises.1) (p u) refl

-- the last number by the list of a feature is that by the index
pub last_listed : (t : Table) (n : ℕ) (index : List Pairs) → pairs_below t n ≡ index → (e : IdBytes) (f : ℕ) (us : List ℕ)
    → All (λ u. u < length index) us → (o : Option ℕ) → IsLast (is_among (listed t e f)) us o → IsLast (wrote_in index e f) us o
last_listed t n index is e f us all o last = last_same (is_among (listed t e f)) (wrote_in index e f) us
    (λ u there.
    let low : u < length index = All-contains (λ w. w < length index) us u all there in
    let size : length index ≡ n = sym (ap length is) ∙ length-pairs_below t n in
    sym (wrote_in-listed t n u (omega (arith, low, size)) e f) ∙ ap (λ x. wrote_in x e f u) is)
    o last

or-true : (b : Bool) → (b || true) ≡ true
or-true true = refl
or-true false = refl

nowhere : (p : ℕ → Bool) (us : List ℕ) → ((w : ℕ) → Contains us w → p w ≡ false) → list_any p us ≡ false
nowhere p [] none = refl
nowhere p (u ∷ us) none =
    let more : list_any p us ≡ false = nowhere p us (λ w (k, low, is). none w (suc k, omega (arith, low), is)) in
    ap (λ b. b || list_any p us) (none u (0, omega arith, refl)) ∙ more

somewhere : (p : ℕ → Bool) (u : ℕ) (us : List ℕ) → Contains us u → p u ≡ true → list_any p us ≡ true
somewhere p u [] (k, low, is) passes = absurd (omega (arith, low))
somewhere p u (w ∷ us) (zero, low, is) passes = ap (λ b. b || list_any p us) (ap p is ∙ passes)
somewhere p u (w ∷ us) (suc k, low, is) passes = ap (λ b. p w || b) (somewhere p u us (k, omega (arith, low), is) passes) ∙ or-true (p w)

-- a number passes on a list where there is a last that does
pub some_last : (p : ℕ → Bool) (us : List ℕ) (o : Option ℕ) → IsLast p us o → is_some o ≡ list_any p us
some_last p us None none = sym (nowhere p us none)
some_last p us (Some u) is = sym (somewhere p u us is.there is.passes)

-- a version of the path wrote the feature, by the list and by the index
pub any_listed : (t : Table) (n : ℕ) (index : List Pairs) → pairs_below t n ≡ index → (e : IdBytes) (f : ℕ) (us : List ℕ)
    → All (λ u. u < length index) us → list_any (is_among (listed t e f)) us ≡ list_any (wrote_in index e f) us
any_listed t n index is e f [] all = refl
any_listed t n index is e f (u ∷ us) all =
    let low : u < length index = All-head (λ w. w < length index) u us all in
    let size : length index ≡ n = sym (ap length is) ∙ length-pairs_below t n in
    let here : is_among (listed t e f) u ≡ wrote_in index e f u = sym (wrote_in-listed t n u (omega (arith, low, size)) e f) ∙ ap (λ x. wrote_in x e f u) is in
    let more : list_any (is_among (listed t e f)) us ≡ list_any (wrote_in index e f) us =
    any_listed t n index is e f us (All-tail (λ w. w < length index) u us all) in
    λ i. here i || more i

-- ---- the index of versions
length-index_of : (meta : Meta) (vs : List Version) → length (index_of meta vs) ≡ length vs
length-index_of meta [] = refl
length-index_of meta (v ∷ vs) = omega (arith, length-index_of meta vs)

length-taken : {X : Type 0} (n : ℕ) (xs : List X) → n ≤ length xs → length (take n xs) ≡ n
length-taken zero xs fits = refl
length-taken (suc n) [] fits = absurd (omega (arith, fits))
length-taken (suc n) (x ∷ xs) fits = omega (arith, length-taken n xs (omega (arith, fits)))

pub length-first : (meta : Meta) (vs : List Version) (n : ℕ) → n ≤ length vs → length (index_of meta (take n vs)) ≡ n
length-first meta vs n fits = length-index_of meta (take n vs) ∙ length-taken n vs fits

-- what it says of a version is what the version wrote
pub wrote_in-first : (meta : Meta) (vs : List Version) (n u : ℕ) → u < n → (e : IdBytes) (f : ℕ)
    → wrote_in (index_of meta (take n vs)) e f u ≡ wrote meta (package_of_version vs u) e f
wrote_in-first meta vs zero u low e f = absurd (omega (arith, low))
wrote_in-first meta [] (suc n) u low e f = refl
wrote_in-first meta (v ∷ vs) (suc n) zero low e f = contains-written meta v.«package» e f
wrote_in-first meta (v ∷ vs) (suc n) (suc u) low e f = wrote_in-first meta vs n u (omega (arith, low)) e f

pub index_of-push : (meta : Meta) (vs : List Version) (v : Version) → index_of meta (vs ++ v ∷ []) ≡ index_of meta vs ++ written meta v.«package» ∷ []
index_of-push meta [] v = refl
index_of-push meta (w ∷ vs) v = ap (λ l. written meta w.«package» ∷ l) (index_of-push meta vs v)

-- one version more
pub index_of-more : (meta : Meta) (vs : List Version) (k : ℕ) (version : Version) → slice_get vs k ≡ Some version
    → index_of meta (take (k + 1) vs) ≡ index_of meta (take k vs) ++ written meta version.«package» ∷ []
index_of-more meta [] k version is = absurd cc
index_of-more meta (w ∷ vs) zero version is =
    let same : w ≡ version = cc in
    ap (λ (x : Version). written meta x.«package» ∷ []) same
index_of-more meta (w ∷ vs) (suc k) version is =
    let next : suc k + 1 ≡ suc (k + 1) = omega arith in
    ap (λ n. index_of meta (take n (w ∷ vs))) next ∙ ap (λ l. written meta w.«package» ∷ l) (index_of-more meta vs k version is)
