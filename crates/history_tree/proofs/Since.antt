-- The path of a version goes on from that of each version on it, and so do the operations.
use Rattle.std.proofs.Common.{◌≡◌, ◌⊎◌, inl, inr, ℕ, zero, suc, ◌<◌, ◌≤◌, nat_lt, Bool, true, false, cond, List, [], ◌∷◌, ◌++◌, length, get_or, refl}
use Rattle.std.proofs.Common.{sym, ◌∙◌, ap, subst, arith, append-nil, append_assoc, reverse}
use Rattle.std.specs.Prelude.{All, Contains, Option, None, Some, slice_get}
use Rattle.std.specs.List.{filter}
use Rattle.std.proofs.lemmas.Bool.{ltb-true, ltb-false}
use Rattle.std.proofs.lemmas.List.Elements.{All-cons, All-head, All-tail, All-weaker, All-contains, Contains-append_cases, Contains-append_left}
use Rattle.std.proofs.lemmas.List.Elements.{Contains-push_cases, filter-append}
use Rattle.std.proofs.lemmas.List.{reverse-append}
use Rattle.std.proofs.lemmas.Option.{slice_get-get_or}
use Rattle.history_tree.specs.declared.version.Version.{Version}
use Rattle.history_tree.specs.History.{History, first_version, path}
use Rattle.history_tree.specs.States.{operations_of, operations_to}
use Rattle.history_tree.specs.Since.{path_after, operations_after}
use Rattle.history_tree.specs.Whole.{ComesBefore, IsWhole}
use Rattle.history_tree.specs.Laws.{path_of_parent}
use Rattle.history_tree.proofs.Leading.{path_upto}
use Rattle.history_tree.proofs.Paths.{path_by_parent, parent_before}
use Rattle.history_tree.proofs.Steady.{operations_append, path_there}

-- ---- tests of numbers
is_above : (u v : ℕ) → u < v → nat_lt u v ≡ true
is_above u v low = by (nat_lt u v) refl
  where
    by : (b : Bool) → nat_lt u v ≡ b → b ≡ true
    by true is = refl
    by false is = absurd (omega (arith, low, ltb-false u v is))

not_above : (u v : ℕ) → v ≤ u → nat_lt u v ≡ false
not_above u v low = by (nat_lt u v) refl
  where
    by : (b : Bool) → nat_lt u v ≡ b → b ≡ false
    by true is = absurd (omega (arith, low, ltb-true u v is))
    by false is = refl

-- none of some versions comes after one that is at least each of them
none_after : (u : ℕ) (vs : List ℕ) → All (λ v. v < suc u) vs → filter (λ v. nat_lt u v) vs ≡ []
none_after u [] all = refl
none_after u (v ∷ vs) all =
    ap (λ b. cond b (v ∷ filter (λ w. nat_lt u w) vs) (filter (λ w. nat_lt u w) vs)) (not_above u v (omega (arith, All-head (λ w. w < suc u) v vs all)))
    ∙ none_after u vs (All-tail (λ w. w < suc u) v vs all)

-- a last version that comes after stays
one_after : (u : ℕ) (vs : List ℕ) (v : ℕ) → u < v → filter (λ w. nat_lt u w) (vs ++ v ∷ []) ≡ filter (λ w. nat_lt u w) vs ++ v ∷ []
one_after u vs v low = filter-append (λ w. nat_lt u w) vs (v ∷ []) ∙ ap (λ b. filter (λ w. nat_lt u w) vs ++ cond b (v ∷ []) []) (is_above u v low)

-- ---- by the parent
-- a version that is on a path is its end, or on the path of the parent
record ComesFrom (h : History) (u v : ℕ) : Type 0 where
  parent : ℕ
  before : parent < v
  on_path : Contains (path h parent) u
  further : path h v ≡ path h parent ++ v ∷ []

none_on : (u : ℕ) → Contains {X = ℕ} [] u → ⊥
none_on u (k, within, is) = absurd (omega (arith, within))

comes_from : (h : History) → IsWhole h → (u v : ℕ) → v < length h.versions → Contains (path h v) u → (v ≡ u) ⊎ ComesFrom h u v
comes_from h whole u v there on =
    let version : Version = get_or h.versions v first_version in
    let at : slice_get h.versions v ≡ Some version = slice_get-get_or h.versions v first_version there in
    let before : ComesBefore version.parent v = parent_before 0 h.versions v v version whole.parents at (omega arith) in
    let goes : path h v ≡ path_of_parent h version.parent ++ v ∷ [] = path_by_parent h v version at before in
    by version.parent before goes (Contains-push_cases (path_of_parent h version.parent) v u (subst (λ us. Contains us u) goes on))
  where
    by : (parent : Option ℕ) → ComesBefore parent v → path h v ≡ path_of_parent h parent ++ v ∷ [] → Contains (path_of_parent h parent) u ⊎ (v ≡ u)
        → (v ≡ u) ⊎ ComesFrom h u v
    by parent before goes (inr same) = inl same
    by None before goes (inl on) = absurd (none_on u on)
    by (Some p) before goes (inl on) = inr (record { parent = p; before = before; on_path = on; further = goes })

-- ---- the laws
-- a version on a path is there, and is at most the path's end
pub on_path_there : (h : History) (u v : ℕ) → Contains (path h v) u → u < length h.versions
on_path_there h u v on = All-contains (λ w. w < length h.versions) (path h v) u (path_there h v) on

pub on_path_low : (h : History) → IsWhole h → (u v : ℕ) → v < length h.versions → Contains (path h v) u → u ≤ v
on_path_low h whole u v there on = omega (arith, All-contains (λ w. w < suc v) (path h v) u (path_upto h whole v there) on)

-- nothing comes after a version on its own path
pub nothing_after : (h : History) → IsWhole h → (v : ℕ) → v < length h.versions → path_after h v v ≡ []
nothing_after h whole v there = none_after v (path h v) (path_upto h whole v there)

-- nor after a greater one
pub nothing_past : (h : History) → IsWhole h → (u v : ℕ) → v < length h.versions → v ≤ u → path_after h u v ≡ []
nothing_past h whole u v there low =
    none_after u (path h v) (All-weaker (λ w. w < suc v) (λ w. w < suc u) (λ w within. omega (arith, within, low)) (path h v) (path_upto h whole v there))

-- as versions are found from the last one back, those that are left are of the parent's path
pub after_further : (h : History) (u last v parent : ℕ) (back : List ℕ) → path h v ≡ path h parent ++ v ∷ [] → u < v
    → path_after h u last ≡ path_after h u v ++ reverse back → path_after h u last ≡ path_after h u parent ++ reverse (back ++ v ∷ [])
after_further h u last v parent back further low so_far =
    so_far
    ∙ ap (λ us. us ++ reverse back) (ap (filter (λ w. nat_lt u w)) further ∙ one_after u (path h parent) v low)
    ∙ append_assoc (path_after h u parent) (v ∷ []) (reverse back)
    ∙ ap (λ us. path_after h u parent ++ us) (sym (reverse-append back (v ∷ [])))

-- by what the path of the parent is
splits_by : (h : History) → IsWhole h → (u v : ℕ) → v < length h.versions
    → ((p : ℕ) → p < v → p < length h.versions → Contains (path h p) u → path h p ≡ path h u ++ path_after h u p) → (v ≡ u) ⊎ ComesFrom h u v
    → path h v ≡ path h u ++ path_after h u v
splits_by h whole u v there before (inl same) =
    subst (λ w. path h v ≡ path h w ++ path_after h w v) same
    (sym (append-nil (path h v)) ∙ ap (λ us. path h v ++ us) (sym (none_after v (path h v) (path_upto h whole v there))))
splits_by h whole u v there before (inr c) =
    let known : c.parent < length h.versions = omega (arith, c.before, there) in
    let under : u ≤ c.parent = on_path_low h whole u c.parent known c.on_path in
    let rest : path_after h u v ≡ path_after h u c.parent ++ v ∷ [] =
    ap (filter (λ w. nat_lt u w)) c.further ∙ one_after u (path h c.parent) v (omega (arith, under, c.before)) in
    c.further ∙ ap (λ us. us ++ v ∷ []) (before c.parent c.before known c.on_path) ∙ append_assoc (path h u) (path_after h u c.parent) (v ∷ [])
    ∙ ap (λ us. path h u ++ us) (sym rest)

splits : (h : History) → IsWhole h → (n u v : ℕ) → v < n → v < length h.versions → Contains (path h v) u → path h v ≡ path h u ++ path_after h u v
splits h whole zero u v low there on = absurd (omega (arith, low))
splits h whole (suc n) u v low there on =
    splits_by h whole u v there (λ p under known on_p. splits h whole n u p (omega (arith, low, under)) known on_p) (comes_from h whole u v there on)

-- the path of a version is that of each version on it, and then what comes after
pub path_splits : (h : History) → IsWhole h → (u v : ℕ) → v < length h.versions → Contains (path h v) u → path h v ≡ path h u ++ path_after h u v
path_splits h whole u v = splits h whole (suc v) u v (omega arith)

-- and so are the operations
pub operations_split : (h : History) → IsWhole h → (u v : ℕ) → v < length h.versions → Contains (path h v) u
    → operations_to h v ≡ operations_to h u ++ operations_after h u v
operations_split h whole u v there on =
    ap (operations_of h.versions) (path_splits h whole u v there on) ∙ operations_append h.versions (path h u) (path_after h u v)

-- what is on the path of a version on a path is on that path
pub on_longer_path : (h : History) → IsWhole h → (t u v : ℕ) → v < length h.versions → Contains (path h v) u → Contains (path h u) t → Contains (path h v) t
on_longer_path h whole t u v there on first =
    subst (λ us. Contains us t) (sym (path_splits h whole u v there on)) (Contains-append_left (path h u) (path_after h u v) t first)

-- each version that comes after another is greater
after_one : (u v : ℕ) (vs : List ℕ) → All (λ w. u < w) vs → (b : Bool) → nat_lt u v ≡ b → All (λ w. u < w) (cond b (v ∷ vs) vs)
after_one u v vs all true is = All-cons (λ w. u < w) v vs (ltb-true u v is) all
after_one u v vs all false is = all

all_after : (u : ℕ) (vs : List ℕ) → All (λ w. u < w) (filter (λ w. nat_lt u w) vs)
all_after u [] = λ k d within. absurd (omega (arith, within))
all_after u (v ∷ vs) = after_one u v (filter (λ w. nat_lt u w) vs) (all_after u vs) (nat_lt u v) refl

pub after_above : (h : History) (u v : ℕ) → All (λ w. u < w) (path_after h u v)
after_above h u v = all_after u (path h v)

-- of two versions on one path the lesser is on the path of the greater
pub earlier_on_path : (h : History) → IsWhole h → (t u v : ℕ) → v < length h.versions → Contains (path h v) t → Contains (path h v) u → t ≤ u
    → Contains (path h u) t
earlier_on_path h whole t u v there first second under =
    by (Contains-append_cases (path h u) (path_after h u v) t (subst (λ us. Contains us t) (path_splits h whole u v there second) first))
  where
    by : Contains (path h u) t ⊎ Contains (path_after h u v) t → Contains (path h u) t
    by (inl on) = on
    by (inr after) = absurd (omega (arith, under, All-contains (λ w. u < w) (path_after h u v) t (all_after u (path h v)) after))
