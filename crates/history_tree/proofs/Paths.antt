-- The paths of versions.
use Rattle.std.proofs.Common.{◌≡◌, ℕ, zero, suc, ◌+◌, ◌<◌, List, [], ◌∷◌, ◌++◌, length, refl, sym, ◌∙◌, ap, subst, arith, length-append, append_assoc, reverse}
use Rattle.std.specs.Prelude.{Option, None, Some, slice_get}
use Rattle.std.proofs.lemmas.List.{reverse-append}
use Rattle.std.specs.Option.{unwrap_or}
use Rattle.history_tree.specs.declared.version.Version.{Version}
use Rattle.history_tree.specs.History.{History, with_version, paths_from, path_at, path_before, path}
use Rattle.history_tree.specs.Whole.{ComesBefore, ParentsComeBefore, IsWhole}
use Rattle.history_tree.specs.Laws.{path_of_parent}

-- ---- lists
module _ {X : Type 0} where
  pub get_left : (xs ys : List X) (k : ℕ) → k < length xs → slice_get (xs ++ ys) k ≡ slice_get xs k
  get_left [] ys k within = absurd (omega (arith, within))
  get_left (x ∷ xs) ys zero within = refl
  get_left (x ∷ xs) ys (suc k) within = get_left xs ys k (omega (arith, within))

  pub get_last : (xs : List X) (y : X) (k : ℕ) → k ≡ length xs → slice_get (xs ++ y ∷ []) k ≡ Some y
  get_last [] y zero is = refl
  get_last [] y (suc k) is = absurd (omega (arith, is))
  get_last (x ∷ xs) y zero is = absurd (omega (arith, is))
  get_last (x ∷ xs) y (suc k) is = get_last xs y k (omega (arith, is))

-- ---- the paths that are known stay at their places
pub paths_kept : (paths : List (List ℕ)) (vs : List Version) (k : ℕ) → k < length paths → slice_get (paths_from paths vs) k ≡ slice_get paths k
paths_kept paths [] k within = refl
paths_kept paths (v ∷ vs) k within =
    let more : List (List ℕ) = (path_before paths v.parent ++ length paths ∷ []) ∷ [] in
    paths_kept (paths ++ more) vs k (omega (arith, within, length-append paths more)) ∙ get_left paths more k within

pub paths_append : (paths : List (List ℕ)) (vs ws : List Version) → paths_from paths (vs ++ ws) ≡ paths_from (paths_from paths vs) ws
paths_append paths [] ws = refl
paths_append paths (v ∷ vs) ws = paths_append (paths ++ (path_before paths v.parent ++ length paths ∷ []) ∷ []) vs ws

pub paths_length : (paths : List (List ℕ)) (vs : List Version) → length (paths_from paths vs) ≡ length paths + length vs
paths_length paths [] = omega arith
paths_length paths (v ∷ vs) =
    let more : List (List ℕ) = (path_before paths v.parent ++ length paths ∷ []) ∷ [] in
    omega (arith, paths_length (paths ++ more) vs, length-append paths more)

-- a further version leaves the paths that are there
pub path_kept : (h : History) (v : Version) (k : ℕ) → k < length h.versions → path (with_version h v) k ≡ path h k
path_kept h v k within =
    let known : List (List ℕ) = paths_from [] h.versions in
    ap (λ ps. path_at ps k) (paths_append [] h.versions (v ∷ []))
    ∙ ap (λ o. unwrap_or o []) (paths_kept known (v ∷ []) k (omega (arith, within, paths_length [] h.versions)))

-- ---- by parents
behind_kept : (paths : List (List ℕ)) (vs : List Version) (parent : Option ℕ) (n : ℕ) → n ≡ length paths → ComesBefore parent n
    → path_before (paths_from paths vs) parent ≡ path_before paths parent
behind_kept paths vs None n is before = refl
behind_kept paths vs (Some p) n is before = ap (λ o. unwrap_or o []) (paths_kept paths vs p (omega (arith, is, before)))

at_number : (paths : List (List ℕ)) (vs : List Version) (k n : ℕ) (v : Version) → slice_get vs k ≡ Some v → n ≡ length paths + k → ComesBefore v.parent n
    → slice_get (paths_from paths vs) n ≡ Some (path_before (paths_from paths vs) v.parent ++ n ∷ [])
at_number paths [] k n v there is before = absurd cc
at_number paths (w ∷ vs) zero n v there is before =
    let more : List (List ℕ) = (path_before paths w.parent ++ length paths ∷ []) ∷ [] in
    let same : w ≡ v = cc in
    let number : n ≡ length paths = omega (arith, is) in
    paths_kept (paths ++ more) vs n (omega (arith, number, length-append paths more))
    ∙ get_last paths (path_before paths w.parent ++ length paths ∷ []) n number
    ∙ (λ i. Some (path_before paths (same i).parent ++ sym number i ∷ []))
    ∙ ap (λ p. Some (p ++ n ∷ [])) (sym (behind_kept paths (w ∷ vs) v.parent n number before))
at_number paths (w ∷ vs) (suc k) n v there is before =
    let more : List (List ℕ) = (path_before paths w.parent ++ length paths ∷ []) ∷ [] in
    at_number (paths ++ more) vs k n v there (omega (arith, is, length-append paths more)) before

-- the path of a version is that of its parent, and then the version itself
pub path_by_parent : (h : History) (k : ℕ) (v : Version) → slice_get h.versions k ≡ Some v → ComesBefore v.parent k
    → path h k ≡ path_of_parent h v.parent ++ k ∷ []
path_by_parent h k v there before = ap (λ o. unwrap_or o []) (at_number [] h.versions k k v there (omega arith) before) ∙ by v.parent
  where
    by : (parent : Option ℕ) → path_before (paths_from [] h.versions) parent ++ k ∷ [] ≡ path_of_parent h parent ++ k ∷ []
    by None = refl
    by (Some p) = refl

pub parent_before : (n : ℕ) (vs : List Version) (k m : ℕ) (v : Version) → ParentsComeBefore n vs → slice_get vs k ≡ Some v → m ≡ n + k → ComesBefore v.parent m
parent_before n [] k m v all there is = absurd cc
parent_before n (w ∷ vs) zero m v all there is =
    let same : w ≡ v = cc in
    let number : n ≡ m = omega (arith, is) in
    subst (λ k. ComesBefore v.parent k) number (subst (λ (x : Version). ComesBefore x.parent n) same all.0)
parent_before n (w ∷ vs) (suc k) m v all there is = parent_before (suc n) vs k m v all.1 there (omega (arith, is))

-- the path of a further version
pub path_more : (h : History) (v : Version) → ComesBefore v.parent (length h.versions)
    → path (with_version h v) (length h.versions) ≡ path_of_parent h v.parent ++ length h.versions ∷ []
path_more h v before =
    path_by_parent (with_version h v) (length h.versions) v (get_last h.versions v (length h.versions) refl) before ∙ by v.parent before
  where
    by : (parent : Option ℕ) → ComesBefore parent (length h.versions)
        → path_of_parent (with_version h v) parent ++ length h.versions ∷ [] ≡ path_of_parent h parent ++ length h.versions ∷ []
    by None within = refl
    by (Some p) within = ap (λ q. q ++ length h.versions ∷ []) (path_kept h v p within)

-- a version that is found after others, from the last to the first, is the next on their path
pub path_step : (h : History) → IsWhole h → (back : List ℕ) (p : ℕ) (v : Version) → slice_get h.versions p ≡ Some v
    → path h p ++ reverse back ≡ path_of_parent h v.parent ++ reverse (back ++ p ∷ [])
path_step h whole back p v there =
    ap (λ q. q ++ reverse back) (path_by_parent h p v there (parent_before 0 h.versions p p v whole.parents there (omega arith)))
    ∙ append_assoc (path_of_parent h v.parent) (p ∷ []) (reverse back)
    ∙ ap (λ q. path_of_parent h v.parent ++ q) (sym (reverse-append back (p ∷ [])))
