-- What the index of a history answers for a path of it, and the lines so far.
use Rattle.std.proofs.Common.{◌≡◌, ℕ, suc, zero, ◌+◌, ◌<◌, ◌≤◌, List, [], ◌∷◌, ◌++◌, take, length, ap, sym, subst, ◌∙◌, le_refl, zero-add, arith}
use Rattle.std.specs.Prelude.{All, Option, filter_map}
use Rattle.std.specs.List.{cons_option, range_with_len}
use Rattle.std.proofs.Math.Seq.{take-length}
use Rattle.std.proofs.lemmas.List.Elements.{filter_map-append}
use Rattle.ecore_meta.specs.Meta.{Meta}
use Rattle.model_state.specs.Keys.{IdBytes}
use Rattle.history_tree.specs.History.{History, path}
use Rattle.history_tree.specs.Whole.{IsWhole}
use Rattle.history_tree.specs.States.{package_of_version}
use Rattle.history_tree.specs.Laws.{Rises}
use Rattle.change_index.specs.Index.{index_of, wrote_in}
use Rattle.change_index.specs.Last.{IsLast, last_of}
use Rattle.change_index.specs.Laws.{PathsAreAsked, LastIsOfHistory, LastIsOne, LastIsFound}
use Rattle.change_index.specs.Written.{Pairs, wrote}
use Rattle.feature_writers.specs.Writers.{last_write}

-- ---- the index of a whole history, and the path of one of its versions
module _ (asked : PathsAreAsked) (meta : Meta) (h : History) (whole : IsWhole h) (v : ℕ) (there : v < length h.versions) where
  pub path_rises : Rises (path h v)
  path_rises = (asked meta h whole (length h.versions) v (le_refl _) there).0

  pub path_low : All (λ u. u < length (index_of meta h.versions)) (path h v)
  path_low =
      subst (λ vs. All (λ u. u < length (index_of meta vs)) (path h v)) (take-length h.versions)
      (asked meta h whole (length h.versions) v (le_refl _) there).1

  -- its last version by the index is the last write
  pub last_is : LastIsOfHistory → LastIsOne → LastIsFound → (e : IdBytes) (f : ℕ)
      → last_of (wrote_in (index_of meta h.versions) e f) (path h v) ≡ last_write meta h v e f
  last_is last one found e f =
      let index = index_of meta (take (length h.versions) h.versions) in
      let by_index : IsLast (wrote_in index e f) (path h v) (last_of (wrote_in index e f) (path h v)) = found (wrote_in index e f) (path h v) path_rises in
      let by_history : IsLast (λ u. wrote meta (package_of_version h.versions u) e f) (path h v) (last_of (wrote_in index e f) (path h v)) =
      last meta h whole (length h.versions) v (le_refl _) there e f _ by_index in
      ap (λ vs. last_of (wrote_in (index_of meta vs) e f) (path h v)) (sym (take-length h.versions))
      ∙ one (λ u. wrote meta (package_of_version h.versions u) e f) (path h v) _ _ by_history
      (found (λ u. wrote meta (package_of_version h.versions u) e f) (path h v) path_rises)

  -- whatever the names of the index and the path
  pub lasts_are : LastIsOfHistory → LastIsOne → LastIsFound → (index : List Pairs) → index ≡ index_of meta h.versions → (us : List ℕ) → us ≡ path h v
      → (e : IdBytes) (f : ℕ) → last_of (wrote_in index e f) us ≡ last_write meta h v e f
  lasts_are last one found index index_is us us_are e f =
      ap (λ ps. last_of (wrote_in ps e f) us) index_is ∙ ap (last_of (wrote_in (index_of meta h.versions) e f)) us_are ∙ last_is last one found e f

-- ---- one number more
range_more : (a n j : ℕ) → a + n ≡ j → range_with_len a (suc n) ≡ range_with_len a n ++ j ∷ []
range_more a zero j h =
    let same : a ≡ j = omega (arith, h) in
    ap (λ x. x ∷ []) same
range_more a (suc n) j h = ap (λ l. a ∷ l) (range_more (a + 1) n j (omega (arith, h)))

pub one_more : (g : ℕ → Option (List ℕ)) (n : ℕ) → filter_map g (range_with_len 0 (n + 1)) ≡ filter_map g (range_with_len 0 n) ++ cons_option (g n) []
one_more g n =
    let next : n + 1 ≡ suc n = omega arith in
    ap (λ m. filter_map g (range_with_len 0 m)) next
    ∙ ap (filter_map g) (range_more 0 n n (zero-add n))
    ∙ filter_map-append g (range_with_len 0 n) (n ∷ [])
