-- Elements in order, each followed by all that it contains, as a relation.
use Rattle.std.proofs.Common.{◌≡◌, List, [], ◌∷◌, ◌++◌, refl, sym, subst, ◌∙◌, append_assoc}
use Rattle.ecore_meta.specs.Meta.{Meta}
use Rattle.model_state.specs.Keys.{IdBytes}
use Rattle.model_state.specs.State.{State}
use Rattle.edit_steps.specs.Subtree.{children_of}

-- the second list is the first, each of its elements followed by all that it contains
abbrev pub IsForest : Meta → State → List IdBytes → List IdBytes → Type 0
IsForest meta m [] [] = Unit {0}
IsForest meta m [] (x ∷ xs) = ⊥
IsForest meta m (r ∷ rs) [] = ⊥
IsForest meta m (r ∷ rs) (x ∷ xs) = (x ≡ r) × IsForest meta m (children_of meta m r ++ rs) xs

-- the list is the element and all that it contains
abbrev pub IsSubtree : Meta → State → IdBytes → List IdBytes → Type 0
IsSubtree meta m e xs = IsForest meta m (e ∷ []) xs

-- elements have one forest
pub forest_one : (meta : Meta) (m : State) (rs xs ys : List IdBytes) → IsForest meta m rs xs → IsForest meta m rs ys → xs ≡ ys
forest_one meta m [] [] [] g h = refl
forest_one meta m [] [] (y ∷ ys) g h = absurd h
forest_one meta m [] (x ∷ xs) ys g h = absurd g
forest_one meta m (r ∷ rs) [] ys g h = absurd g
forest_one meta m (r ∷ rs) (x ∷ xs) [] g h = absurd h
forest_one meta m (r ∷ rs) (x ∷ xs) (y ∷ ys) g h =
    let head : x ≡ y = g.0 ∙ sym h.0 in
    let rest = forest_one meta m (children_of meta m r ++ rs) xs ys g.1 h.1 in
    λ i. head i ∷ rest i

-- one forest after another
pub forest_joins : (meta : Meta) (m : State) (rs ss xs ys : List IdBytes) → IsForest meta m rs xs → IsForest meta m ss ys
    → IsForest meta m (rs ++ ss) (xs ++ ys)
forest_joins meta m [] ss [] ys g h = h
forest_joins meta m [] ss (x ∷ xs) ys g h = absurd g
forest_joins meta m (r ∷ rs) ss [] ys g h = absurd g
forest_joins meta m (r ∷ rs) ss (x ∷ xs) ys g h = (
  g.0,
  subst (λ l. IsForest meta m l (xs ++ ys)) (append_assoc (children_of meta m r) rs ss)
      (forest_joins meta m (children_of meta m r ++ rs) ss xs ys g.1 h),
)
