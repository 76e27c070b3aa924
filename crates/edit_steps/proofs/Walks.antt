-- A walk over a subtree, with a stack of the elements whose subtrees are still to come.
use Rattle.std.proofs.Common.{◌≡◌, ℕ, Bool, true, false, cond, ◌+◌, suc, List, [], ◌∷◌, ◌++◌, refl, sym, ap, subst, ◌∙◌, append_assoc, arith, ◌<◌}
use Rattle.std.proofs.Common.{length, get_or, drop, map, take, reverse}
use Rattle.std.proofs.lemmas.List.{append-nil, reverse-append, reverse-reverse, take_more}
use Rattle.std.proofs.Math.Seq.{drop-cons}
use Rattle.std.specs.List.{filter}
use Rattle.ecore_meta.specs.Meta.{Meta}
use Rattle.model_state.specs.declared.step.Place.TheVariants.{Inside}
use Rattle.model_state.specs.Keys.{IdBytes}
use Rattle.model_state.specs.Listing.{children}
use Rattle.model_state.specs.State.{State}
use Rattle.edit_steps.specs.Subtree.{children_by, children_of}
use Rattle.edit_steps.proofs.Forests.{IsForest}
use Rattle.edit_steps.specs.Standing.{ids_of}

-- ---- the items up to an index, and the one there
filter_last : (p : ℕ → Bool) (ns : List ℕ) (n : ℕ) → filter p (ns ++ n ∷ []) ≡ filter p ns ++ cond (p n) (n ∷ []) []
filter_last p [] n = refl
filter_last p (k ∷ ks) n =
    elim (p k) as (λ b. cond {A = List ℕ} b (k ∷ filter p (ks ++ n ∷ [])) (filter p (ks ++ n ∷ [])) ≡ cond {A = List ℕ} b (k ∷ filter p ks)
    (filter p ks) ++ cond (p n) (n ∷ []) []) [
      | true ↦ ap (λ l. k ∷ l) (filter_last p ks n)
      | false ↦ filter_last p ks n
    ]

pub passing : (p : ℕ → Bool) (ns : List ℕ) (i : ℕ) → p (get_or ns i 0) ≡ true → i < length ns
    → filter p (take (i + 1) ns) ≡ filter p (take i ns) ++ get_or ns i 0 ∷ []
passing p ns i h low = ap (filter p) (take_more ns i 0 low) ∙ filter_last p (take i ns) (get_or ns i 0)
    ∙ ap (λ b. filter p (take i ns) ++ cond b (get_or ns i 0 ∷ []) []) h

pub failing : (p : ℕ → Bool) (ns : List ℕ) (i : ℕ) → p (get_or ns i 0) ≡ false → i < length ns → filter p (take (i + 1) ns) ≡ filter p (take i ns)
failing p ns i h low =
    ap (filter p) (take_more ns i 0 low) ∙ filter_last p (take i ns) (get_or ns i 0)
    ∙ ap (λ b. filter p (take i ns) ++ cond b (get_or ns i 0 ∷ []) []) h ∙ append-nil (filter p (take i ns))

pub map_last : {A B : Type 0} (f : A → B) (xs : List A) (x : A) → map f (xs ++ x ∷ []) ≡ map f xs ++ f x ∷ []
map_last f [] x = refl
map_last f (y ∷ ys) x = ap (λ l. f y ∷ l) (map_last f ys x)

-- the rest of a list after an item
pub drop_more : {X : Type 0} (xs : List X) (i : ℕ) (x : X) → i < length xs → x ≡ get_or xs i x → drop i xs ≡ x ∷ drop (i + 1) xs
drop_more xs i x lt is = drop-cons xs i x lt ∙ (λ j. sym is j ∷ drop (after i j) xs)
  where
    after : (i : ℕ) → suc i ≡ i + 1
    after i = omega arith

-- ---- the children in one feature more
pub by_last : (m : State) (e : IdBytes) (fs : List ℕ) (f : ℕ)
    → children_by m e (fs ++ f ∷ []) ≡ children_by m e fs ++ ids_of (children m.place m.prank (Inside e f))
by_last m e [] f = append-nil (ids_of (children m.place m.prank (Inside e f)))
by_last m e (g ∷ gs) f =
    ap (λ l. ids_of (children m.place m.prank (Inside e g)) ++ l) (by_last m e gs f)
    ∙ sym (append_assoc (ids_of (children m.place m.prank (Inside e g))) (children_by m e gs) (ids_of (children m.place m.prank (Inside e f))))

-- ---- the element on top of the stack is found, and its children come in its place
module _ (meta : Meta) (m : State) where
  pub goes_on : (whole found stack rest : List IdBytes) (x : IdBytes) → IsForest meta m (reverse (stack ++ x ∷ [])) rest → found ++ rest ≡ whole
      → (more : List IdBytes) × IsForest meta m (reverse (stack ++ reverse (children_of meta m x))) more × ((found ++ x ∷ []) ++ more ≡ whole)
  goes_on whole found stack rest x forest is = step rest (subst (λ l. IsForest meta m l rest) (reverse-append stack (x ∷ [])) forest) is
    where
      stacked : children_of meta m x ++ reverse stack ≡ reverse (stack ++ reverse (children_of meta m x))
      stacked = sym (reverse-append stack (reverse (children_of meta m x)) ∙ ap (λ l. l ++ reverse stack) (reverse-reverse (children_of meta m x)))

      step : (rest : List IdBytes) → IsForest meta m (x ∷ reverse stack) rest → found ++ rest ≡ whole
          → (more : List IdBytes) × IsForest meta m (reverse (stack ++ reverse (children_of meta m x))) more × ((found ++ x ∷ []) ++ more ≡ whole)
      step [] forest is = absurd forest
      step (y ∷ ys) forest is =
          (ys, subst (λ l. IsForest meta m l ys) stacked forest.1, append_assoc found (x ∷ []) ys ∙ ap (λ z. found ++ z ∷ ys) (sym forest.0) ∙ is)
