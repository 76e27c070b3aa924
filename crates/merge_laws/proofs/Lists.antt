-- Lists of operations: cut, put back, split.
use Rattle.std.proofs.Common.{◌≡◌, List, [], ◌∷◌, ◌++◌, refl, sym, ap, ◌∙◌}
use Rattle.std.proofs.lemmas.List.{append_assoc}
use Rattle.model_state.specs.declared.step.Step.{Step}
use Rattle.model_state.specs.declared.operation.Operation.{Operation}
use Rattle.model_state.specs.declared.operation.Operation.TheVariants.{Simple, Composite}
use Rattle.model_state.specs.Packages.{steps_all}
use Rattle.model_laws.proofs.Packages.{steps_append}
use Rattle.merge_laws.specs.Split.{singles, split, EachAlone}
use Rattle.merge_laws.specs.Tidy.{onto}

-- ---- put back
pub onto_front : (xs rest : List Operation) → onto xs rest ≡ onto xs [] ++ rest
onto_front [] rest = refl
onto_front (a ∷ xs) rest = onto_front xs (a ∷ rest) ∙ sym (append_assoc (onto xs []) (a ∷ []) rest) ∙ ap (λ l. l ++ rest) (sym (onto_front xs (a ∷ [])))

pub onto_append : (xs ys rest : List Operation) → onto (xs ++ ys) rest ≡ onto ys (onto xs rest)
onto_append [] ys rest = refl
onto_append (a ∷ xs) ys rest = onto_append xs ys (a ∷ rest)

-- ---- split
singles_steps : (ss : List Step) → steps_all (singles ss) ≡ ss
singles_steps [] = refl
singles_steps (s ∷ ss) = ap (λ l. s ∷ l) (singles_steps ss)

-- the steps stay as they are
pub split_steps : (p : List Operation) → steps_all (split p) ≡ steps_all p
split_steps [] = refl
split_steps (Simple kind steps ∷ os) =
    steps_append (singles steps) (split os) ∙ ap (λ l. l ++ steps_all (split os)) (singles_steps steps) ∙ ap (λ l. steps ++ l) (split_steps os)
split_steps (Composite name steps ∷ os) = ap (λ l. steps ++ l) (split_steps os)

-- ---- operations of one step
pub each_join : (p q : List Operation) → EachAlone p → EachAlone q → EachAlone (p ++ q)
each_join [] q h g = g
each_join (o ∷ p) q h g = (h.0, each_join p q h.1 g)

pub each_first : (p q : List Operation) → EachAlone (p ++ q) → EachAlone p
each_first [] q h = tt
each_first (o ∷ p) q h = (h.0, each_first p q h.1)

pub each_second : (p q : List Operation) → EachAlone (p ++ q) → EachAlone q
each_second [] q h = h
each_second (o ∷ p) q h = each_second p q h.1

singles_alone : (ss : List Step) → EachAlone (singles ss)
singles_alone [] = tt
singles_alone (s ∷ ss) = (tt, singles_alone ss)

pub split_alone : (p : List Operation) → EachAlone (split p)
split_alone [] = tt
split_alone (Simple kind steps ∷ os) = each_join (singles steps) (split os) (singles_alone steps) (split_alone os)
split_alone (Composite name steps ∷ os) = (tt, split_alone os)
