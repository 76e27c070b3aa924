-- The two rules of tidying, and where they apply.
use Rattle.std.specs.Prelude.{◌≡◌, Bool, List, [], ◌∷◌, ◌++◌, Option, None, Some, cond}
use Rattle.std.specs.Option.{option_map}
use Rattle.ecore_meta.specs.Meta.{Meta}
use Rattle.model_state.specs.Steps.{rev_all}
use Rattle.merge_laws.specs.Joins.{steps_eq, joined}
use Rattle.model_state.specs.declared.operation.Operation.{Operation}
use Rattle.model_state.specs.declared.operation.Operation.TheVariants.{Simple}
use Rattle.model_state.specs.Packages.{steps_of}
use Rattle.footprint.specs.Interference.{Free}

-- b's steps are the reversal of a's
abbrev pub takes_back : Operation → Operation → Bool
takes_back b a = steps_eq (steps_of b) (rev_all (steps_of a))

-- a with the new value or rank of b, for two simple operations of one step on one entry
abbrev pub joined_op : Operation → Operation → Option Operation
joined_op (Simple kind (s ∷ [])) (Simple other (t ∷ [])) = option_map (λ u. Simple kind (u ∷ [])) (joined s t)
joined_op a b = None

-- What a rule leaves of a and a later b: nothing where b takes a back, else a joined with b. None where no rule applies.
abbrev pub met : Operation → Operation → Option (List Operation)
met a b = cond (takes_back b a) (Some []) (option_map (λ c. c ∷ []) (joined_op a b))

-- no rule applies to b and one of the operations
abbrev pub NoneMet : Operation → List Operation → Type 0
NoneMet b [] = Unit {0}
NoneMet b (a ∷ as') = (met a b ≡ None) × NoneMet b as'

-- no rule applies at any two positions such that no operation between them interferes with the later one
abbrev pub NoRule : Meta → List Operation → Type 0
NoRule meta p = (front mid back : List Operation) (a b : Operation) → p ≡ front ++ (a ∷ (mid ++ (b ∷ back))) → Free meta b mid → met a b ≡ None

-- q is p after one rule, at the least position of a later operation b and then the greatest position of an earlier a
pub record OneRule (meta : Meta) (p q : List Operation) : Type 0 where
  pub front : List Operation
  pub a : Operation
  pub mid : List Operation
  pub b : Operation
  pub back : List Operation
  pub left : List Operation
  pub at : p ≡ front ++ (a ∷ (mid ++ (b ∷ back)))
  pub free : Free meta b mid
  pub rule : met a b ≡ Some left
  pub least : NoRule meta (front ++ (a ∷ mid))
  pub greatest : NoneMet b mid
  pub gives : q ≡ front ++ (left ++ (mid ++ back))

-- q is what the rules leave of p, one at a time until none applies
pub data Settles (meta : Meta) : List Operation → List Operation → Type 0 where
  done : {p : List Operation} → NoRule meta p → Settles meta p p
  more : {p q r : List Operation} → OneRule meta p q → Settles meta q r → Settles meta p r
