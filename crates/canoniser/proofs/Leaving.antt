-- Whether a rule applies, and what it leaves.
use Rattle.std.proofs.Common.{◌≡◌, Bool, true, false, cond, [], ◌∷◌, ◌||◌, refl, sym, ap, ◌∙◌}
use Rattle.std.specs.Prelude.{Option, None, Some, is_some}
use Rattle.std.specs.Option.{option_map}
use Rattle.model_state.specs.declared.operation.Operation.{Operation}
use Rattle.merge_laws.specs.Rules.{takes_back, joined_op, met}
use Rattle.canoniser.specs.Meetings.{list_of}

tested : (t : Bool) (o : Option Operation) → is_some (cond t (Some []) (option_map (λ c. c ∷ []) o)) ≡ t || is_some o
tested true o = refl
tested false None = refl
tested false (Some c) = refl

pub met_tested : (a b : Operation) → is_some (met a b) ≡ takes_back b a || is_some (joined_op a b)
met_tested a b = tested (takes_back b a) (joined_op a b)

pub back_left : (a b : Operation) → takes_back b a ≡ true → met a b ≡ Some []
back_left a b h = ap (λ t. cond t (Some []) (option_map (λ c. c ∷ []) (joined_op a b))) h

some_left : (o left : Option Operation) → is_some (option_map (λ c. c ∷ []) o) ≡ true → left ≡ o → option_map (λ c. c ∷ []) o ≡ Some (list_of left)
some_left None left h is = cc
some_left (Some c) left h is = ap (λ l. Some (list_of l)) (sym is)

pub join_left : (a b : Operation) (left : Option Operation) → takes_back b a ≡ false → is_some (met a b) ≡ true → left ≡ joined_op a b
    → met a b ≡ Some (list_of left)
join_left a b left h some is =
    let out : met a b ≡ option_map (λ c. c ∷ []) (joined_op a b) = ap (λ t. cond t (Some []) (option_map (λ c. c ∷ []) (joined_op a b))) h in
    out ∙ some_left (joined_op a b) left (ap is_some (sym out) ∙ some) is
