-- What the calls of a turn show.
use Rattle.std.proofs.Common.{◌≡◌, ℕ, zero, suc, ◌<◌, Bool, List, [], ◌∷◌, refl, sym, subst, ◌∙◌, length, get_or, arith}
use Rattle.std.specs.Prelude.{Option, None, Some, MatchOption, IfSome}
use Rattle.model_state.specs.declared.operation.Operation.{Operation}
use Rattle.footprint.specs.declared.cell.Print.{Print}
use Rattle.cell_index.specs.Standing.{LastHit}
use Rattle.merge_laws.specs.Rules.{met}
use Rattle.canoniser.specs.declared.search.Found.{Found}
use Rattle.canoniser.specs.Meetings.{list_of, RuleAt, NoRuleAt}

-- ---- the search
op_default : (xs : List Operation) (k : ℕ) (x y : Operation) → k < length xs → get_or xs k x ≡ get_or xs k y
op_default [] k x y low = absurd (omega (arith, low))
op_default (z ∷ xs) zero x y low = refl
op_default (z ∷ xs) (suc k) x y low = op_default xs k x y (omega (arith, low))

op_same : (xs : List Operation) (k : ℕ) (x y : Operation) → k < length xs → x ≡ get_or xs k x → y ≡ get_or xs k y → x ≡ y
op_same xs k x y low x_is y_is = x_is ∙ op_default xs k x y low ∙ sym y_is

some_same : {A : Type 0} (x y : A) → Some x ≡ Some y → x ≡ y
some_same x y h = cc

-- by the last position that touches, and the operations of both
module _ (stands : List Bool) (prints : List Print) (ops : List Operation) (at i : ℕ) (x y : Operation)
    (last : (p : Print) → p ≡ get_or prints at p → LastHit stands prints p at i)
    (low : i < at) (inside : at < length ops) (x_is : x ≡ get_or ops i x) (y_is : y ≡ get_or ops at y) where
  first : (a : Operation) → a ≡ get_or ops i a → a ≡ x
  first a a_is = op_same ops i a x (omega (arith, low, inside)) a_is x_is

  second : (b : Operation) → b ≡ get_or ops at b → b ≡ y
  second b b_is = op_same ops at b y inside b_is y_is

  pub not_met : met x y ≡ None → NoRuleAt stands prints ops at
  not_met none = record {
    o = Some i;
    last = last;
    none = λ j a b e a_is b_is. (λ t. met (first a (subst (λ n. a ≡ get_or ops n a) (sym (some_same i j e)) a_is) t) (second b b_is t)) ∙ none;
  }

  pub is_rule : (left : Option Operation) → met x y ≡ Some (list_of left) → RuleAt stands prints ops at i left
  is_rule left rule = record { last = last; rule = λ a b a_is b_is. (λ t. met (first a a_is t) (second b b_is t)) ∙ rule }

-- ---- what was found
module _ (stands : List Bool) (prints : List Print) (ops view : List Operation) (at : ℕ) (seen : view ≡ ops) (r : Option Found)
    (m : MatchOption r (NoRuleAt stands prints view at) (λ f. RuleAt stands prints view at f.at f.left)) where
  pub found_of : (f : Found) → r ≡ Some f → RuleAt stands prints ops at f.at f.left
  found_of f is = subst (λ l. RuleAt stands prints l at f.at f.left) seen
      (subst (λ o. MatchOption o (NoRuleAt stands prints view at) (λ f. RuleAt stands prints view at f.at f.left)) is m)

  pub missed_of : r ≡ None → NoRuleAt stands prints ops at
  missed_of is = subst (λ l. NoRuleAt stands prints l at) seen
      (subst (λ o. MatchOption o (NoRuleAt stands prints view at) (λ f. RuleAt stands prints view at f.at f.left)) is m)

-- ---- the loops
pub on_some : (o : Option ℕ) (i : ℕ) (P : Type 0) (Q : ℕ → Type 0) → MatchOption o P Q → o ≡ Some i → Q i
on_some o i P Q h is = subst (λ o. MatchOption o P Q) is h

pub on_none : (o : Option ℕ) (P : Type 0) (Q : ℕ → Type 0) → MatchOption o P Q → o ≡ None → P
on_none o P Q h is = subst (λ o. MatchOption o P Q) is h

pub if_some : (o : Option ℕ) (i : ℕ) (Q : ℕ → Type 0) → IfSome o Q → o ≡ Some i → Q i
if_some o i Q h is = subst (λ o. IfSome o Q) is h
