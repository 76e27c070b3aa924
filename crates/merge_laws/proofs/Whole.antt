-- The whole of tidy: it ends, it is normal, and it keeps the effect.
use Rattle.std.proofs.Common.{◌≡◌, ℕ, zero, suc, true, false, cond, ◌+◌, ◌<◌, ◌≤◌, List, [], ◌∷◌, ◌++◌, refl, sym, ap, subst, ◌∙◌, length, arith, length-append}
use Rattle.std.specs.Prelude.{Option, None, Some}
use Rattle.std.specs.Option.{option_map}
use Rattle.ecore_meta.specs.Meta.{Meta}
use Rattle.model_state.specs.Steps.{fold}
use Rattle.model_state.specs.declared.step.Step.{Step}
use Rattle.model_state.specs.declared.operation.OpKind.{OpKind}
use Rattle.model_state.specs.declared.operation.Operation.{Operation}
use Rattle.model_state.specs.declared.operation.Operation.TheVariants.{Simple, Composite}
use Rattle.merge_laws.specs.Joins.{joined}
use Rattle.merge_laws.specs.Split.{split, Alone, EachAlone}
use Rattle.merge_laws.specs.Rules.{takes_back, joined_op, met, NoRule, OneRule, Settles, done, more}
use Rattle.merge_laws.specs.Tidy.{once, settle, tidy}
use Rattle.merge_laws.specs.TidyLaws.{TidyFollowsRules, TidyIsNormal, TidyKeepsEffect}
use Rattle.merge_laws.proofs.Lists.{each_join, each_first, each_second, split_steps, split_alone}
use Rattle.merge_laws.proofs.TidyEffect.{settling_keeps}
use Rattle.merge_laws.proofs.Search.{one_left, once_some, once_none}

-- ---- each rule takes an operation away
pub shorter : (meta : Meta) (p q : List Operation) → OneRule meta p q → length q < length p
shorter meta p q r =
    let few = (one_left r.a r.b r.left r.rule).1 in
    let was : length p ≡ length r.front + suc (length r.mid + suc (length r.back)) =
    ap length r.at ∙ length-append r.front (r.a ∷ (r.mid ++ (r.b ∷ r.back)))
    ∙ ap (λ n. length r.front + suc n) (length-append r.mid (r.b ∷ r.back)) in
    let now : length q ≡ length r.front + (length r.left + (length r.mid + length r.back)) =
    ap length r.gives ∙ length-append r.front (r.left ++ (r.mid ++ r.back))
    ∙ ap (λ n. length r.front + n) (length-append r.left (r.mid ++ r.back) ∙ ap (λ n. length r.left + n) (length-append r.mid r.back)) in
    omega (arith, few, was, now)

settle_settles : (meta : Meta) (n : ℕ) (p : List Operation) → length p ≤ n → Settles meta p (settle meta n p)
settle_settles meta zero [] h = done (once_none meta [] [] tt refl)
settle_settles meta zero (o ∷ p) h = absurd (omega (arith, h))
settle_settles meta (suc n) p h =
    elim (once meta [] p) as (λ o. once meta [] p ≡ o → Settles meta p (elim o as (λ _. List Operation) [ None ↦ p | Some q ↦ settle meta n q ])) [
      | None ↦ λ is. done (once_none meta [] p tt is)
      | Some q ↦ λ is. let r = once_some meta [] p q tt is in let fewer = shorter meta p q r in more r (settle_settles meta n q (omega (arith, h, fewer)))
    ] refl

pub tidy_follows_rules : TidyFollowsRules
unfolding tidy
tidy_follows_rules meta p = settle_settles meta (length (split p)) (split p) (omega arith)

-- ---- what is left is normal
settled_end : (meta : Meta) (p q : List Operation) → Settles meta p q → NoRule meta q
settled_end meta p q (done none) = none
settled_end meta p q (more {q = mid} r rest) = settled_end meta mid q rest

some_same : {A : Type 0} (x y : A) → Some x ≡ Some y → x ≡ y
some_same x y h = cc

one_alone : (kind : OpKind) (o : Option Step) (c : Operation) → option_map (λ u. Simple kind (u ∷ [])) o ≡ Some c → Alone c
one_alone kind None c h = cc
one_alone kind (Some u) c h = subst Alone (some_same (Simple kind (u ∷ [])) c h) tt

joined_alone : (a b c : Operation) → joined_op a b ≡ Some c → Alone c
joined_alone (Simple kind (s ∷ [])) (Simple other (t ∷ [])) c h = one_alone kind (joined s t) c h
joined_alone (Simple kind (s ∷ [])) (Simple other []) c h = cc
joined_alone (Simple kind (s ∷ [])) (Simple other (t ∷ t' ∷ ts)) c h = cc
joined_alone (Simple kind (s ∷ [])) (Composite name ts) c h = cc
joined_alone (Simple kind []) b c h = cc
joined_alone (Simple kind (s ∷ s' ∷ ss)) b c h = cc
joined_alone (Composite name ss) b c h = cc

left_alone : (a b : Operation) (left : List Operation) → met a b ≡ Some left → EachAlone left
left_alone a b left h =
    elim (takes_back b a) as (λ t. cond t (Some []) (option_map (λ c. c ∷ []) (joined_op a b)) ≡ Some left → EachAlone left) [
      | true ↦ λ g. subst EachAlone (some_same [] left g) tt
      | false ↦ elim (joined_op a b) as (λ o. joined_op a b ≡ o → option_map (λ c. c ∷ []) o ≡ Some left → EachAlone left) [
        | None ↦ λ _ g. cc
        | Some c ↦ λ is g. subst EachAlone (some_same (c ∷ []) left g) (joined_alone a b c is, tt)
      ] refl
    ] h

rule_alone : (meta : Meta) (p q : List Operation) → OneRule meta p q → EachAlone p → EachAlone q
rule_alone meta p q r h =
    let all = subst EachAlone r.at h in
    let rest = (each_second r.front (r.a ∷ (r.mid ++ (r.b ∷ r.back))) all).1 in
    subst EachAlone (sym r.gives)
    (each_join r.front (r.left ++ (r.mid ++ r.back)) (each_first r.front (r.a ∷ (r.mid ++ (r.b ∷ r.back))) all)
    (each_join r.left (r.mid ++ r.back) (left_alone r.a r.b r.left r.rule)
    (each_join r.mid r.back (each_first r.mid (r.b ∷ r.back) rest) (each_second r.mid (r.b ∷ r.back) rest).1)))

settled_alone : (meta : Meta) (p q : List Operation) → Settles meta p q → EachAlone p → EachAlone q
settled_alone meta p q (done none) h = h
settled_alone meta p q (more {q = mid} r rest) h = settled_alone meta mid q rest (rule_alone meta p mid r h)

pub tidy_is_normal : TidyIsNormal
tidy_is_normal meta p = record {
  alone = settled_alone meta (split p) (tidy meta p) (tidy_follows_rules meta p) (split_alone p);
  settled = settled_end meta (split p) (tidy meta p) (tidy_follows_rules meta p);
}

-- ---- and does the same
pub tidy_keeps_effect : TidyKeepsEffect
tidy_keeps_effect meta sound m n good p h =
    settling_keeps meta sound m n good (split p) (tidy meta p) (tidy_follows_rules meta p) (ap (fold meta m) (split_steps p) ∙ h)
