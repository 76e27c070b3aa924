-- Tidying leaves as it is what it left: each of its simple operations has the kind of its one step.
use Rattle.std.proofs.Common.{◌≡◌, true, false, cond, List, [], ◌∷◌, ◌++◌, Bool, refl, sym, ap, subst, ◌∙◌, ◌&&◌, nat_eq}
use Rattle.std.specs.Prelude.{Option, None, Some}
use Rattle.std.specs.Option.{option_map}
use Rattle.finite_maps.specs.Equal.{text_eq}
use Rattle.ecore_meta.specs.Meta.{Meta}
use Rattle.model_state.specs.declared.step.Step.{Step}
use Rattle.model_state.specs.declared.step.Step.TheVariants.{Put, RerankRow, RerankPlace}
use Rattle.model_state.specs.declared.operation.OpKind.{OpKind}
use Rattle.model_state.specs.declared.operation.Operation.{Operation}
use Rattle.model_state.specs.declared.operation.Operation.TheVariants.{Simple, Composite}
use Rattle.merge_laws.specs.Joins.{joined}
use Rattle.merge_laws.specs.Split.{own_kind, singles, split}
use Rattle.merge_laws.specs.Rules.{takes_back, joined_op, met, OneRule, Settles, done, more}
use Rattle.merge_laws.specs.Tidy.{tidy}
use Rattle.merge_laws.specs.TidyLaws.{TidyIsIdempotent}
use Rattle.merge_laws.proofs.Search.{some_same}
use Rattle.merge_laws.proofs.Whole.{tidy_follows_rules, tidy_is_normal}
use Rattle.merge_laws.proofs.RuleChoice.{rules_leave_no_choice}

-- a composite, or a simple operation of one step and of its kind
abbrev pub Own : Operation → Type 0
Own (Simple kind []) = ⊥
Own (Simple kind (s ∷ [])) = kind ≡ own_kind s
Own (Simple kind (s ∷ t ∷ ss)) = ⊥
Own (Composite name steps) = Unit {0}

abbrev pub EachOwn : List Operation → Type 0
EachOwn [] = Unit {0}
EachOwn (o ∷ os) = Own o × EachOwn os

own_join : (p q : List Operation) → EachOwn p → EachOwn q → EachOwn (p ++ q)
own_join [] q h g = g
own_join (o ∷ p) q h g = (h.0, own_join p q h.1 g)

own_first : (p q : List Operation) → EachOwn (p ++ q) → EachOwn p
own_first [] q h = tt
own_first (o ∷ p) q h = (h.0, own_first p q h.1)

own_second : (p q : List Operation) → EachOwn (p ++ q) → EachOwn q
own_second [] q h = h
own_second (o ∷ p) q h = own_second p q h.1

-- ---- what is split is so, and stays so
singles_own : (ss : List Step) → EachOwn (singles ss)
singles_own [] = tt
singles_own (s ∷ ss) = (refl, singles_own ss)

split_own : (p : List Operation) → EachOwn (split p)
split_own [] = tt
split_own (Simple kind steps ∷ os) = own_join (singles steps) (split os) (singles_own steps) (split_own os)
split_own (Composite name steps ∷ os) = (tt, split_own os)

pub own_split : (p : List Operation) → EachOwn p → split p ≡ p
own_split [] h = refl
own_split (Simple kind [] ∷ os) h = absurd h.0
own_split (Simple kind (s ∷ []) ∷ os) h = let rest = own_split os h.1 in λ i. Simple (sym h.0 i) (s ∷ []) ∷ rest i
own_split (Simple kind (s ∷ t ∷ ss) ∷ os) h = absurd h.0
own_split (Composite name steps ∷ os) h = ap (λ l. Composite name steps ∷ l) (own_split os h.1)

-- ---- a joined step has the kind of the first
kind_of_some : (b : Bool) (s u v : Step) → own_kind v ≡ own_kind s → cond b (Some v) None ≡ Some u → own_kind u ≡ own_kind s
kind_of_some true s u v k h = sym (ap own_kind (some_same v u h)) ∙ k
kind_of_some false s u v k h = cc

joined_kind : (s t u : Step) → joined s t ≡ Some u → own_kind u ≡ own_kind s
joined_kind (Put e f old mid) (Put e' f' mid' new) u h = kind_of_some (text_eq e e' && nat_eq f f') (Put e f old mid) u (Put e f old new) refl h
joined_kind (RerankRow a f b old mid) (RerankRow a' f' b' mid' new) u h =
    kind_of_some (text_eq a a' && (nat_eq f f' && text_eq b b')) (RerankRow a f b old mid) u (RerankRow a f b old new) refl h
joined_kind (RerankPlace e old mid) (RerankPlace e' mid' new) u h = kind_of_some (text_eq e e') (RerankPlace e old mid) u (RerankPlace e old new) refl h
joined_kind s t u h = cc

one_own : (kind : OpKind) (s : Step) (o : Option Step) (c : Operation) → kind ≡ own_kind s → ((u : Step) → o ≡ Some u → own_kind u ≡ own_kind s)
    → option_map (λ u. Simple kind (u ∷ [])) o ≡ Some c → Own c
one_own kind s None c k same h = cc
one_own kind s (Some u) c k same h = subst Own (some_same (Simple kind (u ∷ [])) c h) (k ∙ sym (same u refl))

joined_own : (a b c : Operation) → Own a → joined_op a b ≡ Some c → Own c
joined_own (Simple kind (s ∷ [])) (Simple other (t ∷ [])) c k h = one_own kind s (joined s t) c k (joined_kind s t) h
joined_own (Simple kind (s ∷ [])) (Simple other []) c k h = cc
joined_own (Simple kind (s ∷ [])) (Simple other (t ∷ t' ∷ ts)) c k h = cc
joined_own (Simple kind (s ∷ [])) (Composite name ts) c k h = cc
joined_own (Simple kind []) b c k h = absurd k
joined_own (Simple kind (s ∷ s' ∷ ss)) b c k h = absurd k
joined_own (Composite name ss) b c k h = cc

left_own : (a b : Operation) (left : List Operation) → Own a → met a b ≡ Some left → EachOwn left
left_own a b left k h =
    elim (takes_back b a) as (λ t. cond t (Some []) (option_map (λ c. c ∷ []) (joined_op a b)) ≡ Some left → EachOwn left) [
      | true ↦ λ g. subst EachOwn (some_same [] left g) tt
      | false ↦ elim (joined_op a b) as (λ o. joined_op a b ≡ o → option_map (λ c. c ∷ []) o ≡ Some left → EachOwn left) [
        | None ↦ λ _ g. cc
        | Some c ↦ λ is g. subst EachOwn (some_same (c ∷ []) left g) (joined_own a b c k is, tt)
      ] refl
    ] h

-- ---- one rule, and all
rule_own : (meta : Meta) (p q : List Operation) → OneRule meta p q → EachOwn p → EachOwn q
rule_own meta p q r h =
    let all = subst EachOwn r.at h in
    let from = own_second r.front (r.a ∷ (r.mid ++ (r.b ∷ r.back))) all in
    subst EachOwn (sym r.gives)
    (own_join r.front (r.left ++ (r.mid ++ r.back)) (own_first r.front (r.a ∷ (r.mid ++ (r.b ∷ r.back))) all)
    (own_join r.left (r.mid ++ r.back) (left_own r.a r.b r.left from.0 r.rule)
    (own_join r.mid r.back (own_first r.mid (r.b ∷ r.back) from.1) (own_second r.mid (r.b ∷ r.back) from.1).1)))

settled_own : (meta : Meta) (p q : List Operation) → Settles meta p q → EachOwn p → EachOwn q
settled_own meta p q (done none) h = h
settled_own meta p q (more {q = mid} r rest) h = settled_own meta mid q rest (rule_own meta p mid r h)

pub tidy_own : (meta : Meta) (p : List Operation) → EachOwn (tidy meta p)
tidy_own meta p = settled_own meta (split p) (tidy meta p) (tidy_follows_rules meta p) (split_own p)

pub tidy_is_idempotent : TidyIsIdempotent
tidy_is_idempotent meta p =
    let q = tidy meta p in
    let same : split q ≡ q = own_split q (tidy_own meta p) in
    sym ((rules_leave_no_choice meta q q).2 (subst (λ l. Settles meta l q) (sym same) (done (tidy_is_normal meta p).settled)))
