-- The rules leave no choice: a list has at most one list that one rule makes of it.
use Rattle.std.proofs.Common.{◌≡◌, ℕ, zero, suc, ◌≤◌, List, [], ◌∷◌, ◌++◌, refl, sym, ap, ◌∙◌, length, arith}
use Rattle.std.specs.Prelude.{Option, None, Some}
use Rattle.std.specs.Option.{option_map}
use Rattle.std.proofs.lemmas.List.{append_assoc}
use Rattle.ecore_meta.specs.Meta.{Meta}
use Rattle.model_state.specs.declared.operation.Operation.{Operation}
use Rattle.footprint.specs.Interference.{interferes, Free}
use Rattle.merge_laws.specs.Split.{split}
use Rattle.merge_laws.specs.Rules.{met, NoneMet, NoRule, OneRule, Settles, done, more}
use Rattle.merge_laws.specs.Tidy.{onto, met_or, into, put_back, once, settle, tidy}
use Rattle.merge_laws.specs.TidyLaws.{RulesLeaveNoChoice}
use Rattle.merge_laws.proofs.Lists.{onto_front, onto_append}
use Rattle.merge_laws.proofs.Search.{free_onto, none_onto, Found, into_some, one_left, once_some}
use Rattle.merge_laws.proofs.Whole.{shorter}

some_none : {A : Type 0} (o : Option A) (v : A) → o ≡ Some v → o ≡ None → ⊥
some_none o v h k = cc

-- where no rule applies before the rest, the search passes it
no_place : (meta : Meta) (b : Operation) (before after xs : List Operation) → NoRule meta (onto before (b ∷ xs)) → Found meta b before after → ⊥
no_place meta b before after xs none f =
    let at : onto before (b ∷ xs) ≡ onto f.far [] ++ (f.a ∷ (onto f.near [] ++ (b ∷ xs))) =
    ap (λ l. onto l (b ∷ xs)) f.at ∙ onto_append f.near (f.a ∷ f.far) (b ∷ xs) ∙ onto_front f.far (f.a ∷ onto f.near (b ∷ xs))
    ∙ ap (λ l. onto f.far [] ++ (f.a ∷ l)) (onto_front f.near (b ∷ xs)) in
    some_none (met f.a b) f.left f.rule (none (onto f.far []) (onto f.near []) xs f.a b at (free_onto meta b f.near [] f.free tt))

passes : (meta : Meta) (before xs rest : List Operation) → NoRule meta (onto before xs) → once meta before (xs ++ rest) ≡ once meta (onto xs before) rest
passes meta before [] rest none = refl
passes meta before (b ∷ xs) rest none =
    elim (into meta b before) as (λ o. into meta b before ≡ o
    → put_back o (xs ++ rest) (once meta (b ∷ before) (xs ++ rest)) ≡ once meta (onto xs (b ∷ before)) rest) [
      | Some after ↦ λ is. absurd (no_place meta b before after xs none (into_some meta b before after is))
      | None ↦ λ _. passes meta (b ∷ before) xs rest none
    ] refl

-- the search stops at the first that a rule applies to
into_at : (meta : Meta) (b a : Operation) (near far left : List Operation) → Free meta b near → NoneMet b near → met a b ≡ Some left
    → into meta b (near ++ (a ∷ far)) ≡ Some (near ++ (left ++ far))
into_at meta b a [] far left free none rule = ap (λ o. met_or o (interferes meta b a) a far (into meta b far)) rule
into_at meta b a (x ∷ near) far left free none rule =
    ap (λ o. met_or o (interferes meta b x) x (near ++ (a ∷ far)) (into meta b (near ++ (a ∷ far)))) none.0
    ∙ ap (λ t. met_or None t x (near ++ (a ∷ far)) (into meta b (near ++ (a ∷ far)))) free.0
    ∙ ap (option_map (λ l. x ∷ l)) (into_at meta b a near far left free.1 none.1 rule)

once_at : (meta : Meta) (p q : List Operation) → OneRule meta p q → once meta [] p ≡ Some q
once_at meta p q r =
    let xs = r.front ++ (r.a ∷ r.mid) in
    let cut : p ≡ xs ++ (r.b ∷ r.back) = r.at ∙ sym (append_assoc r.front (r.a ∷ r.mid) (r.b ∷ r.back)) in
    let near = onto r.mid [] in
    let far = onto r.front [] in
    let back : onto xs [] ≡ near ++ (r.a ∷ far) = onto_append r.front (r.a ∷ r.mid) [] ∙ onto_front r.mid (r.a ∷ far) in
    let found : into meta r.b (onto xs []) ≡ Some (near ++ (r.left ++ far)) =
    ap (into meta r.b) back
    ∙ into_at meta r.b r.a near far r.left (free_onto meta r.b r.mid [] r.free tt) (none_onto r.b r.mid [] r.greatest tt) r.rule in
    let again : (ys rest : List Operation)
    → onto (onto ys []) rest ≡ ys ++ rest = λ ys rest. onto_front (onto ys []) rest ∙ ap (λ l. l ++ rest) (turned ys []) in
    let gives : onto (near ++ (r.left ++ far)) r.back ≡ q =
    onto_append near (r.left ++ far) r.back
    ∙ onto_append r.left far (onto near r.back)
    ∙ again r.front (onto r.left (onto near r.back))
    ∙ ap (λ l. r.front ++ l)
    (onto_front r.left (onto near r.back) ∙ ap (λ l. l ++ onto near r.back) (one_left r.a r.b r.left r.rule).0
    ∙ ap (λ l. r.left ++ l) (again r.mid r.back))
    ∙ sym r.gives in
    ap (once meta []) cut ∙ passes meta [] xs (r.b ∷ r.back) r.least
    ∙ ap (λ o. put_back o r.back (once meta (r.b ∷ onto xs []) r.back)) found ∙ ap Some gives
  where
    turned : (xs ys : List Operation) → onto (onto xs ys) [] ≡ onto ys xs
    turned [] ys = refl
    turned (x ∷ xs) ys = turned xs (x ∷ ys)

once_not : (meta : Meta) (p : List Operation) → NoRule meta p → once meta [] p ≡ None
once_not meta p none =
    elim (once meta [] p) as (λ o. once meta [] p ≡ o → o ≡ None) [
      | None ↦ λ _. refl
      | Some q ↦ λ is. let r = once_some meta [] p q tt is in absurd (some_none (met r.a r.b) r.left r.rule (none r.front r.mid r.back r.a r.b r.at r.free))
    ] refl

settle_one : (meta : Meta) (n : ℕ) (p q : List Operation) → length p ≤ n → Settles meta p q → q ≡ settle meta n p
settle_one meta zero p q h (done none) = refl
settle_one meta (suc n) p q h (done none) =
    sym (ap (λ (o : Option (List Operation)). elim o as (λ _. List Operation) [ None ↦ p | Some q ↦ settle meta n q ]) (once_not meta p none))
settle_one meta zero p q h (more {q = mid} r rest) = let fewer = shorter meta p mid r in absurd (omega (arith, h, fewer))
settle_one meta (suc n) p q h (more {q = mid} r rest) =
    let fewer = shorter meta p mid r in
    settle_one meta n mid q (omega (arith, h, fewer)) rest
    ∙ sym (ap (λ (o : Option (List Operation)). elim o as (λ _. List Operation) [ None ↦ p | Some q ↦ settle meta n q ]) (once_at meta p mid r))

tidy_one : (meta : Meta) (p q : List Operation) → Settles meta (split p) q → q ≡ tidy meta p
unfolding tidy
tidy_one meta p q h = settle_one meta (length (split p)) (split p) q (omega arith) h

pub rules_leave_no_choice : RulesLeaveNoChoice
rules_leave_no_choice meta p q = (once_at meta p q, once_not meta p, tidy_one meta p q)
