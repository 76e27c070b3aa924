-- One rule keeps the effect: b moves next to a, and then undoes it or is joined with it.
use Rattle.std.proofs.Common.{◌≡◌, Bool, true, false, cond, List, [], ◌∷◌, ◌++◌, refl, sym, ap, subst, ◌∙◌, ◌&&◌}
use Rattle.std.specs.Prelude.{Option, None, Some}
use Rattle.std.specs.Option.{option_map}
use Rattle.std.proofs.lemmas.List.{append-nil}
use Rattle.ecore_meta.specs.Meta.{Meta}
use Rattle.model_state.specs.declared.step.Step.{Step}
use Rattle.model_state.specs.State.{State}
use Rattle.model_state.specs.Steps.{Can, apply, rev, rev_all, fold}
use Rattle.model_state.specs.Good.{Good, Sound}
use Rattle.model_laws.proofs.Runs.{fold_first, fold_more, reversal_undoes}
use Rattle.finite_maps.proofs.EqualLaws.{list_equality}
use Rattle.merge_laws.specs.Joins.{step_eq, joined}
use Rattle.merge_laws.proofs.StepEqual.{step_equality}
use Rattle.merge_laws.proofs.Joins.{join_does_both}
use Rattle.model_state.specs.declared.operation.Operation.{Operation}
use Rattle.model_state.specs.declared.operation.Operation.TheVariants.{Simple, Composite}
use Rattle.model_state.specs.Packages.{steps_of}
use Rattle.footprint.specs.Interference.{Free, NoPair}
use Rattle.footprint.proofs.Pairs.{symmetric_false}
use Rattle.footprint.proofs.Runs.{Leads, cut, join, packages_keep, packages_exchange}
use Rattle.merge_laws.specs.Rules.{takes_back, joined_op, met, OneRule, Settles, done, more}

free_turn : (meta : Meta) (b : Operation) (mid : List Operation) → Free meta b mid → NoPair meta mid (b ∷ [])
free_turn meta b [] h = tt
free_turn meta b (o ∷ mid) h = ((symmetric_false meta b o h.0, tt), free_turn meta b mid h.1)

-- ---- two operations next to each other
and_true : (t : Bool) → t && true ≡ false → t ≡ false
and_true true h = h
and_true false h = refl

some_same : {A : Type 0} (x y : A) → Some x ≡ Some y → x ≡ y
some_same x y h = cc

some_map : {A B : Type 0} (f : A → B) (o : Option A) (y : B) → option_map f o ≡ Some y → (x : A) × (o ≡ Some x) × (f x ≡ y)
some_map f None y h = cc
some_map f (Some x) y h = (x, refl, some_same (f x) y h)

one_step : (meta : Meta) (m n : State) (s : Step) → fold meta m (s ∷ []) ≡ Some n → Can meta m s × (apply meta m s ≡ n)
one_step meta m n s h = let p = fold_first meta m n s [] h in (p.0, some_same (apply meta m s) n p.1)

-- both are simple, of one step each
join_leads : (meta : Meta) (a b c : Operation) (m n k : State) → takes_back b a ≡ false → joined_op a b ≡ Some c → Leads meta m (a ∷ []) n
    → Leads meta n (b ∷ []) k → Leads meta m (c ∷ []) k
join_leads meta (Simple kind (s ∷ [])) (Simple other (t ∷ [])) c m n k apart is first second =
    let x = one_step meta m n s first in
    let y = one_step meta n k t second in
    let u = some_map (λ u. Simple kind (u ∷ [])) (joined s t) c is in
    let both = join_does_both meta m s t u.0 x.0 (subst (λ z. Can meta z t) (sym x.1) y.0) (and_true (step_eq t (rev s)) apart) u.1 in
    subst (λ z. Leads meta m (z ∷ []) k) u.2
    (fold_more meta m u.0 [] both.0 ∙ ap Some (both.1 ∙ ap (λ z. apply meta z t) x.1 ∙ y.1))
join_leads meta (Simple kind (s ∷ [])) (Simple other []) c m n k apart is first second = cc
join_leads meta (Simple kind (s ∷ [])) (Simple other (t ∷ t' ∷ ts)) c m n k apart is first second = cc
join_leads meta (Simple kind (s ∷ [])) (Composite name ts) c m n k apart is first second = cc
join_leads meta (Simple kind []) b c m n k apart is first second = cc
join_leads meta (Simple kind (s ∷ s' ∷ ss)) b c m n k apart is first second = cc
join_leads meta (Composite name ss) b c m n k apart is first second = cc

-- what a rule leaves does what both did
pub met_leads : (meta : Meta) → Sound meta → (a b : Operation) (left : List Operation) (m n k : State) → Good meta m → met a b ≡ Some left
    → Leads meta m (a ∷ []) n → Leads meta n (b ∷ []) k → Leads meta m left k
met_leads meta sound a b left m n k good is first second =
    elim (takes_back b a) as (λ t. takes_back b a ≡ t → cond t (Some []) (option_map (λ c. c ∷ []) (joined_op a b)) ≡ Some left → Leads meta m left k) [
      | true ↦ λ back g.
          let same : steps_of b ≡ rev_all (steps_of a) = (list_equality step_eq step_equality).exact (steps_of b) (rev_all (steps_of a)) back in
          let there = ap (fold meta m) (sym (append-nil (steps_of a))) ∙ first in
          let undone = ap (fold meta n) (append-nil (steps_of b) ∙ same) ∙ reversal_undoes meta sound m n good (steps_of a) there in
          subst (λ l. Leads meta m l k) (some_same [] left g) (sym undone ∙ second)
      | false ↦ λ apart g.
          let c = some_map (λ c. c ∷ []) (joined_op a b) left g in
          subst (λ l. Leads meta m l k) c.2 (join_leads meta a b c.0 m n k apart c.1 first second)
    ] refl is

-- ---- one rule, and all
pub rule_keeps : (meta : Meta) → Sound meta → (front mid back left : List Operation) (a b : Operation) → Free meta b mid → met a b ≡ Some left
    → (m n : State) → Good meta m → Leads meta m (front ++ (a ∷ (mid ++ (b ∷ back)))) n → Leads meta m (front ++ (left ++ (mid ++ back))) n
rule_keeps meta sound front mid back left a b free rule m n good h =
    let x = cut meta m n front (a ∷ (mid ++ (b ∷ back))) h in
    let y = cut meta x.0 n (a ∷ []) (mid ++ (b ∷ back)) x.2 in
    let z = cut meta y.0 n mid (b ∷ back) y.2 in
    let w = cut meta z.0 n (b ∷ []) back z.2 in
    let good_x = packages_keep meta sound m x.0 good front x.1 in
    let good_y = packages_keep meta sound x.0 y.0 good_x (a ∷ []) y.1 in
    let turned = packages_exchange meta sound mid (b ∷ []) y.0 w.0 good_y (free_turn meta b mid free) (join meta y.0 z.0 w.0 mid (b ∷ []) z.1 w.1) in
    let v = cut meta y.0 w.0 (b ∷ []) mid turned in
    let close = met_leads meta sound a b left x.0 y.0 v.0 good_x rule y.1 v.1 in
    join meta m x.0 n front (left ++ (mid ++ back)) x.1
    (join meta x.0 v.0 n left (mid ++ back) close
    (join meta v.0 w.0 n mid back v.2 w.2))

pub one_rule_keeps : (meta : Meta) → Sound meta → (p q : List Operation) → OneRule meta p q → (m n : State) → Good meta m → Leads meta m p n → Leads meta m q n
one_rule_keeps meta sound p q r m n good h =
    subst (λ l. Leads meta m l n) (sym r.gives)
    (rule_keeps meta sound r.front r.mid r.back r.left r.a r.b r.free r.rule m n good (subst (λ l. Leads meta m l n) r.at h))

pub settling_keeps : (meta : Meta) → Sound meta → (m n : State) → Good meta m → (p q : List Operation) → Settles meta p q → Leads meta m p n → Leads meta m q n
settling_keeps meta sound m n good p q (done _) h = h
settling_keeps meta sound m n good p q (more {q = mid} r rest) h = settling_keeps meta sound m n good mid q rest (one_rule_keeps meta sound p mid r m n good h)
