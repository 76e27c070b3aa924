-- Reversing, tidying, keeping and dropping leave steps that have a spelling.
use Rattle.std.proofs.Common.{◌≡◌, ℕ, suc, nat_eq, Bool, true, false, cond, ◌&&◌, List, [], ◌∷◌, ◌++◌, Option, None, Some, sym, subst}
use Rattle.std.specs.Option.{option_map}
use Rattle.std.specs.List.{AllByRecursion}
use Rattle.finite_maps.specs.Equal.{text_eq}
use Rattle.ecore_meta.specs.Meta.{Meta}
use Rattle.model_state.specs.Steps.{rev, rev_all}
use Rattle.model_state.specs.Packages.{steps_of, steps_all, rev_op, rev_package}
use Rattle.model_state.specs.declared.step.Step.{Step}
use Rattle.model_state.specs.declared.step.Step.TheVariants.{Put, Ins, Del, Shift, Link, Unlink, RerankRow, New, Gone, Move, RerankPlace}
use Rattle.model_state.specs.declared.operation.OpKind.{OpKind}
use Rattle.model_state.specs.declared.operation.Operation.{Operation}
use Rattle.model_state.specs.declared.operation.Operation.TheVariants.{Simple, Composite}
use Rattle.merge_laws.specs.Joins.{joined}
use Rattle.merge_laws.specs.Split.{singles, split}
use Rattle.merge_laws.specs.Rules.{takes_back, joined_op, met, OneRule, Settles, done, more}
use Rattle.merge_laws.specs.Tidy.{tidy}
use Rattle.merge_laws.proofs.Whole.{tidy_follows_rules}
use Rattle.footprint.specs.declared.bucket.Bucket.{Bucket}
use Rattle.merge_laws.specs.declared.side.Side.{Side}
use Rattle.merge_laws.specs.Merge.{drops_theirs, drops_mine, dropped, kept, update_list, merge_list}
use Rattle.op_form.specs.Formed.{IsGiven, IsStep}
use Rattle.plain_repository.proofs.Places.{both, front}

-- each step of the operation has a spelling
abbrev pub IsSpelled : Operation → Type 0
IsSpelled o = AllByRecursion IsStep (steps_of o)

-- so has each step of each of these
abbrev pub AreSpelled : List Operation → Type 0
AreSpelled os = AllByRecursion IsSpelled os

-- ---- lists
pub behind : {X : Type 0} (P : X → Type 0) (xs ys : List X) → AllByRecursion P (xs ++ ys) → AllByRecursion P ys
behind P [] ys all = all
behind P (x ∷ xs) ys all = behind P xs ys all.1

-- the operations have their spellings where all their steps have
pub steps_spelled : (os : List Operation) → AreSpelled os → AllByRecursion IsStep (steps_all os)
steps_spelled [] all = tt
steps_spelled (o ∷ os) all = both IsStep (steps_of o) (steps_all os) all.0 (steps_spelled os all.1)

pub spelled_steps : (os : List Operation) → AllByRecursion IsStep (steps_all os) → AreSpelled os
spelled_steps [] all = tt
spelled_steps (o ∷ os) all = (front IsStep (steps_of o) (steps_all os) all, spelled_steps os (behind IsStep (steps_of o) (steps_all os) all))

-- ---- reversals
step_back : (s : Step) → IsStep s → IsStep (rev s)
step_back (Put e f old new) is = (is.0, (is.1.0, (is.1.1.1, is.1.1.0)))
step_back (Ins e f at v) is = is
step_back (Del e f at v) is = is
step_back (Shift e f from to) is = (is.0, (is.1.0, (is.1.1.1, is.1.1.0)))
step_back (Link a f ra b rb) is = is
step_back (Unlink a f ra b rb) is = is
step_back (RerankRow a f b old new) is = (is.0, (is.1.0, (is.1.1.0, (is.1.1.1.1, is.1.1.1.0))))
step_back (New e class place rank) is = is
step_back (Gone e class place rank) is = is
step_back (Move e from from_rank to to_rank above_from above_to) is =
    (is.0, (is.1.1.1.0, (is.1.1.1.1.0, (is.1.0, (is.1.1.0, (is.1.1.1.1.1.1, is.1.1.1.1.1.0))))))
step_back (RerankPlace e old new) is = (is.0, (is.1.1, is.1.0))

steps_back : (ss : List Step) → AllByRecursion IsStep ss → AllByRecursion IsStep (rev_all ss)
steps_back [] all = tt
steps_back (s ∷ ss) all = both IsStep (rev_all ss) (rev s ∷ []) (steps_back ss all.1) (step_back s all.0, tt)

operation_back : (o : Operation) → IsSpelled o → IsSpelled (rev_op o)
operation_back (Simple kind steps) is = steps_back steps is
operation_back (Composite name steps) is = steps_back steps is

pub package_back : (os : List Operation) → AreSpelled os → AreSpelled (rev_package os)
package_back [] all = tt
package_back (o ∷ os) all = both IsSpelled (rev_package os) (rev_op o ∷ []) (package_back os all.1) (operation_back o all.0, tt)

-- ---- keeping and dropping
chosen_both : {X : Type 0} (P : X → Type 0) (b : Bool) (x y : X) → P x → P y → P (cond b x y)
chosen_both P true x y first second = first
chosen_both P false x y first second = second

kept_spelled : (p : ℕ → Bool) (os : List Operation) → AreSpelled os → AreSpelled (kept p os)
kept_spelled p [] all = tt
kept_spelled p (o ∷ os) all =
    let rest : AreSpelled (kept (λ i. p (suc i)) os) = kept_spelled (λ i. p (suc i)) os all.1 in
    chosen_both AreSpelled (p 0) (kept (λ i. p (suc i)) os) (o ∷ kept (λ i. p (suc i)) os) rest (all.0, rest)

dropped_spelled : (p : ℕ → Bool) (os : List Operation) → AreSpelled os → AreSpelled (dropped p os)
dropped_spelled p [] all = tt
dropped_spelled p (o ∷ os) all =
    let rest : AreSpelled (dropped (λ i. p (suc i)) os) = dropped_spelled (λ i. p (suc i)) os all.1 in
    chosen_both AreSpelled (p 0) (o ∷ dropped (λ i. p (suc i)) os) (dropped (λ i. p (suc i)) os) (all.0, rest) rest

pub update_spelled : (theirs mine : List Operation) (bs : List Bucket) (letters : List Side) → AreSpelled theirs → AreSpelled mine
    → AreSpelled (update_list theirs mine bs letters)
update_spelled theirs mine bs letters first second =
    both IsSpelled (rev_package (dropped (drops_theirs bs letters) theirs)) (kept (drops_mine bs letters) mine)
    (package_back (dropped (drops_theirs bs letters) theirs) (dropped_spelled (drops_theirs bs letters) theirs first))
    (kept_spelled (drops_mine bs letters) mine second)

pub merge_spelled : (theirs mine : List Operation) (bs : List Bucket) (letters : List Side) → AreSpelled theirs → AreSpelled mine
    → AreSpelled (merge_list theirs mine bs letters)
merge_spelled theirs mine bs letters first second =
    both IsSpelled (rev_package (dropped (drops_mine bs letters) mine)) (kept (drops_theirs bs letters) theirs)
    (package_back (dropped (drops_mine bs letters) mine) (dropped_spelled (drops_mine bs letters) mine second))
    (kept_spelled (drops_theirs bs letters) theirs first)

-- ---- tidying
singles_spelled : (ss : List Step) → AllByRecursion IsStep ss → AreSpelled (singles ss)
singles_spelled [] all = tt
singles_spelled (s ∷ ss) all = ((all.0, tt), singles_spelled ss all.1)

split_spelled : (os : List Operation) → AreSpelled os → AreSpelled (split os)
split_spelled [] all = tt
split_spelled (Simple kind steps ∷ os) all = both IsSpelled (singles steps) (split os) (singles_spelled steps all.0) (split_spelled os all.1)
split_spelled (Composite name steps ∷ os) all = (all.0, split_spelled os all.1)

given : (b : Bool) (s : Step) → IsStep s → IsGiven IsStep (cond b (Some s) None)
given true s is = is
given false s is = tt

-- a step that is joined of two is spelled as they are
joined_spelled : (s t : Step) → IsStep s → IsStep t → IsGiven IsStep (joined s t)
joined_spelled (Put e f old mid) (Put x g again new) first second =
    given (text_eq e x && nat_eq f g) (Put e f old new) (first.0, (first.1.0, (first.1.1.0, second.1.1.1)))
joined_spelled (RerankRow a f b old mid) (RerankRow x g y again new) first second =
    given (text_eq a x && (nat_eq f g && text_eq b y)) (RerankRow a f b old new) (first.0, (first.1.0, (first.1.1.0, (first.1.1.1.0, second.1.1.1.1))))
joined_spelled (RerankPlace e old mid) (RerankPlace x again new) first second = given (text_eq e x) (RerankPlace e old new) (first.0, (first.1.0, second.1.1))
joined_spelled s t first second = tt

given_operation : (kind : OpKind) (o : Option Step) → IsGiven IsStep o → IsGiven IsSpelled (option_map (λ u. Simple kind (u ∷ [])) o)
given_operation kind None is = tt
given_operation kind (Some u) is = (is, tt)

joined_op_spelled : (a b : Operation) → IsSpelled a → IsSpelled b → IsGiven IsSpelled (joined_op a b)
joined_op_spelled (Simple kind (s ∷ [])) (Simple other (t ∷ [])) first second = given_operation kind (joined s t) (joined_spelled s t first.0 second.0)
joined_op_spelled (Simple kind (s ∷ [])) (Simple other []) first second = tt
joined_op_spelled (Simple kind (s ∷ [])) (Simple other (t ∷ u ∷ ts)) first second = tt
joined_op_spelled (Simple kind (s ∷ [])) (Composite name ts) first second = tt
joined_op_spelled (Simple kind []) b first second = tt
joined_op_spelled (Simple kind (s ∷ t ∷ ss)) b first second = tt
joined_op_spelled (Composite name ss) b first second = tt

given_list : (o : Option Operation) → IsGiven IsSpelled o → IsGiven AreSpelled (option_map (λ c. c ∷ []) o)
given_list None is = tt
given_list (Some c) is = (is, tt)

given_choice : (b : Bool) (o : Option (List Operation)) → IsGiven AreSpelled o → IsGiven AreSpelled (cond b (Some []) o)
given_choice true o is = tt
given_choice false o is = is

-- what a rule leaves of two operations is spelled as they are
met_spelled : (a b : Operation) (left : List Operation) → met a b ≡ Some left → IsSpelled a → IsSpelled b → AreSpelled left
met_spelled a b left is first second =
    subst (IsGiven AreSpelled) is
    (given_choice (takes_back b a) (option_map (λ c. c ∷ []) (joined_op a b)) (given_list (joined_op a b) (joined_op_spelled a b first second)))

rule_spelled : (meta : Meta) (p q : List Operation) → OneRule meta p q → AreSpelled p → AreSpelled q
rule_spelled meta p q r all =
    let whole : AreSpelled (r.front ++ (r.a ∷ (r.mid ++ (r.b ∷ r.back)))) = subst AreSpelled r.at all in
    let first : AreSpelled r.front = front IsSpelled r.front (r.a ∷ (r.mid ++ (r.b ∷ r.back))) whole in
    let rest : AreSpelled (r.a ∷ (r.mid ++ (r.b ∷ r.back))) = behind IsSpelled r.front (r.a ∷ (r.mid ++ (r.b ∷ r.back))) whole in
    let mid : AreSpelled r.mid = front IsSpelled r.mid (r.b ∷ r.back) rest.1 in
    let last : AreSpelled (r.b ∷ r.back) = behind IsSpelled r.mid (r.b ∷ r.back) rest.1 in
    subst AreSpelled (sym r.gives)
    (both IsSpelled r.front (r.left ++ (r.mid ++ r.back)) first
    (both IsSpelled r.left (r.mid ++ r.back) (met_spelled r.a r.b r.left r.rule rest.0 last.0)
    (both IsSpelled r.mid r.back mid last.1)))

settled_spelled : (meta : Meta) (p q : List Operation) → Settles meta p q → AreSpelled p → AreSpelled q
settled_spelled meta p q (done _) all = all
settled_spelled meta p q (more {q = mid} r rest) all = settled_spelled meta mid q rest (rule_spelled meta p mid r all)

pub tidy_spelled : (meta : Meta) (os : List Operation) → AreSpelled os → AreSpelled (tidy meta os)
tidy_spelled meta os all = settled_spelled meta (split os) (tidy meta os) (tidy_follows_rules meta os) (split_spelled os all)
