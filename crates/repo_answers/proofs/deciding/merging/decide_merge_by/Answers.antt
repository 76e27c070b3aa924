-- A merge by a plan: refused for want of a choice, or with the event that the choices make.
use Rattle.std.proofs.Common.{◌≡◌, ℕ, List, [], true, sym, ◌∙◌, ap, subst, refl}
use Rattle.std.specs.Prelude.{IfOk, unwrap_or}
use Rattle.std.specs.Fmt.{decimal}
use Rattle.footprint.specs.declared.bucket.Bucket.{Bucket}
use Rattle.history_tree.specs.History.{History, head}
use Rattle.merge_laws.specs.Choices.{are_choices}
use Rattle.op_form.specs.declared.event.Event.TheVariants.{Merge}
use Rattle.plain_repository.specs.Answers as plain
use Rattle.plain_repository.specs.Answers.{told, with_room}
use Rattle.plain_repository.specs.Choices.{chosen}
use Rattle.plain_repository.specs.Events.{playable_with}
use Rattle.plain_repository.specs.Merging.{merge_to}
use Rattle.repo_answers.specs.Decisions.{plain_decision}
use Rattle.repo_state.specs.Keeping.{plain_of}
use Rattle.repo_state.proofs.Merges.{merge_could, nothing_left, plan_rows, plan_theirs, something_left}
use Rattle.repo_answers.proofs.Chosen.{merge_none, merge_passed, merge_some, passed_fit, refused_made, refused_seen}
use Rattle.repo_answers.proofs.deciding.merging.decide_merge_by.Goals as goal

pub returns-in-Some-clause-decision : goal.returns-in-Some-clause-decision
returns-in-Some-clause-decision c =
    let s = c.args.repo.now in
    let meta = c.args.begun.now.meta in
    let g = c.args.begun.now.history.history in
    let w = plain_of c.args.workspace.now in
    let branch = c.args.branch in
    let plan = c.args.plan in
    let rows = plan_rows meta s.history g w branch c.args.other plan.buckets.rows c.requires.history c.requires.at c.requires.plan.buckets in
    let answer = merge_to s c.args.ws w branch (unwrap_or c.args.choices.now []) (head s.history branch) in
    refused_seen c.in_ok-refused.field-0 c.in-Some.refused plan.buckets.rows c.args.choices.now answer c.in-Some.is c.in_ok-refused.ensures.refused
    ∙ ap (λ (l : List Bucket). chosen l c.args.choices.now answer) rows

pub returns-in-Some-clause-made : goal.returns-in-Some-clause-made
returns-in-Some-clause-made c = refused_made c.in_ok-refused.field-0 c.in-Some.refused c.args.repo.now c.in-Some.is c.in_ok-refused.ensures.made

pub returns-then-len-eq0-clause-decision : goal.returns-then-len-eq0-clause-decision
returns-then-len-eq0-clause-decision c =
    let s = c.args.repo.now in
    let g = c.args.begun.now.history.history in
    let w = plain_of c.args.workspace.now in
    let branch = c.args.branch in
    let plan = c.args.plan in
    let theirs = plan_theirs s.history g w branch c.args.other plan.theirs c.requires.history c.requires.at c.requires.plan.theirs in
    let passed = merge_passed c.args.begun.now.meta s g c.args.ws w branch c.args.other plan.buckets.rows c.args.choices.now c.in_ok-refused.field-0
    c.requires.history c.requires.at c.requires.plan.buckets c.in_default.is c.in_ok-refused.ensures.passed in
    let at = c.requires.at ∙ ap (λ (h : History). head h branch) (sym c.requires.history) in
    let none = nothing_left s.history w (head s.history branch) plan.theirs theirs (sym c.len.ensures ∙ c.if-len-eq0.true) in
    subst (λ (y : plain.Decision). IfOk c.tell_number.result (λ d. plain_decision d ≡ y))
    (ap (λ (n : ℕ). told [] (decimal n)) at ∙ sym (merge_none s c.args.ws w branch (unwrap_or c.args.choices.now []) (head s.history branch) none) ∙ sym passed)
    c.tell_number.ensures.decision

pub merge_by-requires-clause-fit : goal.merge_by-requires-clause-fit
merge_by-requires-clause-fit c =
    subst (λ (l : List ℕ). are_choices l c.args.plan.buckets.rows ≡ true) (sym c.in_ok-choices.ensures)
    (passed_fit c.in_ok-refused.field-0 c.args.plan.buckets.rows c.args.choices.now c.in_default.is c.in_ok-refused.ensures.fit)

pub merge_by-requires-clause-could : goal.merge_by-requires-clause-could
merge_by-requires-clause-could c =
    let s = c.args.repo.now in
    let meta = c.args.begun.now.meta in
    let g = c.args.begun.now.history.history in
    let w = plain_of c.args.workspace.now in
    let branch = c.args.branch in
    let plan = c.args.plan in
    let rows = plan_rows meta s.history g w branch c.args.other plan.buckets.rows c.requires.history c.requires.at c.requires.plan.buckets in
    let theirs = plan_theirs s.history g w branch c.args.other plan.theirs c.requires.history c.requires.at c.requires.plan.theirs in
    let some = something_left s.history w (head s.history branch) plan.theirs theirs (λ none. c.if-len-eq0.false (c.len.ensures ∙ none)) in
    let fit = subst (λ (l : List Bucket). are_choices (unwrap_or c.args.choices.now []) l ≡ true) rows
    (passed_fit c.in_ok-refused.field-0 plan.buckets.rows c.args.choices.now c.in_default.is c.in_ok-refused.ensures.fit) in
    subst (λ (letters : List ℕ). playable_with s s.meta (Merge c.args.ws branch letters) ≡ true) (sym c.in_ok-choices.ensures)
    (merge_could s meta c.args.ws branch
    (unwrap_or c.args.choices.now []) w c.requires.meta c.requires.there c.requires.closed c.requires.branch c.requires.apart some fit)

pub with_number_foreseen-requires : goal.with_number_foreseen-requires
with_number_foreseen-requires c = record {
  could = c.in_ok-merged.ensures.could;
  suits = refl;
  foreseen = (c.args.ws, c.args.branch, c.in_ok-choices.choices, refl, c.in_ok-merged.ensures);
}

pub returns-clause-decision : goal.returns-clause-decision
returns-clause-decision c =
    let s = c.args.repo.now in
    let g = c.args.begun.now.history.history in
    let w = plain_of c.args.workspace.now in
    let branch = c.args.branch in
    let plan = c.args.plan in
    let theirs = plan_theirs s.history g w branch c.args.other plan.theirs c.requires.history c.requires.at c.requires.plan.theirs in
    let passed = merge_passed c.args.begun.now.meta s g c.args.ws w branch c.args.other plan.buckets.rows c.args.choices.now c.in_ok-refused.field-0
    c.requires.history c.requires.at c.requires.plan.buckets c.in_default.is c.in_ok-refused.ensures.passed in
    let at = c.requires.at ∙ ap (λ (h : History). head h branch) (sym c.requires.history) in
    let some = something_left s.history w (head s.history branch) plan.theirs theirs (λ none. c.if-len-eq0.false (c.len.ensures ∙ none)) in
    let event = Merge c.args.ws branch c.in_ok-choices.choices in
    subst (λ (y : plain.Decision). IfOk c.with_number_foreseen.result (λ d. plain_decision d ≡ y))
    (ap (λ (n : ℕ). with_room s [] (decimal n) event) at
    ∙ ap (λ (letters : List ℕ). with_room s [] (decimal (head s.history branch)) (Merge c.args.ws branch letters)) c.in_ok-choices.ensures
    ∙ sym (merge_some s c.args.ws w branch (unwrap_or c.args.choices.now []) (head s.history branch) some) ∙ sym passed)
    c.with_number_foreseen.ensures.decision
