-- An update by its buckets: refused for want of a choice, or with the event that the choices make.
use Rattle.std.proofs.Common.{◌≡◌, ℕ, List, [], true, sym, ◌∙◌, ap, subst, refl}
use Rattle.std.specs.Prelude.{IfOk, unwrap_or}
use Rattle.std.specs.Fmt.{decimal}
use Rattle.footprint.specs.declared.bucket.Bucket.{Bucket}
use Rattle.history_tree.specs.History.{History, head}
use Rattle.merge_laws.specs.Choices.{are_choices}
use Rattle.op_form.specs.declared.event.Event.TheVariants.{Update}
use Rattle.plain_repository.specs.Answers as plain
use Rattle.plain_repository.specs.Answers.{told, with_room}
use Rattle.plain_repository.specs.Choices.{chosen}
use Rattle.plain_repository.specs.Events.{playable_with}
use Rattle.plain_repository.specs.Merging.{update_to}
use Rattle.repo_answers.specs.Decisions.{plain_decision}
use Rattle.repo_state.specs.Keeping.{plain_of}
use Rattle.repo_answers.proofs.Chosen.{passed_fit, passed_on, plan_rows_are, refused_made, refused_seen, update_could, update_none, update_some}
use Rattle.repo_answers.proofs.deciding.merging.decide_update_of.Goals as goal

pub returns-in-Some-clause-decision : goal.returns-in-Some-clause-decision
returns-in-Some-clause-decision c =
    let s = c.args.repo.now in
    let w = plain_of c.args.workspace.now in
    let answer = update_to s c.args.ws w (unwrap_or c.args.choices.now []) (head s.history w.branch) in
    refused_seen c.in_ok-refused.field-0 c.in-Some.refused c.args.plan.buckets.rows c.args.choices.now answer c.in-Some.is
    c.in_ok-refused.ensures.refused
    ∙ ap (λ (l : List Bucket). chosen l c.args.choices.now answer)
    (plan_rows_are c.args.repo.now.history c.args.begun.now.history.history c.args.begun.now.meta
    (plain_of c.args.workspace.now) c.args.plan.buckets.rows c.requires.history c.requires.plan.buckets)

pub returns-in-Some-clause-made : goal.returns-in-Some-clause-made
returns-in-Some-clause-made c = refused_made c.in_ok-refused.field-0 c.in-Some.refused c.args.repo.now c.in-Some.is c.in_ok-refused.ensures.made

pub returns-then-workspace-head-clause-decision : goal.returns-then-workspace-head-clause-decision
returns-then-workspace-head-clause-decision c =
    let s = c.args.repo.now in
    let w = plain_of c.args.workspace.now in
    let letters = unwrap_or c.args.choices.now [] in
    let at = c.head-head.ensures.head ∙ ap (λ (h : History). head h w.branch) (sym c.requires.history) in
    let answer = update_to s c.args.ws w letters (head s.history w.branch) in
    let passed = ap (λ (l : List Bucket). chosen l c.args.choices.now answer)
    (sym (plan_rows_are c.args.repo.now.history c.args.begun.now.history.history c.args.begun.now.meta
    (plain_of c.args.workspace.now) c.args.plan.buckets.rows c.requires.history c.requires.plan.buckets))
    ∙ passed_on c.in_ok-refused.field-0 c.args.plan.buckets.rows c.args.choices.now answer c.in_default.is c.in_ok-refused.ensures.passed in
    subst (λ (y : plain.Decision). IfOk c.tell_number.result (λ d. plain_decision d ≡ y))
    (ap (λ (n : ℕ). told [] (decimal n)) at ∙ sym (update_none s c.args.ws w letters (head s.history w.branch) (c.if-workspace-head.true ∙ at)) ∙ sym passed)
    c.tell_number.ensures.decision

pub update_by-requires-clause-fit : goal.update_by-requires-clause-fit
update_by-requires-clause-fit c =
    subst (λ (l : List ℕ). are_choices l c.args.plan.buckets.rows ≡ true) (sym c.in_ok-choices.ensures)
    (passed_fit c.in_ok-refused.field-0 c.args.plan.buckets.rows c.args.choices.now c.in_default.is c.in_ok-refused.ensures.fit)

pub update_by-requires-clause-could : goal.update_by-requires-clause-could
update_by-requires-clause-could c =
    let s = c.args.repo.now in
    let meta = c.args.begun.now.meta in
    let w = plain_of c.args.workspace.now in
    let letters = unwrap_or c.args.choices.now [] in
    let at = c.head-head.ensures.head ∙ ap (λ (h : History). head h w.branch) (sym c.requires.history) in
    let rows = plan_rows_are s.history c.args.begun.now.history.history meta w c.args.plan.buckets.rows c.requires.history c.requires.plan.buckets in
    let fit = subst (λ (l : List Bucket). are_choices letters l ≡ true) rows
    (passed_fit c.in_ok-refused.field-0 c.args.plan.buckets.rows c.args.choices.now c.in_default.is c.in_ok-refused.ensures.fit) in
    subst (λ (l : List ℕ). playable_with s s.meta (Update c.args.ws l) ≡ true) (sym c.in_ok-choices.ensures)
    (update_could s meta c.args.ws letters w c.requires.meta c.requires.there c.requires.closed (λ is. c.if-workspace-head.false (is ∙ sym at)) fit)

pub with_number_foreseen-requires : goal.with_number_foreseen-requires
with_number_foreseen-requires c = record {
  could = c.in_ok-updated.ensures.could;
  suits = refl;
  foreseen = (c.args.ws, c.in_ok-choices.choices, refl, c.in_ok-updated.ensures);
}

pub returns-clause-decision : goal.returns-clause-decision
returns-clause-decision c =
    let s = c.args.repo.now in
    let w = plain_of c.args.workspace.now in
    let letters = unwrap_or c.args.choices.now [] in
    let at = c.head-head.ensures.head ∙ ap (λ (h : History). head h w.branch) (sym c.requires.history) in
    let answer = update_to s c.args.ws w letters (head s.history w.branch) in
    let passed = ap (λ (l : List Bucket). chosen l c.args.choices.now answer)
    (sym (plan_rows_are c.args.repo.now.history c.args.begun.now.history.history c.args.begun.now.meta
    (plain_of c.args.workspace.now) c.args.plan.buckets.rows c.requires.history c.requires.plan.buckets))
    ∙ passed_on c.in_ok-refused.field-0 c.args.plan.buckets.rows c.args.choices.now answer c.in_default.is c.in_ok-refused.ensures.passed in
    subst (λ (y : plain.Decision). IfOk c.with_number_foreseen.result (λ d. plain_decision d ≡ y))
    (ap (λ (n : ℕ). with_room s [] (decimal n) (Update c.args.ws c.in_ok-choices.choices)) at
    ∙ ap (λ (l : List ℕ). with_room s [] (decimal (head s.history w.branch)) (Update c.args.ws l)) c.in_ok-choices.ensures
    ∙ sym (update_some s c.args.ws w letters (head s.history w.branch) (λ is. c.if-workspace-head.false (is ∙ sym at))) ∙ sym passed)
    c.with_number_foreseen.ensures.decision
