-- What a second try prepares is what the first one would have.
use Rattle.std.proofs.Common.{◌≡◌, ◌∙◌, sym, subst}
use Rattle.std.specs.Prelude.{IfOk, OnErr, OnOk}
use Rattle.command_runs.specs.Runs.{after}
use Rattle.plain_repository.specs.State.{State}
use Rattle.plain_repository.specs.Events.{play}
use Rattle.plain_repository.specs.Repository.{decide_line}
use Rattle.repo_state.specs.Cached.{HasEncodings}
use Rattle.store_session.specs.Session.{IsPrepared}
use Rattle.store_session.proofs.preparing.prepare.Goals as goal

pub prepare_once-requires-in-Err-clause-all : goal.prepare_once-requires-in-Err-clause-all
prepare_once-requires-in-Err-clause-all c = c.in-Err.ensures.all

pub prepare_once-requires-in-Err-clause-forms : goal.prepare_once-requires-in-Err-clause-forms
prepare_once-requires-in-Err-clause-forms c =
    subst (λ (s : State). HasEncodings s c.prepare_once.new.pool c.prepare_once.new.cache) (sym c.let_models_go.ensures.same) c.prepare_once.ensures.forms

pub returns-in-Err-clause-prepared_answer : goal.returns-in-Err-clause-prepared_answer
returns-in-Err-clause-prepared_answer c =
    subst (λ (s : State). IfOk c.prepare_once-in-Err.result (IsPrepared c.prepare_once-in-Err.new.pool s (decide_line s c.args.line.now c.args.block.now)))
    (c.let_models_go.ensures.same ∙ c.in-Err.ensures.same) c.prepare_once-in-Err.ensures.prepared_answer

pub returns-in-Err-clause-state : goal.returns-in-Err-clause-state
returns-in-Err-clause-state c =
    subst (λ (s : State). OnOk c.prepare_once-in-Err.result
    (c.prepare_once-in-Err.new.repo ≡ after play s (decide_line s c.args.line.now c.args.block.now).event))
    (c.let_models_go.ensures.same ∙ c.in-Err.ensures.same) c.prepare_once-in-Err.ensures.state

pub returns-in-Err-clause-same : goal.returns-in-Err-clause-same
returns-in-Err-clause-same c =
    subst (λ (s : State). OnErr c.prepare_once-in-Err.result (c.prepare_once-in-Err.new.repo ≡ s)) (c.let_models_go.ensures.same ∙ c.in-Err.ensures.same)
    c.prepare_once-in-Err.ensures.same
