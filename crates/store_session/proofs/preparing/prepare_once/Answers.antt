-- A line for which nothing was played is decided on the same repository.
use Rattle.std.proofs.Common.{◌≡◌, subst}
use Rattle.std.specs.Prelude.{IfOk, OnErr, OnOk}
use Rattle.command_runs.specs.Runs.{after}
use Rattle.plain_repository.specs.State.{State}
use Rattle.plain_repository.specs.Events.{play}
use Rattle.plain_repository.specs.Repository.{decide_line}
use Rattle.store_session.specs.Session.{IsPrepared}
use Rattle.store_session.proofs.preparing.prepare_once.Goals as goal

pub returns-in-Err-NotPlayable-clause-prepared_answer : goal.returns-in-Err-NotPlayable-clause-prepared_answer
returns-in-Err-NotPlayable-clause-prepared_answer c =
    subst (λ (s : State). IfOk c.prepare_decided.result (IsPrepared c.prepare_decided.new.pool s (decide_line s c.args.line.now c.args.block.now)))
    c.in-Err-NotPlayable.ensures.same c.prepare_decided.ensures.prepared_answer

pub returns-in-Err-NotPlayable-clause-state : goal.returns-in-Err-NotPlayable-clause-state
returns-in-Err-NotPlayable-clause-state c =
    subst (λ (s : State). OnOk c.prepare_decided.result
    (c.prepare_decided.new.repo ≡ after play s (decide_line s c.args.line.now c.args.block.now).event))
    c.in-Err-NotPlayable.ensures.same c.prepare_decided.ensures.state

pub returns-in-Err-NotPlayable-clause-same : goal.returns-in-Err-NotPlayable-clause-same
returns-in-Err-NotPlayable-clause-same c =
    subst (λ (s : State). OnErr c.prepare_decided.result (c.prepare_decided.new.repo ≡ s)) c.in-Err-NotPlayable.ensures.same
    c.prepare_decided.ensures.same
