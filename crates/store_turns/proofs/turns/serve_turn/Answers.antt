-- A turn: its items, and then what ends it.
use Rattle.std.proofs.Common.{◌∷◌, ◌∙◌, List, ap}
use Rattle.host_port.specs.Host.{Told}
use Rattle.plain_repository.specs.State.{State}
use Rattle.store_session.specs.declared.status.Status.{Status}
use Rattle.store_session.specs.Tasks.{Task}
use Rattle.script_items.specs.Items.{script}
use Rattle.turn_frames.specs.Turns as frames
use Rattle.turn_frames.specs.Runs.{in_turn, turns_answers}
use Rattle.std.specs.Prelude.{Bool}
use Rattle.store_turns.specs.Serving.{manner}
use Rattle.store_turns.specs.Standing.{Standing}
use Rattle.store_turns.proofs.Answering.{err_as, err_map, ok_map, starved, told_as}
use Rattle.store_turns.proofs.Loop.{turn_left}
use Rattle.store_turns.proofs.turns.serve_turn.Goals as goal
use Rattle.store_turns.proofs.turns.serve_turn.Goals.{After-serve_items}
use Rattle.store_turns.proofs.turns.serve_turn.Given.{Over}

-- the turn's items are those of its script, for its user
module _ (g : Over) (c : After-serve_items g) (entry : Told) (first : State) (task : Task) (end : Bool → Status) (rest : List frames.Turn) where
  begins : Standing entry (g.H.Host.told c.args.host.now) first task end
      (turns_answers (manner c.args.policy.now.grants) c.args.session.now.state (c.args.turn ∷ rest)) c.args.refused c.args.session.now.state
      c.args.session.now.broken
      → Standing entry (g.H.Host.told c.args.host.now) first task end
      (in_turn (manner c.args.policy.now.grants) c.as_str.result.now c.args.session.now.state c.in-Ok.items.script rest) c.args.refused
      c.args.session.now.state c.args.session.now.broken
  begins stands =
      told_as entry (g.H.Host.told c.args.host.now) first task end
      (turns_answers (manner c.args.policy.now.grants) c.args.session.now.state (c.args.turn ∷ rest)) c.args.refused c.args.session.now.state
      c.args.session.now.broken stands
      (in_turn (manner c.args.policy.now.grants) c.as_str.result.now c.args.session.now.state c.in-Ok.items.script rest)
      (λ told. turn_left c.args.policy.now.grants c.args.session.now.state c.args.turn rest c.as_str.result.now c.in-Ok.items.script
      (c.as_str.ensures ∙ c.into_parts-user.ensures.user) (c.in-Ok.ensures.script ∙ ap script c.into_parts-user.ensures.bytes))

pub returns-in_err-refused-clause-stopped : goal.returns-in_err-refused-clause-stopped
returns-in_err-refused-clause-stopped g c =
    let h = (goal.at.returns-in_err-refused-clause-stopped g c).After-serve_items in
    err_as c.from_residual.result c.in_err-refused.field-0.0 _ c.from_residual.ensures.1
    (λ entry first task end rest stands. c.in_err-refused.ensures.stopped entry first task end rest (begins g h entry first task end rest stands))

pub returns-clause-on : goal.returns-clause-on
returns-clause-on g c =
    let h = (goal.at.returns-clause-on g c).After-serve_items in
    ok_map c.close_turn.result _ _
    (λ ended on entry first task end rest stands. on entry first task end
    (turns_answers (manner c.args.policy.now.grants) c.serve_items.new.session.state rest) c.serve_items.new.session.state c.serve_items.new.session.broken
    (c.in_ok-refused.ensures.on entry first task end rest (begins g h entry first task end rest stands)))
    c.close_turn.ensures.on

pub returns-clause-stopped : goal.returns-clause-stopped
returns-clause-stopped g c =
    let h = (goal.at.returns-clause-stopped g c).After-serve_items in
    err_map c.close_turn.result _ _
    (λ status over entry first task end rest stands. over entry first task end
    (turns_answers (manner c.args.policy.now.grants) c.serve_items.new.session.state rest) c.serve_items.new.session.state c.serve_items.new.session.broken
    (c.in_ok-refused.ensures.on entry first task end rest (begins g h entry first task end rest stands)))
    c.close_turn.ensures.stopped

pub returns-in_default-clause-stopped : goal.returns-in_default-clause-stopped
returns-in_default-clause-stopped g c = λ entry first task end rest.
    starved entry (g.H.Host.told c.args.host.now) first task end
    (turns_answers (manner c.args.policy.now.grants) c.args.session.now.state (c.args.turn ∷ rest)) c.args.refused c.args.session.now.state
    c.args.session.now.broken
