-- Turns, one after the other.
use Rattle.std.proofs.Common.{◌≡◌, ◌++◌, ◌∷◌, ◌∙◌, List, ap, refl, sym, subst, false, true, ℕ}
use Rattle.std.specs.Prelude.{IsTrue}
use Rattle.host_port.proofs.Course.{told_next}
use Rattle.turn_frames.specs.Turns.{Turns, turns_from, turns_of, with_turn}
use Rattle.turn_frames.specs.Runs.{turns_answers}
use Rattle.store_turns.specs.Serving.{end_by, manner, serving_turns}
use Rattle.store_turns.specs.Standing.{Standing}
use Rattle.store_turns.proofs.Answering.{begins_standing, looked_on, told_as}
use Rattle.store_turns.proofs.Ending.{all_accepted, all_refused, at_start, by_fault}
use Rattle.store_turns.proofs.Loop.{more_turns}
use Rattle.store_turns.proofs.turns.serve_turns.Goals as goal
use Rattle.store_turns.proofs.turns.serve_turns.Goals.{In-Ok-Some}
use Rattle.store_turns.proofs.turns.serve_turns.Given.{Over}

pub turns-init : goal.turns-init
turns-init g c =
    let entry = g.H.Host.told c.args.host.now in
    let grants = c.args.policy.now.grants in
    let s = c.args.session.now.state in
    let task = serving_turns grants s entry.left in
    let end = end_by (turns_of entry.left).fault in
    let same : turns_of entry.left ≡ turns_from 0 c.new-reader.result.offset (c.new-reader.result.pending ++ entry.left) =
    at_start c.new-reader.result.offset c.new-reader.result.pending entry.left c.new-reader.ensures.pending c.new-reader.ensures.offset in
    record {
      stands = told_as entry entry s task end task.answers false s c.args.session.now.broken
          (begins_standing entry s task end c.args.session.now.broken c.requires.whole c.requires.open refl)
          (turns_answers (manner grants) s (turns_from 0 c.new-reader.result.offset (c.new-reader.result.pending ++ entry.left)).turns)
          (λ told. ap (λ (t : Turns). turns_answers (manner grants) s t.turns) same);
      fault = λ told. ap (λ (t : Turns). t.fault) same;
    }

pub returns-in-Err-clause-done : goal.returns-in-Err-clause-done
returns-in-Err-clause-done g c = λ made holds.
    let entry = g.H.Host.told c.args.host.now in
    let now = g.H.Host.told c.turns.host in
    let next = g.H.Host.told c.next_turn.new.host in
    let grants = c.args.policy.now.grants in
    rw c.status_of_turns.ensures
    (by_fault grants entry now next c.args.session.now.state (serving_turns grants c.args.session.now.state entry.left) (turns_of entry.left).fault
    (turns_from 0 c.turns.reader.offset (c.turns.reader.pending ++ now.left)) c.turns.refused c.turns.session.state c.turns.session.broken
    c.turns.invariant.stands c.turns.invariant.fault c.next_turn.ensures.course c.next_turn.ensures.disk c.next_turn.ensures.said made holds
    c.in-Err.fault refl c.in-Err.ensures.turn)

pub returns-then-refused-clause-done : goal.returns-then-refused-clause-done
returns-then-refused-clause-done g c = λ made holds.
    let entry = g.H.Host.told c.args.host.now in
    let now = g.H.Host.told c.turns.host in
    let next = g.H.Host.told c.next_turn.new.host in
    let grants = c.args.policy.now.grants in
    all_refused grants entry now next c.args.session.now.state (serving_turns grants c.args.session.now.state entry.left) (turns_of entry.left).fault
    (turns_from 0 c.turns.reader.offset (c.turns.reader.pending ++ now.left)) c.turns.refused c.turns.session.state c.turns.session.broken
    c.turns.invariant.stands c.turns.invariant.fault c.next_turn.ensures.course c.next_turn.ensures.disk c.next_turn.ensures.said made holds
    (rw c.in-Ok-None.field-0-is at c.in-Ok-None.ensures.turn) (rw c.in-Ok-None.field-0-is at c.in-Ok-None.ensures.end) c.if-refused.true

pub returns-in-Ok-None-clause-done : goal.returns-in-Ok-None-clause-done
returns-in-Ok-None-clause-done g c = λ made holds.
    let entry = g.H.Host.told c.args.host.now in
    let now = g.H.Host.told c.turns.host in
    let next = g.H.Host.told c.next_turn.new.host in
    let grants = c.args.policy.now.grants in
    all_accepted grants entry now next c.args.session.now.state (serving_turns grants c.args.session.now.state entry.left) (turns_of entry.left).fault
    (turns_from 0 c.turns.reader.offset (c.turns.reader.pending ++ now.left)) c.turns.refused c.turns.session.state c.turns.session.broken
    c.turns.invariant.stands c.turns.invariant.fault c.next_turn.ensures.course c.next_turn.ensures.disk c.next_turn.ensures.said made holds
    (rw c.in-Ok-None.field-0-is at c.in-Ok-None.ensures.turn) (rw c.in-Ok-None.field-0-is at c.in-Ok-None.ensures.end) c.if-refused.false

-- the turn is the next one, and the others are left
module _ (g : Over) (c : In-Ok-Some g) where
  got : IsTrue (g.H.Host.told c.turns.host).tells
      → turns_from 0 c.turns.reader.offset (c.turns.reader.pending ++ (g.H.Host.told c.turns.host).left)
      ≡ with_turn c.in-Ok-Some.turn (turns_from 0 c.next_turn.new.self.offset (c.next_turn.new.self.pending ++ (g.H.Host.told c.next_turn.new.host).left))
  got = rw c.in-Ok-Some.field-0-is at c.in-Ok-Some.ensures.turn

  turn_next : Standing (g.H.Host.told c.args.host.now) (g.H.Host.told c.next_turn.new.host) c.args.session.now.state
      (serving_turns c.args.policy.now.grants c.args.session.now.state (g.H.Host.told c.args.host.now).left)
      (end_by (turns_of (g.H.Host.told c.args.host.now).left).fault)
      (turns_answers (manner c.args.policy.now.grants) c.turns.session.state
      (c.in-Ok-Some.turn ∷ (turns_from 0 c.next_turn.new.self.offset (c.next_turn.new.self.pending ++ (g.H.Host.told c.next_turn.new.host).left)).turns))
      c.turns.refused c.turns.session.state c.turns.session.broken
  turn_next =
      let entry = g.H.Host.told c.args.host.now in
      let now = g.H.Host.told c.turns.host in
      let next = g.H.Host.told c.next_turn.new.host in
      let grants = c.args.policy.now.grants in
      let s = c.turns.session.state in
      let task = serving_turns grants c.args.session.now.state entry.left in
      let end = end_by (turns_of entry.left).fault in
      let whole = turns_from 0 c.turns.reader.offset (c.turns.reader.pending ++ now.left) in
      let rest = turns_from 0 c.next_turn.new.self.offset (c.next_turn.new.self.pending ++ next.left) in
      told_as entry next c.args.session.now.state task end (turns_answers (manner grants) s whole.turns) c.turns.refused s c.turns.session.broken
      (looked_on entry now c.args.session.now.state task end (turns_answers (manner grants) s whole.turns) c.turns.refused s c.turns.session.broken
      c.turns.invariant.stands next c.next_turn.ensures.course c.next_turn.ensures.disk c.next_turn.ensures.said)
      (turns_answers (manner grants) s (c.in-Ok-Some.turn ∷ rest.turns))
      (λ told. more_turns grants s whole c.in-Ok-Some.turn rest (got (told_next entry now c.turns.invariant.stands.course told)))

pub serve_turn-requires-clause-open : goal.serve_turn-requires-clause-open
serve_turn-requires-clause-open g c = λ told.
    let here = turn_next g (goal.at.serve_turn-requires-clause-open g c).In-Ok-Some in
    here.holds (subst IsTrue here.course.tells told)

pub turns-preserved : goal.turns-preserved
turns-preserved g c =
    let h = (goal.at.turns-preserved g c).In-Ok-Some in
    let entry = g.H.Host.told c.args.host.now in
    let now = g.H.Host.told c.turns.host in
    let next = g.H.Host.told c.next_turn.new.host in
    let last = g.H.Host.told c.serve_turn.new.host in
    let grants = c.args.policy.now.grants in
    let task = serving_turns grants c.args.session.now.state entry.left in
    let end = end_by (turns_of entry.left).fault in
    let rest = turns_from 0 c.next_turn.new.self.offset (c.next_turn.new.self.pending ++ next.left) in
    let same : rest ≡ turns_from 0 c.next_turn.new.self.offset (c.next_turn.new.self.pending ++ last.left) =
    ap (λ (l : List ℕ). turns_from 0 c.next_turn.new.self.offset (c.next_turn.new.self.pending ++ l)) (sym c.serve_turn.ensures.input.left) in
    record {
      stands = told_as entry last c.args.session.now.state task end (turns_answers (manner grants) c.serve_turn.new.session.state rest.turns) c.in-Ok.ended
          c.serve_turn.new.session.state c.serve_turn.new.session.broken
          (c.in-Ok.ensures.on entry c.args.session.now.state task end rest.turns (turn_next g h))
          (turns_answers (manner grants) c.serve_turn.new.session.state
          (turns_from 0 c.next_turn.new.self.offset (c.next_turn.new.self.pending ++ last.left)).turns)
          (λ told. ap (λ (t : Turns). turns_answers (manner grants) c.serve_turn.new.session.state t.turns) same);
      fault = λ told.
          c.turns.invariant.fault told ∙ ap (λ (t : Turns). t.fault) (got g h (told_next entry now c.turns.invariant.stands.course told))
          ∙ ap (λ (t : Turns). t.fault) same;
    }

pub returns-in-Err-serve_turn-clause-done : goal.returns-in-Err-serve_turn-clause-done
returns-in-Err-serve_turn-clause-done g c = λ made holds.
    let h = (goal.at.returns-in-Err-serve_turn-clause-done g c).In-Ok-Some in
    let entry = g.H.Host.told c.args.host.now in
    let grants = c.args.policy.now.grants in
    c.in-Err-serve_turn.ensures.stopped entry c.args.session.now.state (serving_turns grants c.args.session.now.state entry.left)
    (end_by (turns_of entry.left).fault)
    (turns_from 0 c.next_turn.new.self.offset (c.next_turn.new.self.pending ++ (g.H.Host.told c.next_turn.new.host).left)).turns (turn_next g h) made holds
