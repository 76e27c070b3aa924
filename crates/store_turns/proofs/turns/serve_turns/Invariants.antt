use Rattle.std.proofs.Common.{◌≡◌, ◌++◌, ◌-◌, ◌^◌}
use Rattle.std.specs.Prelude.{IsTrue}
use Rattle.turn_frames.specs.Turns.{turns_from, turns_of}
use Rattle.turn_frames.specs.Runs.{turns_answers}
use Rattle.store_turns.specs.Serving.{end_by, manner, serving_turns}
use Rattle.store_turns.specs.Standing.{Standing}
use Rattle.store_turns.proofs.turns.serve_turns.Given as goal

abbrev pub invariant-turns : goal.invariant-turns
invariant-turns g l =
    let entry = g.H.Host.told l.fn.host in
    let now = g.H.Host.told l.host in
    record {
      stands : Standing entry now l.fn.session.state (serving_turns l.fn.policy.grants l.fn.session.state entry.left) (end_by (turns_of entry.left).fault)
          (turns_answers (manner l.fn.policy.grants) l.session.state (turns_from 0 l.reader.offset (l.reader.pending ++ now.left)).turns) l.refused
          l.session.state l.session.broken;
      fault : IsTrue entry.tells → (turns_of entry.left).fault ≡ (turns_from 0 l.reader.offset (l.reader.pending ++ now.left)).fault;
    }

abbrev pub decreases-turns : goal.decreases-turns
decreases-turns g l = 2 ^ 41 - l.reader.offset
