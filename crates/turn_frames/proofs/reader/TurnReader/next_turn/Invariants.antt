use Rattle.std.proofs.Common.{◌≡◌, ◌+◌, ◌-◌, ◌++◌, length, Some}
use Rattle.std.specs.Prelude.{IsTrue}
use Rattle.host_port.specs.Host.{GoesOn, KeepsDisk, KeepsSaid, RaisesTakesAlone}
use Rattle.turn_frames.specs.Turns as turns
use Rattle.turn_frames.specs.Turns.{first_turn}
use Rattle.turn_frames.specs.Reads.{most_frame}
use Rattle.turn_frames.proofs.reader.TurnReader.next_turn.Given as goal

abbrev pub invariant-pieces : goal.invariant-pieces
invariant-pieces g l = record {
  offset : l.self.offset ≡ l.initial.self.offset;
  unread : IsTrue (g.H.Host.told l.initial.host).tells
      → l.self.pending ++ (g.H.Host.told l.host).left ≡ l.initial.self.pending ++ (g.H.Host.told l.initial.host).left;
  ready : (turn : turns.Turn) → first_turn l.initial.self.pending ≡ Some turn
      → (g.H.Host.told l.host ≡ g.H.Host.told l.initial.host) × (l.self.pending ≡ l.initial.self.pending);
  course : GoesOn (g.H.Host.told l.initial.host) (g.H.Host.told l.host);
  disk : KeepsDisk (g.H.Host.told l.initial.host) (g.H.Host.told l.host);
  said : KeepsSaid (g.H.Host.told l.initial.host) (g.H.Host.told l.host);
  alone : RaisesTakesAlone (g.H.Host.told l.initial.host) (g.H.Host.told l.host);
}

abbrev pub decreases-pieces : goal.decreases-pieces
decreases-pieces g l = most_frame + 1 - length l.self.pending
