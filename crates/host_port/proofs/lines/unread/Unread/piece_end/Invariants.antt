use Rattle.std.proofs.Common.{◌≡◌, ℕ, ◌+◌, ◌-◌, ◌^◌, ◌<◌, ◌≤◌, ◌++◌, get_or, length}
use Rattle.std.specs.Prelude.{IsTrue}
use Rattle.host_port.specs.Host.{GoesOn, KeepsDisk, KeepsSaid, RaisesTakesAlone}
use Rattle.host_port.proofs.lines.unread.Unread.piece_end.Given as goal

abbrev pub invariant-pieces : goal.invariant-pieces
invariant-pieces g l = record {
  clear : l.clear ≤ length l.self.pending;
  none : (k : ℕ) → k < l.clear → get_or l.self.pending k 0 ≡ 10 → ⊥;
  offset : l.self.offset ≡ l.initial.self.offset;
  unread : IsTrue (g.H.Host.told l.initial.host).tells
      → l.self.pending ++ (g.H.Host.told l.host).left ≡ l.initial.self.pending ++ (g.H.Host.told l.initial.host).left;
  course : GoesOn (g.H.Host.told l.initial.host) (g.H.Host.told l.host);
  disk : KeepsDisk (g.H.Host.told l.initial.host) (g.H.Host.told l.host);
  said : KeepsSaid (g.H.Host.told l.initial.host) (g.H.Host.told l.host);
  alone : RaisesTakesAlone (g.H.Host.told l.initial.host) (g.H.Host.told l.host);
}

abbrev pub decreases-pieces : goal.decreases-pieces
decreases-pieces g l = 2 ^ 40 - (l.self.offset + length l.self.pending)
