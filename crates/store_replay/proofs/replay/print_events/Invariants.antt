use Rattle.std.proofs.Common.{◌-◌, ◌^◌}
use Rattle.store_replay.proofs.Walking.{Walks}
use Rattle.store_replay.proofs.replay.print_events.Given as goal

abbrev pub invariant-events : goal.invariant-events
invariant-events g l = Walks (g.H.Host.told l.fn.host) (g.H.Host.told l.host) l.opening

abbrev pub decreases-events : goal.decreases-events
decreases-events g l = 2 ^ 40 - l.opening.next
