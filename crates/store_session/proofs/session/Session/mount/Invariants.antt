use Rattle.std.proofs.Common.{◌-◌, ◌^◌}
use Rattle.store_session.proofs.Reading.{Mounts}
use Rattle.store_session.proofs.session.Session.mount.Given as goal

abbrev pub invariant-records : goal.invariant-records
invariant-records g l = Mounts (g.H.Host.told l.fn.host) (g.H.Host.told l.host) l.opening

abbrev pub decreases-records : goal.decreases-records
decreases-records g l = 2 ^ 40 - l.opening.next
