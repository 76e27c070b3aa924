-- What follows of how the events were printed.
use Rattle.std.proofs.Common.{arith}
use Rattle.host_port.proofs.Course.{told_next}
use Rattle.store_replay.proofs.Endings.{complete, ends_printed, no_store}
use Rattle.store_replay.proofs.replay.replay_store.Goals as goal

pub returns-clause-replay : goal.returns-clause-replay
returns-clause-replay g c = c.print_events.ensures

pub returns-clause-ends : goal.returns-clause-ends
returns-clause-ends g c = λ told events stood.
    let entry = g.H.Host.told c.args.host.now in
    let now = g.H.Host.told c.print_events.new.host in
    let told_now = told_next entry now c.print_events.ensures.course told in
    ends_printed entry now events stood (g.met.H.Host.now_is_left c.print_events.new.host now.clock told_now (omega arith)) told
    c.print_events.result c.print_events.ensures

pub returns-clause-complete : goal.returns-clause-complete
returns-clause-complete g c = λ told events stood none.
    let entry = g.H.Host.told c.args.host.now in
    let now = g.H.Host.told c.print_events.new.host in
    let told_now = told_next entry now c.print_events.ensures.course told in
    complete entry now events stood (g.met.H.Host.now_is_left c.print_events.new.host now.clock told_now (omega arith)) told none
    c.print_events.result c.print_events.ensures

pub returns-clause-damages : goal.returns-clause-damages
returns-clause-damages g c = no_store (g.H.Host.told c.args.host.now) (g.H.Host.told c.print_events.new.host) c.print_events.result c.print_events.ensures
