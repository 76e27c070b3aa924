-- Each task that words ask for is done over the store; what words ask for nothing end with. The clauses are those of `over_store` by task.
use Rattle.std.proofs.Common.{◌≡◌, ◌⊎◌, ◌<◌, [], length, inl, inr, refl, subst}
use Rattle.std.specs.Prelude.{map, string_bytes}
use Rattle.host_port.specs.Host.{Throughout, AddsPart, disk_now, said_now}
use Rattle.host_port.proofs.Course.{still_said, still_input}
use Rattle.commit_journal.specs.Journal.{IsAtMostSynced}
use Rattle.command_runs.specs.Runs.{played, replies, events, events_due}
use Rattle.command_runs.specs.Crashes.{IsOpenedRunning}
use Rattle.plain_repository.specs.State.{empty}
use Rattle.plain_repository.specs.Events.{play}
use Rattle.plain_repository.specs.Store.{StandsForEvents}
use Rattle.store_session.specs.declared.status.Status.TheVariants.{Memory}
use Rattle.script_items.specs.declared.words.Request.{Request}
use Rattle.store_session.specs.Endings.{Ends, IsKept, KeepsUnread}
use Rattle.emf_top.specs.Tasks.{task_of}
use Rattle.script_items.proofs.Asked.{same_request}
use Rattle.store_runs.proofs.Headlines.{file_still}
use Rattle.emf_top.proofs.top.run.Goals as goal

pub returns-in-Some-clause-ends : goal.returns-in-Some-clause-ends
returns-in-Some-clause-ends g c = λ told request first stood asks.
    let old = g.H.Host.told c.args.host.now in
    let new = g.H.Host.told c.over_store.new.host in
    let same = same_request (map string_bytes c.args.words.now) c.in-Some.request request c.in-Some.ensures.asked asks in
    subst (λ (r : Request). Ends (task_of r (played play empty first) old.left) first old new c.over_store.result) same
    (c.over_store.ensures.ends told first stood)

pub returns-in-Some-clause-part : goal.returns-in-Some-clause-part
returns-in-Some-clause-part g c = λ request first stood asks.
    let old = g.H.Host.told c.args.host.now in
    let new = g.H.Host.told c.over_store.new.host in
    let same = same_request (map string_bytes c.args.words.now) c.in-Some.request request c.in-Some.ensures.asked asks in
    subst (λ (r : Request). Throughout old new (λ disk said. AddsPart (said_now old) (replies (task_of r (played play empty first) old.left).answers)
    said)) same (c.over_store.ensures.part first stood)

pub returns-in-Some-clause-moments : goal.returns-in-Some-clause-moments
returns-in-Some-clause-moments g c = λ request first stood asks.
    let old = g.H.Host.told c.args.host.now in
    let new = g.H.Host.told c.over_store.new.host in
    let same = same_request (map string_bytes c.args.words.now) c.in-Some.request request c.in-Some.ensures.asked asks in
    subst (λ (r : Request). Throughout old new (IsOpenedRunning (disk_now old) StandsForEvents first
    (events (task_of r (played play empty first) old.left).answers) (events_due (task_of r (played play empty first) old.left).answers)
    (said_now old))) same (c.over_store.ensures.moments first stood)

pub returns-in-Some-clause-stopped : goal.returns-in-Some-clause-stopped
returns-in-Some-clause-stopped g c = λ told request first stood asks.
    let old = g.H.Host.told c.args.host.now in
    let new = g.H.Host.told c.over_store.new.host in
    let same = same_request (map string_bytes c.args.words.now) c.in-Some.request request c.in-Some.ensures.asked asks in
    subst (λ (r : Request). IsKept (task_of r (played play empty first) old.left) first old new) same (c.over_store.ensures.stopped told first stood)

pub returns-in-Some-clause-complete : goal.returns-in-Some-clause-complete
returns-in-Some-clause-complete g c = λ told request first stood asks none.
    let old = g.H.Host.told c.args.host.now in
    let same = same_request (map string_bytes c.args.words.now) c.in-Some.request request c.in-Some.ensures.asked asks in
    subst (λ (r : Request). (c.over_store.result ≡ (task_of r (played play empty first) old.left).end) ⊎ (c.over_store.result ≡ Memory)) same
    (c.over_store.ensures.complete told first stood none)

pub returns-in-Some-clause-unread : goal.returns-in-Some-clause-unread
returns-in-Some-clause-unread g c = λ request first stood asks.
    let old = g.H.Host.told c.args.host.now in
    let new = g.H.Host.told c.over_store.new.host in
    let same = same_request (map string_bytes c.args.words.now) c.in-Some.request request c.in-Some.ensures.asked asks in
    subst (λ (r : Request). KeepsUnread (task_of r (played play empty first) old.left) old new) same (c.over_store.ensures.unread first)

pub returns-in-Some-clause-words : goal.returns-in-Some-clause-words
returns-in-Some-clause-words g c = (λ is. absurd (c.over_store.ensures.words is), λ bad. absurd (bad c.in-Some.request c.in-Some.ensures.asked))

pub returns-in-Some-clause-damages : goal.returns-in-Some-clause-damages
returns-in-Some-clause-damages g c = λ told none. inr (c.over_store.ensures.damages told none)

pub returns-in-Some-clause-untouched : goal.returns-in-Some-clause-untouched
returns-in-Some-clause-untouched g c = λ is. absurd (c.over_store.ensures.words is)

pub returns-in-None-clause-ends : goal.returns-in-None-clause-ends
returns-in-None-clause-ends g c = λ told request first stood asks. absurd (c.in-None.ensures.bad request asks)

pub returns-in-None-clause-part : goal.returns-in-None-clause-part
returns-in-None-clause-part g c = λ request first stood asks. absurd (c.in-None.ensures.bad request asks)

pub returns-in-None-clause-moments : goal.returns-in-None-clause-moments
returns-in-None-clause-moments g c = λ request first stood asks. absurd (c.in-None.ensures.bad request asks)

pub returns-in-None-clause-stopped : goal.returns-in-None-clause-stopped
returns-in-None-clause-stopped g c = λ told request first stood asks. absurd (c.in-None.ensures.bad request asks)

pub returns-in-None-clause-complete : goal.returns-in-None-clause-complete
returns-in-None-clause-complete g c = λ told request first stood asks none. absurd (c.in-None.ensures.bad request asks)

pub returns-in-None-clause-unread : goal.returns-in-None-clause-unread
returns-in-None-clause-unread g c = λ request first stood asks. absurd (c.in-None.ensures.bad request asks)

pub returns-in-None-clause-words : goal.returns-in-None-clause-words
returns-in-None-clause-words g c = (λ is. c.in-None.ensures.bad, λ bad. refl)

pub returns-in-None-clause-kept : goal.returns-in-None-clause-kept
returns-in-None-clause-kept g c = λ none. file_still (g.H.Host.told c.args.host.now)

pub returns-in-None-clause-silent : goal.returns-in-None-clause-silent
returns-in-None-clause-silent g c = λ told none. (still_said (g.H.Host.told c.args.host.now), still_input (g.H.Host.told c.args.host.now))

pub returns-in-None-clause-damages : goal.returns-in-None-clause-damages
returns-in-None-clause-damages g c = λ told none. inl c.in-None.ensures.bad

pub returns-in-Some-clause-still : goal.returns-in-Some-clause-still
returns-in-Some-clause-still g c = λ request first stood asks.
    let old = g.H.Host.told c.args.host.now in
    let new = g.H.Host.told c.over_store.new.host in
    let same = same_request (map string_bytes c.args.words.now) c.in-Some.request request c.in-Some.ensures.asked asks in
    subst (λ (r : Request). events (task_of r (played play empty first) old.left).answers ≡ [] → 17 < length (disk_now old).now → Throughout old new
    (λ disk said. IsAtMostSynced (disk_now old) disk)) same (c.over_store.ensures.still first stood)

pub returns-in-None-clause-still : goal.returns-in-None-clause-still
returns-in-None-clause-still g c = λ request first stood asks. absurd (c.in-None.ensures.bad request asks)
