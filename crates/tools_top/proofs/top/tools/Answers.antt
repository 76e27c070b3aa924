-- The words ask for one thing, for nothing, or there was no memory to tell.
use Rattle.std.proofs.Common.{◌≡◌, ◌⊎◌, ◌<◌, ℕ, List, [], length, inl, inr, arith, refl}
use Rattle.std.specs.Prelude.{map, string_bytes}
use Rattle.host_port.specs.Host.{Throughout, AddsPart, disk_now, said_now}
use Rattle.host_port.proofs.Course.{course_still, still_said, still_input}
use Rattle.commit_journal.specs.Journal.{IsAtMostSynced, new_size}
use Rattle.command_runs.specs.Runs.{played, replies, events, events_due}
use Rattle.command_runs.specs.Crashes.{IsOpenedRunning}
use Rattle.plain_repository.specs.State.{empty}
use Rattle.plain_repository.specs.Events.{play}
use Rattle.plain_repository.specs.Store.{StandsForEvents}
use Rattle.store_session.proofs.Reading.{is_long}
use Rattle.store_session.specs.declared.status.Status.TheVariants.{Memory}
use Rattle.store_session.specs.Endings.{Ends, IsKept, KeepsUnread}
use Rattle.store_runs.proofs.Headlines.{file_reads, file_still}
use Rattle.store_replay.proofs.Endings.{ends_printed, no_read, no_words, when_disk, when_unsaid}
use Rattle.tools_top.specs.Tasks.{task_of}
use Rattle.tools_top.proofs.AtMostOne.{for_each, no_tool, none_asked}
use Rattle.tools_top.proofs.Starved.{at_most_synced, starved, starved_part, starved_moments, starved_kept, starved_replay}
use Rattle.tool_requests.specs.Words.{AskFor}
use Rattle.tool_requests.specs.declared.tool.Tool.{Tool}
use Rattle.tools_top.proofs.top.tools.Given.{Over}
use Rattle.tools_top.proofs.top.tools.Goals.{In-None, In-Some-Replay, In-Some-Work}
use Rattle.tools_top.proofs.top.tools.Goals as goal

-- ---- one thing is asked of the store
asked_here : (g : Over) (c : In-Some-Work g) → AskFor (map string_bytes c.args.words.now) c.in-Some-Work.tool
asked_here g c = rw c.in-Some-Work.field-0-is at (rw c.in-Some-Work.is at c.in-Ok.ensures)

pub returns-in-Some-Work-clause-ends : goal.returns-in-Some-Work-clause-ends
returns-in-Some-Work-clause-ends g c = λ told tool first stood asks.
    let old = g.H.Host.told c.args.host.now in
    let new = g.H.Host.told c.over_store-status.new.host in
    let words = map string_bytes c.args.words.now in
    let asked = asked_here g (goal.at.returns-in-Some-Work-clause-ends g c).In-Some-Work in
    for_each (λ t. Ends (task_of t (played play empty first) old.left) first old new c.over_store-status.result)
    words c.in-Some-Work.tool asked (c.over_store-status.ensures.ends told first stood) tool asks

pub returns-in-Some-Work-clause-part : goal.returns-in-Some-Work-clause-part
returns-in-Some-Work-clause-part g c = λ tool first stood asks.
    let old = g.H.Host.told c.args.host.now in
    let new = g.H.Host.told c.over_store-status.new.host in
    let words = map string_bytes c.args.words.now in
    let asked = asked_here g (goal.at.returns-in-Some-Work-clause-part g c).In-Some-Work in
    for_each (λ t. Throughout old new (λ disk said. AddsPart (said_now old) (replies (task_of t (played play empty first) old.left).answers) said))
    words c.in-Some-Work.tool asked (c.over_store-status.ensures.part first stood) tool asks

pub returns-in-Some-Work-clause-moments : goal.returns-in-Some-Work-clause-moments
returns-in-Some-Work-clause-moments g c = λ tool first stood asks.
    let old = g.H.Host.told c.args.host.now in
    let new = g.H.Host.told c.over_store-status.new.host in
    let words = map string_bytes c.args.words.now in
    let asked = asked_here g (goal.at.returns-in-Some-Work-clause-moments g c).In-Some-Work in
    for_each
    (λ t.
    let answers = (task_of t (played play empty first) old.left).answers in
    Throughout old new (IsOpenedRunning (disk_now old) StandsForEvents first (events answers) (events_due answers) (said_now old)))
    words c.in-Some-Work.tool asked (c.over_store-status.ensures.moments first stood) tool asks

pub returns-in-Some-Work-clause-stopped : goal.returns-in-Some-Work-clause-stopped
returns-in-Some-Work-clause-stopped g c = λ told tool first stood asks.
    let old = g.H.Host.told c.args.host.now in
    let new = g.H.Host.told c.over_store-status.new.host in
    let words = map string_bytes c.args.words.now in
    let asked = asked_here g (goal.at.returns-in-Some-Work-clause-stopped g c).In-Some-Work in
    for_each (λ t. IsKept (task_of t (played play empty first) old.left) first old new)
    words c.in-Some-Work.tool asked (c.over_store-status.ensures.stopped told first stood) tool asks

pub returns-in-Some-Work-clause-complete : goal.returns-in-Some-Work-clause-complete
returns-in-Some-Work-clause-complete g c = λ told tool first stood asks none.
    let old = g.H.Host.told c.args.host.now in
    let new = g.H.Host.told c.over_store-status.new.host in
    let words = map string_bytes c.args.words.now in
    let asked = asked_here g (goal.at.returns-in-Some-Work-clause-complete g c).In-Some-Work in
    for_each (λ t. (c.over_store-status.result ≡ (task_of t (played play empty first) old.left).end) ⊎ (c.over_store-status.result ≡ Memory))
    words c.in-Some-Work.tool asked (c.over_store-status.ensures.complete told first stood none) tool asks

pub returns-in-Some-Work-clause-unread : goal.returns-in-Some-Work-clause-unread
returns-in-Some-Work-clause-unread g c = λ tool first stood asks.
    let old = g.H.Host.told c.args.host.now in
    let new = g.H.Host.told c.over_store-status.new.host in
    let words = map string_bytes c.args.words.now in
    let asked = asked_here g (goal.at.returns-in-Some-Work-clause-unread g c).In-Some-Work in
    for_each (λ t. KeepsUnread (task_of t (played play empty first) old.left) old new)
    words c.in-Some-Work.tool asked (c.over_store-status.ensures.unread first) tool asks

pub returns-in-Some-Work-clause-still : goal.returns-in-Some-Work-clause-still
returns-in-Some-Work-clause-still g c = λ tool first stood asks.
    let old = g.H.Host.told c.args.host.now in
    let new = g.H.Host.told c.over_store-status.new.host in
    let words = map string_bytes c.args.words.now in
    let asked = asked_here g (goal.at.returns-in-Some-Work-clause-still g c).In-Some-Work in
    for_each
    (λ t. events (task_of t (played play empty first) old.left).answers ≡ [] → new_size < length (disk_now old).now
    → Throughout old new (λ disk said. IsAtMostSynced (disk_now old) disk))
    words c.in-Some-Work.tool asked (c.over_store-status.ensures.still first stood) tool asks

pub returns-in-Some-Work-clause-bad : goal.returns-in-Some-Work-clause-bad
returns-in-Some-Work-clause-bad g c = λ is. absurd (c.over_store-status.ensures.words is)

pub returns-in-Some-Work-clause-words : goal.returns-in-Some-Work-clause-words
returns-in-Some-Work-clause-words g c = λ bad.
    absurd (none_asked (map string_bytes c.args.words.now) c.in-Some-Work.tool bad (asked_here g (goal.at.returns-in-Some-Work-clause-words g c).In-Some-Work))

pub returns-in-Some-Work-clause-untouched : goal.returns-in-Some-Work-clause-untouched
returns-in-Some-Work-clause-untouched g c = λ is. absurd (c.over_store-status.ensures.words is)

pub returns-in-Some-Work-clause-unasked : goal.returns-in-Some-Work-clause-unasked
returns-in-Some-Work-clause-unasked g c = λ bad.
    let asked = asked_here g (goal.at.returns-in-Some-Work-clause-unasked g c).In-Some-Work in
    absurd (none_asked (map string_bytes c.args.words.now) c.in-Some-Work.tool bad asked)

pub returns-in-Some-Work-clause-damaged : goal.returns-in-Some-Work-clause-damaged
returns-in-Some-Work-clause-damaged g c = λ other. c.over_store-status.ensures.damaged

pub returns-in-Some-Work-clause-silent : goal.returns-in-Some-Work-clause-silent
returns-in-Some-Work-clause-silent g c = λ other. c.over_store-status.ensures.silent

pub returns-in-Some-Work-clause-damages : goal.returns-in-Some-Work-clause-damages
returns-in-Some-Work-clause-damages g c = λ other told none. inr (c.over_store-status.ensures.damages told none)

pub returns-in-Some-Work-clause-replay : goal.returns-in-Some-Work-clause-replay
returns-in-Some-Work-clause-replay g c = λ replay.
    absurd (no_tool (map string_bytes c.args.words.now) c.in-Some-Work.tool replay (asked_here g (goal.at.returns-in-Some-Work-clause-replay g c).In-Some-Work))

pub returns-in-Some-Work-clause-script : goal.returns-in-Some-Work-clause-script
returns-in-Some-Work-clause-script g c = λ replay told first stood.
    absurd (no_tool (map string_bytes c.args.words.now) c.in-Some-Work.tool replay (asked_here g (goal.at.returns-in-Some-Work-clause-script g c).In-Some-Work))

pub returns-in-Some-Work-clause-whole : goal.returns-in-Some-Work-clause-whole
returns-in-Some-Work-clause-whole g c = λ replay told first stood none.
    absurd (no_tool (map string_bytes c.args.words.now) c.in-Some-Work.tool replay (asked_here g (goal.at.returns-in-Some-Work-clause-whole g c).In-Some-Work))

pub returns-in-Some-Work-clause-broken : goal.returns-in-Some-Work-clause-broken
returns-in-Some-Work-clause-broken g c = λ replay told none.
    absurd (no_tool (map string_bytes c.args.words.now) c.in-Some-Work.tool replay (asked_here g (goal.at.returns-in-Some-Work-clause-broken g c).In-Some-Work))

-- ---- the store is asked for as a script
no_tool_here : (g : Over) (c : In-Some-Replay g) (tool : Tool) → AskFor (map string_bytes c.args.words.now) tool → ⊥
no_tool_here g c tool asks =
    no_tool (map string_bytes c.args.words.now) tool (rw c.in-Some-Replay.field-0-is at (rw c.in-Some-Replay.is at c.in-Ok.ensures)) asks

pub returns-in-Some-Replay-clause-ends : goal.returns-in-Some-Replay-clause-ends
returns-in-Some-Replay-clause-ends g c = λ told tool first stood asks.
    absurd (no_tool_here g (goal.at.returns-in-Some-Replay-clause-ends g c).In-Some-Replay tool asks)

pub returns-in-Some-Replay-clause-part : goal.returns-in-Some-Replay-clause-part
returns-in-Some-Replay-clause-part g c = λ tool first stood asks.
    absurd (no_tool_here g (goal.at.returns-in-Some-Replay-clause-part g c).In-Some-Replay tool asks)

pub returns-in-Some-Replay-clause-moments : goal.returns-in-Some-Replay-clause-moments
returns-in-Some-Replay-clause-moments g c = λ tool first stood asks.
    absurd (no_tool_here g (goal.at.returns-in-Some-Replay-clause-moments g c).In-Some-Replay tool asks)

pub returns-in-Some-Replay-clause-stopped : goal.returns-in-Some-Replay-clause-stopped
returns-in-Some-Replay-clause-stopped g c = λ told tool first stood asks.
    absurd (no_tool_here g (goal.at.returns-in-Some-Replay-clause-stopped g c).In-Some-Replay tool asks)

pub returns-in-Some-Replay-clause-complete : goal.returns-in-Some-Replay-clause-complete
returns-in-Some-Replay-clause-complete g c = λ told tool first stood asks none.
    absurd (no_tool_here g (goal.at.returns-in-Some-Replay-clause-complete g c).In-Some-Replay tool asks)

pub returns-in-Some-Replay-clause-still : goal.returns-in-Some-Replay-clause-still
returns-in-Some-Replay-clause-still g c = λ tool first stood asks.
    absurd (no_tool_here g (goal.at.returns-in-Some-Replay-clause-still g c).In-Some-Replay tool asks)

pub returns-in-Some-Replay-clause-unread : goal.returns-in-Some-Replay-clause-unread
returns-in-Some-Replay-clause-unread g c = λ tool first stood asks.
    absurd (no_tool_here g (goal.at.returns-in-Some-Replay-clause-unread g c).In-Some-Replay tool asks)

pub returns-in-Some-Replay-clause-bad : goal.returns-in-Some-Replay-clause-bad
returns-in-Some-Replay-clause-bad g c = λ is.
    absurd (no_words (g.H.Host.told c.args.host.now) (g.H.Host.told c.replay_store.new.host) c.replay_store.result c.replay_store.ensures.replay is)

pub returns-in-Some-Replay-clause-words : goal.returns-in-Some-Replay-clause-words
returns-in-Some-Replay-clause-words g c = λ bad. absurd (bad.1
    (rw c.in-Some-Replay.field-0-is at (rw c.in-Some-Replay.is at c.in-Ok.ensures)))

pub returns-in-Some-Replay-clause-unasked : goal.returns-in-Some-Replay-clause-unasked
returns-in-Some-Replay-clause-unasked g c = λ bad. absurd (bad.1
    (rw c.in-Some-Replay.field-0-is at (rw c.in-Some-Replay.is at c.in-Ok.ensures)))

pub returns-in-Some-Replay-clause-untouched : goal.returns-in-Some-Replay-clause-untouched
returns-in-Some-Replay-clause-untouched g c = λ is.
    absurd (no_words (g.H.Host.told c.args.host.now) (g.H.Host.told c.replay_store.new.host) c.replay_store.result c.replay_store.ensures.replay is)

pub returns-in-Some-Replay-clause-read : goal.returns-in-Some-Replay-clause-read
returns-in-Some-Replay-clause-read g c = λ is.
    absurd (no_read (g.H.Host.told c.args.host.now) (g.H.Host.told c.replay_store.new.host) c.replay_store.result c.replay_store.ensures.replay is)

pub returns-in-Some-Replay-clause-write : goal.returns-in-Some-Replay-clause-write
returns-in-Some-Replay-clause-write g c =
    when_unsaid (g.H.Host.told c.args.host.now) (g.H.Host.told c.replay_store.new.host) c.replay_store.result c.replay_store.ensures.replay

pub returns-in-Some-Replay-clause-disk : goal.returns-in-Some-Replay-clause-disk
returns-in-Some-Replay-clause-disk g c =
    when_disk (g.H.Host.told c.args.host.now) (g.H.Host.told c.replay_store.new.host) c.replay_store.result c.replay_store.ensures.replay

pub returns-in-Some-Replay-clause-damaged : goal.returns-in-Some-Replay-clause-damaged
returns-in-Some-Replay-clause-damaged g c = λ other at is.
    absurd (other (rw c.in-Some-Replay.field-0-is at (rw c.in-Some-Replay.is at c.in-Ok.ensures)))

pub returns-in-Some-Replay-clause-silent : goal.returns-in-Some-Replay-clause-silent
returns-in-Some-Replay-clause-silent g c = λ other told none.
    absurd (other (rw c.in-Some-Replay.field-0-is at (rw c.in-Some-Replay.is at c.in-Ok.ensures)))

pub returns-in-Some-Replay-clause-damages : goal.returns-in-Some-Replay-clause-damages
returns-in-Some-Replay-clause-damages g c = λ other told none.
    absurd (other (rw c.in-Some-Replay.field-0-is at (rw c.in-Some-Replay.is at c.in-Ok.ensures)))

pub returns-in-Some-Replay-clause-kept : goal.returns-in-Some-Replay-clause-kept
returns-in-Some-Replay-clause-kept g c = λ none.
    let old = g.H.Host.told c.args.host.now in
    file_reads old (g.H.Host.told c.replay_store.new.host) (c.replay_store.ensures.replay.long (is_long (disk_now old).now none))

pub returns-in-Some-Replay-clause-replay : goal.returns-in-Some-Replay-clause-replay
returns-in-Some-Replay-clause-replay g c = λ replay. c.replay_store.ensures.replay

pub returns-in-Some-Replay-clause-script : goal.returns-in-Some-Replay-clause-script
returns-in-Some-Replay-clause-script g c = λ replay. c.replay_store.ensures.ends

pub returns-in-Some-Replay-clause-whole : goal.returns-in-Some-Replay-clause-whole
returns-in-Some-Replay-clause-whole g c = λ replay. c.replay_store.ensures.complete

pub returns-in-Some-Replay-clause-broken : goal.returns-in-Some-Replay-clause-broken
returns-in-Some-Replay-clause-broken g c = λ replay. c.replay_store.ensures.damages

pub returns-in-Some-Replay-clause-course : goal.returns-in-Some-Replay-clause-course
returns-in-Some-Replay-clause-course g c = c.replay_store.ensures.replay.course

-- ---- nothing is asked for
none_asked_here : (g : Over) (c : In-None g) (tool : Tool) → AskFor (map string_bytes c.args.words.now) tool → ⊥
none_asked_here g c tool asks = none_asked (map string_bytes c.args.words.now) tool (rw c.in-None.is at c.in-Ok.ensures) asks

pub returns-in-None-clause-ends : goal.returns-in-None-clause-ends
returns-in-None-clause-ends g c = λ told tool first stood asks.
    absurd (none_asked_here g (goal.at.returns-in-None-clause-ends g c).In-None tool asks)

pub returns-in-None-clause-part : goal.returns-in-None-clause-part
returns-in-None-clause-part g c = λ tool first stood asks.
    absurd (none_asked_here g (goal.at.returns-in-None-clause-part g c).In-None tool asks)

pub returns-in-None-clause-moments : goal.returns-in-None-clause-moments
returns-in-None-clause-moments g c = λ tool first stood asks.
    absurd (none_asked_here g (goal.at.returns-in-None-clause-moments g c).In-None tool asks)

pub returns-in-None-clause-stopped : goal.returns-in-None-clause-stopped
returns-in-None-clause-stopped g c = λ told tool first stood asks.
    absurd (none_asked_here g (goal.at.returns-in-None-clause-stopped g c).In-None tool asks)

pub returns-in-None-clause-complete : goal.returns-in-None-clause-complete
returns-in-None-clause-complete g c = λ told tool first stood asks none.
    absurd (none_asked_here g (goal.at.returns-in-None-clause-complete g c).In-None tool asks)

pub returns-in-None-clause-still : goal.returns-in-None-clause-still
returns-in-None-clause-still g c = λ tool first stood asks.
    absurd (none_asked_here g (goal.at.returns-in-None-clause-still g c).In-None tool asks)

pub returns-in-None-clause-unread : goal.returns-in-None-clause-unread
returns-in-None-clause-unread g c = λ tool first stood asks.
    absurd (none_asked_here g (goal.at.returns-in-None-clause-unread g c).In-None tool asks)

pub returns-in-None-clause-bad : goal.returns-in-None-clause-bad
returns-in-None-clause-bad g c = λ is. rw c.in-None.is at c.in-Ok.ensures

pub returns-in-None-clause-words : goal.returns-in-None-clause-words
returns-in-None-clause-words g c = λ bad. inl refl

pub returns-in-None-clause-kept : goal.returns-in-None-clause-kept
returns-in-None-clause-kept g c = λ none. file_still (g.H.Host.told c.args.host.now)

pub returns-in-None-clause-silent : goal.returns-in-None-clause-silent
returns-in-None-clause-silent g c = λ other told none. (still_said (g.H.Host.told c.args.host.now), still_input (g.H.Host.told c.args.host.now))

pub returns-in-None-clause-damages : goal.returns-in-None-clause-damages
returns-in-None-clause-damages g c = λ other told none. inl (rw c.in-None.is at c.in-Ok.ensures)

pub returns-in-None-clause-replay : goal.returns-in-None-clause-replay
returns-in-None-clause-replay g c = λ replay. absurd ((rw c.in-None.is at c.in-Ok.ensures).1 replay)

pub returns-in-None-clause-script : goal.returns-in-None-clause-script
returns-in-None-clause-script g c = λ replay told first stood. absurd ((rw c.in-None.is at c.in-Ok.ensures).1 replay)

pub returns-in-None-clause-whole : goal.returns-in-None-clause-whole
returns-in-None-clause-whole g c = λ replay told first stood none. absurd ((rw c.in-None.is at c.in-Ok.ensures).1 replay)

pub returns-in-None-clause-broken : goal.returns-in-None-clause-broken
returns-in-None-clause-broken g c = λ replay told none. absurd ((rw c.in-None.is at c.in-Ok.ensures).1 replay)

-- ---- no memory
pub returns-in_default-clause-ends : goal.returns-in_default-clause-ends
returns-in_default-clause-ends g c = λ told tool first stood asks.
    let old = g.H.Host.told c.args.host.now in
    starved old first stood (task_of tool (played play empty first) old.left)

pub returns-in_default-clause-part : goal.returns-in_default-clause-part
returns-in_default-clause-part g c = λ tool first stood asks.
    let old = g.H.Host.told c.args.host.now in
    starved_part old first stood (task_of tool (played play empty first) old.left)

pub returns-in_default-clause-moments : goal.returns-in_default-clause-moments
returns-in_default-clause-moments g c = λ tool first stood asks.
    let old = g.H.Host.told c.args.host.now in
    starved_moments old first stood (task_of tool (played play empty first) old.left)

pub returns-in_default-clause-stopped : goal.returns-in_default-clause-stopped
returns-in_default-clause-stopped g c = λ told tool first stood asks.
    let old = g.H.Host.told c.args.host.now in
    starved_kept old first stood (task_of tool (played play empty first) old.left)
    (g.met.H.Host.now_is_left c.args.host.now old.clock told (omega arith)) told

pub returns-in_default-clause-complete : goal.returns-in_default-clause-complete
returns-in_default-clause-complete g c = λ told tool first stood asks none. inr refl

pub returns-in_default-clause-still : goal.returns-in_default-clause-still
returns-in_default-clause-still g c = λ tool first stood asks none long. at_most_synced (g.H.Host.told c.args.host.now)

pub returns-in_default-clause-unread : goal.returns-in_default-clause-unread
returns-in_default-clause-unread g c = λ tool first stood asks unread. still_input (g.H.Host.told c.args.host.now)

pub returns-in_default-clause-words : goal.returns-in_default-clause-words
returns-in_default-clause-words g c = λ bad. inr refl

pub returns-in_default-clause-kept : goal.returns-in_default-clause-kept
returns-in_default-clause-kept g c = λ none. file_still (g.H.Host.told c.args.host.now)

pub returns-in_default-clause-silent : goal.returns-in_default-clause-silent
returns-in_default-clause-silent g c = λ other told none. (still_said (g.H.Host.told c.args.host.now), still_input (g.H.Host.told c.args.host.now))

pub returns-in_default-clause-damages : goal.returns-in_default-clause-damages
returns-in_default-clause-damages g c = λ other told none. inr (inr (inr refl))

pub returns-in_default-clause-replay : goal.returns-in_default-clause-replay
returns-in_default-clause-replay g c = λ replay. starved_replay (g.H.Host.told c.args.host.now)

pub returns-in_default-clause-script : goal.returns-in_default-clause-script
returns-in_default-clause-script g c = λ replay told first stood.
    let old = g.H.Host.told c.args.host.now in
    ends_printed old old first stood (g.met.H.Host.now_is_left c.args.host.now old.clock told (omega arith)) told Memory (starved_replay old)

pub returns-in_default-clause-whole : goal.returns-in_default-clause-whole
returns-in_default-clause-whole g c = λ replay told first stood none. inr refl
