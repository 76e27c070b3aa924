-- The store opened and the work done: for each end of both, what was printed and what the store holds.
use Rattle.std.proofs.Common.{arith, refl, sym, ◌∙◌}
use Rattle.host_port.specs.Host.{disk_now}
use Rattle.host_port.proofs.Course.{told_next, rose_second, keeps_input_on, course_on}
use Rattle.command_runs.specs.Runs.{played}
use Rattle.plain_repository.specs.State.{empty}
use Rattle.plain_repository.specs.Events.{play}
use Rattle.store_session.proofs.Reading.{is_long}
use Rattle.store_runs.proofs.Headlines.{complete, file_reads, never_read, opening_moments, opening_part, status_disk, status_say, stopped, unopened}
use Rattle.store_runs.proofs.Headlines.{unopened_damaged, unopened_damages, unopened_ends, whole_ends, whole_moments, whole_part, whole_still}
use Rattle.store_runs.proofs.work.over_store.Goals as goal

-- ---- the store was not opened
pub returns-in-Err-clause-ends : goal.returns-in-Err-clause-ends
returns-in-Err-clause-ends g c = λ told first stood.
    let old = g.H.Host.told c.args.host.now in
    let opened = g.H.Host.told c.mount.new.host in
    let task = g.W.Work.task c.args.work.now (played play empty first) old.left in
    rw c.status_of.ensures (unopened_ends old opened c.in-Err.fault c.in-Err.ensures.never c.in-Err.ensures.damaged task first told stood
    (unopened old opened c.mount.ensures.course c.mount.ensures.said c.mount.ensures.moments first stood task c.mount.ensures.input
    (g.met.H.Host.now_is_left c.mount.new.host opened.clock (told_next old opened c.mount.ensures.course told) (omega arith)) told))

pub returns-in-Err-clause-part : goal.returns-in-Err-clause-part
returns-in-Err-clause-part g c = λ first stood.
    let old = g.H.Host.told c.args.host.now in
    let opened = g.H.Host.told c.mount.new.host in
    let task = g.W.Work.task c.args.work.now (played play empty first) old.left in
    opening_part old opened c.mount.ensures.course c.mount.ensures.said c.mount.ensures.moments first stood task

pub returns-in-Err-clause-moments : goal.returns-in-Err-clause-moments
returns-in-Err-clause-moments g c = λ first stood.
    let old = g.H.Host.told c.args.host.now in
    let opened = g.H.Host.told c.mount.new.host in
    let task = g.W.Work.task c.args.work.now (played play empty first) old.left in
    opening_moments old opened c.mount.ensures.course c.mount.ensures.said c.mount.ensures.moments first stood task

pub returns-in-Err-clause-unread : goal.returns-in-Err-clause-unread
returns-in-Err-clause-unread g c = λ first unread. c.mount.ensures.input

pub returns-in-Err-clause-kept : goal.returns-in-Err-clause-kept
returns-in-Err-clause-kept g c =
    λ none. file_reads (g.H.Host.told c.args.host.now) (g.H.Host.told c.mount.new.host)
    (c.mount.ensures.long (is_long (disk_now (g.H.Host.told c.args.host.now)).now none))

pub returns-in-Err-clause-silent : goal.returns-in-Err-clause-silent
returns-in-Err-clause-silent g c = λ told none. (c.mount.ensures.said, c.mount.ensures.input)

pub returns-in-Err-clause-damaged : goal.returns-in-Err-clause-damaged
returns-in-Err-clause-damaged g c =
    λ at is. unopened_damaged (g.H.Host.told c.args.host.now)
    (g.H.Host.told c.mount.new.host) c.in-Err.fault c.in-Err.ensures.never c.in-Err.ensures.damaged c.mount.ensures.long c.mount.ensures.said
    c.mount.ensures.input at (sym c.status_of.ensures ∙ is)

pub returns-in-Err-clause-damages : goal.returns-in-Err-clause-damages
returns-in-Err-clause-damages g c =
    λ told none. rw c.status_of.ensures
    (unopened_damages (g.H.Host.told c.args.host.now) (g.H.Host.told c.mount.new.host) c.in-Err.fault c.in-Err.ensures.never c.in-Err.ensures.damaged)

pub returns-in-Err-clause-read : goal.returns-in-Err-clause-read
returns-in-Err-clause-read g c = λ is. absurd (never_read c.in-Err.fault (sym c.status_of.ensures ∙ is))

pub returns-in-Err-clause-disk : goal.returns-in-Err-clause-disk
returns-in-Err-clause-disk g c = λ is. let fault = status_disk c.in-Err.fault (sym c.status_of.ensures ∙ is) in c.in-Err.ensures.cause (rw fault refl)

pub returns-in-Err-clause-write : goal.returns-in-Err-clause-write
returns-in-Err-clause-write g c = λ is. absurd (c.in-Err.ensures.never (status_say c.in-Err.fault (sym c.status_of.ensures ∙ is)))

pub returns-in-Err-clause-still : goal.returns-in-Err-clause-still
returns-in-Err-clause-still g c = λ first stood none long. c.mount.ensures.long long

pub returns-in-Err-clause-stopped : goal.returns-in-Err-clause-stopped
returns-in-Err-clause-stopped g c = λ told first stood.
    let old = g.H.Host.told c.args.host.now in
    let opened = g.H.Host.told c.mount.new.host in
    let task = g.W.Work.task c.args.work.now (played play empty first) old.left in
    stopped old opened first task c.mount.ensures.course (returns-in-Err-clause-moments g c first stood) stood
    (g.met.H.Host.now_is_left c.mount.new.host opened.clock (told_next old opened c.mount.ensures.course told) (omega arith)) told

pub returns-in-Err-clause-complete : goal.returns-in-Err-clause-complete
returns-in-Err-clause-complete g c = λ told first stood none.
    let old = g.H.Host.told c.args.host.now in
    let opened = g.H.Host.told c.mount.new.host in
    let task = g.W.Work.task c.args.work.now (played play empty first) old.left in
    complete task first old opened c.status_of.result (returns-in-Err-clause-ends g c told first stood) none (returns-in-Err-clause-read g c)
    (returns-in-Err-clause-write g c) (returns-in-Err-clause-disk g c)

-- ---- the store was opened
pub returns-clause-ends : goal.returns-clause-ends
returns-clause-ends g c =
    λ told first stood. whole_ends (g.H.Host.told c.args.host.now)
    (g.H.Host.told c.mount.new.host) c.mount.ensures.course c.mount.ensures.said c.mount.ensures.moments first stood
    (g.H.Host.told c.fulfil.new.host) c.mount.ensures.input c.fulfil.ensures.course c.in-Ok.session.state
    (g.W.Work.task c.args.work.now) c.in-Ok.ensures.opened c.fulfil.result c.fulfil.ensures.done told

pub returns-clause-part : goal.returns-clause-part
returns-clause-part g c =
    λ first stood. whole_part (g.H.Host.told c.args.host.now)
    (g.H.Host.told c.mount.new.host) c.mount.ensures.course c.mount.ensures.said c.mount.ensures.moments first stood
    (g.H.Host.told c.fulfil.new.host) c.mount.ensures.input c.fulfil.ensures.course c.in-Ok.session.state
    (g.W.Work.task c.args.work.now) c.in-Ok.ensures.opened c.fulfil.result c.fulfil.ensures.done

pub returns-clause-moments : goal.returns-clause-moments
returns-clause-moments g c =
    λ first stood. whole_moments (g.H.Host.told c.args.host.now)
    (g.H.Host.told c.mount.new.host) c.mount.ensures.course c.mount.ensures.said c.mount.ensures.moments first stood
    (g.H.Host.told c.fulfil.new.host) c.mount.ensures.input c.fulfil.ensures.course c.in-Ok.session.state
    (g.W.Work.task c.args.work.now) c.in-Ok.ensures.opened c.fulfil.result c.fulfil.ensures.done

pub returns-clause-still : goal.returns-clause-still
returns-clause-still g c =
    λ first stood none long.
    whole_still (g.H.Host.told c.args.host.now)
    (g.H.Host.told c.mount.new.host) c.mount.ensures.course c.mount.ensures.said c.mount.ensures.moments first stood
    (g.H.Host.told c.fulfil.new.host) c.mount.ensures.input c.fulfil.ensures.course c.in-Ok.session.state
    (g.W.Work.task c.args.work.now) c.in-Ok.ensures.opened c.mount.ensures.long c.fulfil.result c.fulfil.ensures.done none long

pub returns-clause-unread : goal.returns-clause-unread
returns-clause-unread g c =
    λ first unread. keeps_input_on (g.H.Host.told c.args.host.now) (g.H.Host.told c.mount.new.host)
    (g.H.Host.told c.fulfil.new.host) c.mount.ensures.input
    (c.fulfil.ensures.unread
    (g.met.W.Work.reads_alike c.args.work.now c.in-Ok.session.state (played play empty first) (g.H.Host.told c.mount.new.host).left
    (g.H.Host.told c.args.host.now).left ∙ unread))

pub returns-clause-damages : goal.returns-clause-damages
returns-clause-damages g c = λ told none. let had = c.in-Ok.ensures.opened told in absurd (none had.0 had.2)

pub returns-clause-kept : goal.returns-clause-kept
returns-clause-kept g c = λ none told t low high. let had = c.in-Ok.ensures.opened told in absurd (none had.0 had.2)

pub returns-clause-silent : goal.returns-clause-silent
returns-clause-silent g c = λ told none. let had = c.in-Ok.ensures.opened told in absurd (none had.0 had.2)

pub returns-clause-damaged : goal.returns-clause-damaged
returns-clause-damaged g c = λ at is. absurd (c.fulfil.ensures.damaged at is)

pub returns-clause-read : goal.returns-clause-read
returns-clause-read g c =
    λ is. rose_second (g.H.Host.told c.args.host.now).take_faults (g.H.Host.told c.mount.new.host).take_faults
    (g.H.Host.told c.fulfil.new.host).take_faults c.mount.ensures.course.take_faults (c.fulfil.ensures.read is)

pub returns-clause-write : goal.returns-clause-write
returns-clause-write g c =
    λ is. rose_second (g.H.Host.told c.args.host.now).say_faults (g.H.Host.told c.mount.new.host).say_faults
    (g.H.Host.told c.fulfil.new.host).say_faults c.mount.ensures.course.say_faults (c.fulfil.ensures.write is)

pub returns-clause-disk : goal.returns-clause-disk
returns-clause-disk g c =
    λ is. rose_second (g.H.Host.told c.args.host.now).disk_faults (g.H.Host.told c.mount.new.host).disk_faults
    (g.H.Host.told c.fulfil.new.host).disk_faults c.mount.ensures.course.disk_faults (c.fulfil.ensures.disk is)

pub returns-clause-stopped : goal.returns-clause-stopped
returns-clause-stopped g c = λ told first stood.
    let old = g.H.Host.told c.args.host.now in
    let opened = g.H.Host.told c.mount.new.host in
    let done = g.H.Host.told c.fulfil.new.host in
    let task = g.W.Work.task c.args.work.now (played play empty first) old.left in
    let course = course_on old opened done c.mount.ensures.course c.fulfil.ensures.course in
    stopped old done first task course (returns-clause-moments g c first stood) stood
    (g.met.H.Host.now_is_left c.fulfil.new.host done.clock (told_next old done course told) (omega arith)) told

pub returns-clause-complete : goal.returns-clause-complete
returns-clause-complete g c = λ told first stood none.
    let old = g.H.Host.told c.args.host.now in
    let done = g.H.Host.told c.fulfil.new.host in
    let task = g.W.Work.task c.args.work.now (played play empty first) old.left in
    complete task first old done c.fulfil.result (returns-clause-ends g c told first stood) none (returns-clause-read g c) (returns-clause-write g c)
    (returns-clause-disk g c)
