-- An event's record written, or its frames given back: what the disk holds at each moment.
use Rattle.std.proofs.Common.{◌≡◌, ℕ, ◌+◌, List, length, sym, ◌∙◌, ap, refl, subst, arith}
use Rattle.std.specs.Prelude.{map}
use Rattle.host_port.specs.Host.{Disk, disk_now}
use Rattle.host_port.proofs.Course.{still_disk}
use Rattle.commit_journal.specs.Journal.{JournalState, IsJournalAtRest, RecordFits}
use Rattle.op_form.specs.Events.{event_encoding}
use Rattle.op_form.specs.declared.event.Event.{Event}
use Rattle.plain_repository.specs.Events.{play}
use Rattle.store_session.proofs.Entering.{none_added, none_entering, event_added, event_entering, none_ready, some_ready}
use Rattle.store_session.proofs.Holding.{both_none, both_some, given_all, given_same}
use Rattle.store_session.proofs.Playing.{play_end}
use Rattle.store_session.proofs.preparing.enter.Goals as goal

abbrev end_of : JournalState → ℕ
end_of j = j.end

-- a store that rests at its own end rests at the journal's
rests_at : (disk : Disk) (made : List Event) {own offset : ℕ} → own ≡ offset → IsJournalAtRest disk (map event_encoding made) own
    → IsJournalAtRest disk (map event_encoding made) offset
rests_at disk made is rests = subst (λ (n : ℕ). IsJournalAtRest disk (map event_encoding made) n) is rests

pub append-requires-clause-ready : goal.append-requires-clause-ready
append-requires-clause-ready g c =
    let of = some_ready c.args.pool.now c.requires.ready.0 c.requires.ready.1 c.args.ready c.in-Some.prepared c.in-Some.is c.requires.ready.2 in
    (event_encoding of.made, of.holds, subst (λ (n : ℕ). RecordFits n (length (event_encoding of.made))) c.requires.ready.3 of.fits)

pub append-requires-clause-at_rest : goal.append-requires-clause-at_rest
append-requires-clause-at_rest g c = λ told.
    let had = c.requires.holds told in (
      map event_encoding had.1,
      subst (λ (n : ℕ). IsJournalAtRest (disk_now (g.H.Host.told c.args.host.now)) (map event_encoding had.1) n) had.3 had.2.rests.journal,
    )

pub returns-in_default-clause-end : goal.returns-in_default-clause-end
returns-in_default-clause-end g c = λ state event at' is. rw (none_ready c.args.pool.now state event c.args.ready c.in_default.is is) at'

pub returns-in_default-clause-added : goal.returns-in_default-clause-added
returns-in_default-clause-added g c = λ told state event at' is made holds.
    rw (none_ready c.args.pool.now state event c.args.ready c.in_default.is is) (none_added (disk_now (g.H.Host.told c.args.host.now)) state made holds)

pub returns-in_default-clause-entering : goal.returns-in_default-clause-entering
returns-in_default-clause-entering g c = λ state event at' is made holds.
    rw (none_ready c.args.pool.now state event c.args.ready c.in_default.is is) (none_entering (g.H.Host.told c.args.host.now) state made holds)

pub returns-in-Ok-clause-end : goal.returns-in-Ok-clause-end
returns-in-Ok-clause-end g c = λ state event at' is.
    let of = some_ready c.args.pool.now state event c.args.ready c.in-Some.prepared c.in-Some.is is in
    let same : state.end + 5 + length (event_encoding of.made) ≡ c.args.journal.now.end + 5 + length (event_encoding of.made) = omega (arith, at') in
    rw of.event_is (play_end state of.made ∙ same ∙ sym (ap end_of (c.in-Ok.ensures.ok (event_encoding of.made) of.holds)))

pub returns-in-Ok-clause-added : goal.returns-in-Ok-clause-added
returns-in-Ok-clause-added g c = λ told state event at' is made holds.
    let of = some_ready c.args.pool.now state event c.args.ready c.in-Some.prepared c.in-Some.is is in
    let same : state.end + 5 + length (event_encoding of.made) ≡ c.args.journal.now.end + 5 + length (event_encoding of.made) = omega (arith, at') in
    rw of.event_is (event_added (g.H.Host.told c.args.host.now) (g.H.Host.told c.append.new.host) state made of.made of.playable holds
    (disk_now (g.H.Host.told c.append.new.host)) (play state of.made) c.append.new.self.end (event_encoding of.made) refl refl
    (play_end state of.made ∙ same ∙ sym (ap end_of (c.in-Ok.ensures.ok (event_encoding of.made) of.holds)))
    (c.in-Ok.ensures.added told (event_encoding of.made) of.holds (map event_encoding made)
    (rests_at (disk_now (g.H.Host.told c.args.host.now)) made at' holds.rests.journal)))

pub returns-in-Ok-clause-entering : goal.returns-in-Ok-clause-entering
returns-in-Ok-clause-entering g c = λ state event at' is made holds.
    let of = some_ready c.args.pool.now state event c.args.ready c.in-Some.prepared c.in-Some.is is in
    rw of.event_is (event_entering (g.H.Host.told c.args.host.now) (g.H.Host.told c.append.new.host) state made of.made of.playable holds
    (event_encoding of.made) refl
    (c.append.ensures.any_moment (event_encoding of.made) of.holds (map event_encoding made)
    (rests_at (disk_now (g.H.Host.told c.args.host.now)) made at' holds.rests.journal)))

pub returns-in-Err-clause-entering : goal.returns-in-Err-clause-entering
returns-in-Err-clause-entering g c = λ state event at' is made holds.
    let of = some_ready c.args.pool.now state event c.args.ready c.in-Some.prepared c.in-Some.is is in
    rw of.event_is (event_entering (g.H.Host.told c.args.host.now) (g.H.Host.told c.append.new.host) state made of.made of.playable holds
    (event_encoding of.made) refl
    (c.append.ensures.any_moment (event_encoding of.made) of.holds (map event_encoding made)
    (rests_at (disk_now (g.H.Host.told c.args.host.now)) made at' holds.rests.journal)))

pub returns-in_default-clause-still : goal.returns-in_default-clause-still
returns-in_default-clause-still g c = λ none. still_disk (g.H.Host.told c.args.host.now)

pub returns-in-Ok-clause-still : goal.returns-in-Ok-clause-still
returns-in-Ok-clause-still g c = λ none. let some = c.in-Some.is in absurd (cc (some, none))

pub returns-in-Err-clause-still : goal.returns-in-Err-clause-still
returns-in-Err-clause-still g c = λ none. let some = c.in-Some.is in absurd (cc (some, none))

pub returns-in_default-clause-all : goal.returns-in_default-clause-all
returns-in_default-clause-all g c = both_none c.args.pool.now c.args._cache.now c.args.ready c.in_default.is c.requires.held

pub returns-in-Ok-clause-all : goal.returns-in-Ok-clause-all
returns-in-Ok-clause-all g c =
    let both = both_some c.args.pool.now c.args._cache.now c.args.ready c.in-Some.prepared c.in-Some.is c.requires.held in
    given_all c.args.pool.now c.append.new.pool c.args._cache.now c.in-Some.prepared both c.append.ensures.free c.append.ensures.others
    c.append.ensures.out

pub returns-in-Err-clause-all : goal.returns-in-Err-clause-all
returns-in-Err-clause-all g c =
    let both = both_some c.args.pool.now c.args._cache.now c.args.ready c.in-Some.prepared c.in-Some.is c.requires.held in
    given_all c.args.pool.now c.append.new.pool c.args._cache.now c.in-Some.prepared both c.append.ensures.free c.append.ensures.others
    c.append.ensures.out

pub returns-in-Ok-clause-stands : goal.returns-in-Ok-clause-stands
returns-in-Ok-clause-stands g c =
    let both = both_some c.args.pool.now c.args._cache.now c.args.ready c.in-Some.prepared c.in-Some.is c.requires.held in
    given_same c.args.pool.now c.append.new.pool c.args._cache.now c.in-Some.prepared both c.append.ensures.free c.append.ensures.others
    c.append.ensures.out

pub returns-in-Err-clause-stands : goal.returns-in-Err-clause-stands
returns-in-Err-clause-stands g c =
    let both = both_some c.args.pool.now c.args._cache.now c.args.ready c.in-Some.prepared c.in-Some.is c.requires.held in
    given_same c.args.pool.now c.append.new.pool c.args._cache.now c.in-Some.prepared both c.append.ensures.free c.append.ensures.others
    c.append.ensures.out
