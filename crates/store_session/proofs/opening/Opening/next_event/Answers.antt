-- The next event read and played, or the first that can't be: where the opening stands then, and which fault it is.
use Rattle.std.proofs.Common.{◌≡◌, ◌^◌, ◌<◌, ◌++◌, ℕ, List, [], ◌∷◌, arith, length, refl, sym, ◌∙◌, ap, subst}
use Rattle.std.specs.Prelude.{IsTrue, map}
use Rattle.host_port.specs.Host.{Disk, disk_now}
use Rattle.host_port.proofs.Course.{kept_now}
use Rattle.commit_journal.specs.Journal.{WalkState, IsStuck, ReadsTo, StandsForNone}
use Rattle.op_form.specs.declared.event.Event.{Event}
use Rattle.op_form.specs.Events.{event_encoding}
use Rattle.plain_repository.specs.State.{State}
use Rattle.plain_repository.specs.Events.{playable}
use Rattle.plain_repository.specs.Store.{IsDamaged, StandsForNoEvents}
use Rattle.repo_state.specs.Cached.{HasEncodings}
use Rattle.store_session.specs.Session.{IsPlayedUpTo}
use Rattle.store_session.specs.State.{OpeningState}
use Rattle.store_session.proofs.Reading.{at_closed_gate, damage_of, end_on, event_is_damage, played_on, plays_event, spells, stuck_is_damage}
use Rattle.store_session.proofs.opening.Opening.next_event.Goals as goal

abbrev next_of : WalkState → ℕ
next_of w = w.next

abbrev end_of : State → ℕ
end_of s = s.end

abbrev place_of : WalkState → ℕ
place_of w = w.offset

-- some events, played one after the other, give the state at that place of the disk's file
abbrev HasReplayed : Disk → OpeningState → Type 0
HasReplayed disk o = (made : List Event) × IsPlayedUpTo disk o.state o.next made

pub next_record-requires : goal.next_record-requires
next_record-requires g c = record {
  walked = λ told.
      let had = subst (HasReplayed (disk_now (g.H.Host.told c.args.host.now))) (sym c.self.view_is) (c.requires.played_up_to told) in
      (map event_encoding had.0, had.1.walked);
}

pub play_record-requires-clause-room : goal.play_record-requires-clause-room
play_record-requires-clause-room g c =
    let at = subst (λ (o : OpeningState). o.state.end ≡ o.next) (sym c.self.view_is) c.requires.at in
    let some = rw c.in-Ok-Some.field-0-is at c.in-Ok-Some.ensures.some in
    omega (arith, at, ap next_of some.0, ap length c.deref.ensures.value, c.next_record.ensures.low, ap end_of c.next_record.ensures.same)

pub play_record-requires-clause-forms : goal.play_record-requires-clause-forms
play_record-requires-clause-forms g c =
    subst (λ (s : State). HasEncodings s c.self.inside.pool c.self.inside.cache) (sym c.next_record.ensures.same) c.self.invariant.1

pub returns-in-Err-clause-damaged : goal.returns-in-Err-clause-damaged
returns-in-Err-clause-damaged g c = rw c.session_fault.ensures (damage_of c.in-Err.fault
    (λ (at : ℕ). (at ≡ c.self.inside.walk.next) × (IsTrue (g.H.Host.told c.args.host.now).tells → IsStuck (disk_now (g.H.Host.told c.args.host.now)).now at))
    (λ (at : ℕ). IsTrue (g.H.Host.told c.args.host.now).tells → StandsForNone (disk_now (g.H.Host.told c.args.host.now)).now)
    (λ (at : ℕ). IsTrue (g.H.Host.told c.args.host.now).tells
    → IsDamaged (disk_now (g.H.Host.told c.args.host.now)).now at × StandsForNoEvents (disk_now (g.H.Host.told c.args.host.now)).now)
    (λ at stuck none told.
    let had = subst (HasReplayed (disk_now (g.H.Host.told c.args.host.now))) (sym c.self.view_is) (c.requires.played_up_to told) in
    stuck_is_damage (disk_now (g.H.Host.told c.args.host.now)) c.self.inside.repo c.self.inside.walk.next at had.0 had.1
    (subst (λ (n : ℕ). n < 2 ^ 40) (ap next_of c.in-Err.ensures.err) c.next_record.ensures.low) stuck.0 (stuck.1 told) (none told))
    c.in-Err.ensures.damaged c.in-Err.ensures.nothing)

pub returns-in-Err-clause-offset : goal.returns-in-Err-clause-offset
returns-in-Err-clause-offset g c = rw c.session_fault.ensures (damage_of c.in-Err.fault
    (λ (at : ℕ). (at ≡ c.self.inside.walk.next) × (IsTrue (g.H.Host.told c.args.host.now).tells → IsStuck (disk_now (g.H.Host.told c.args.host.now)).now at))
    (λ (at : ℕ). IsTrue (g.H.Host.told c.args.host.now).tells → StandsForNone (disk_now (g.H.Host.told c.args.host.now)).now)
    (λ (at : ℕ). at ≡ c.args.self.now.next) (λ at stuck none. stuck.0 ∙ ap (λ (o : OpeningState). o.next) c.self.view_is)
    c.in-Err.ensures.damaged c.in-Err.ensures.nothing)

pub returns-in-Ok-None-clause-store : goal.returns-in-Ok-None-clause-store
returns-in-Ok-None-clause-store g c =
    let none = rw c.in-Ok-None.field-0-is at c.in-Ok-None.ensures.none in
    let closed = rw c.in-Ok-None.field-0-is at c.in-Ok-None.ensures.ended in
    let at = subst (λ (o : OpeningState). o.state.end ≡ o.next) (sym c.self.view_is) c.requires.at in
    rw (sym c.self.view_is)
    (λ told made had. at_closed_gate (disk_now (g.H.Host.told c.args.host.now))
    (disk_now (g.H.Host.told c.next_record.new.host)) c.next_record.new.repo c.self.inside.walk.next c.next_record.new.walk.next made
    (subst (λ (s : State). IsPlayedUpTo (disk_now (g.H.Host.told c.args.host.now)) s c.self.inside.walk.next made) (sym c.next_record.ensures.same) had)
    (ap end_of c.next_record.ensures.same ∙ at ∙ sym (ap next_of none)) (closed told (map event_encoding made)))

pub returns-in-Ok-clause-played : goal.returns-in-Ok-clause-played
returns-in-Ok-clause-played g c =
    let walked = rw c.in-Ok-Some.field-0-is at c.in-Ok-Some.ensures.walked in
    let played = played_on c.next_record.new.repo c.self.inside.repo c.deref.result.now c.in-Ok-Some.bytes.items c.play_record.new.repo
    c.next_record.ensures.same c.deref.ensures.value c.in-Ok.ensures.played in
    rw (sym c.self.view_is)
    (plays_event (g.H.Host.told c.args.host.now) (g.H.Host.told c.next_record.new.host) _ _ c.in-Ok-Some.bytes.items
    played walked)

pub returns-in-Ok-clause-at : goal.returns-in-Ok-clause-at
returns-in-Ok-clause-at g c =
    let at = subst (λ (o : OpeningState). o.state.end ≡ o.next) (sym c.self.view_is) c.requires.at in
    let some = rw c.in-Ok-Some.field-0-is at c.in-Ok-Some.ensures.some in
    let played = played_on c.next_record.new.repo c.self.inside.repo c.deref.result.now c.in-Ok-Some.bytes.items c.play_record.new.repo
    c.next_record.ensures.same c.deref.ensures.value c.in-Ok.ensures.played in
    end_on c.self.inside.repo c.play_record.new.repo c.self.inside.walk.next c.next_record.new.walk.next c.in-Ok-Some.bytes.items at (ap next_of some.0)
    played

pub returns-in-Err-NotPlayable-clause-damaged : goal.returns-in-Err-NotPlayable-clause-damaged
returns-in-Err-NotPlayable-clause-damaged g c = λ told.
    let had = subst (HasReplayed (disk_now (g.H.Host.told c.args.host.now))) (sym c.self.view_is) (c.requires.played_up_to told) in
    let some = rw c.in-Ok-Some.field-0-is at c.in-Ok-Some.ensures.some in
    let walked = rw c.in-Ok-Some.field-0-is at c.in-Ok-Some.ensures.walked in
    event_is_damage (disk_now (g.H.Host.told c.args.host.now)) c.self.inside.repo c.self.inside.walk.next c.next_record.new.walk.next c.offset.result
    c.in-Ok-Some.bytes.items had.0 had.1 (omega (arith, ap next_of some.0, c.next_record.ensures.low))
    (c.offset.ensures ∙ ap place_of some.0) (ap next_of some.0)
    (λ event can is. (rw c.in-Err-NotPlayable.field-0-is at c.in-Err-NotPlayable.ensures.refused) refl event
    (subst (λ (s : State). IsTrue (playable s event)) (sym c.next_record.ensures.same) can) (c.deref.ensures.value ∙ is))
    (subst (λ d. ReadsTo d.now (map event_encoding had.0 ++ c.in-Ok-Some.bytes.items ∷ []) c.next_record.new.walk.next)
    (kept_now (g.H.Host.told c.args.host.now) (g.H.Host.told c.next_record.new.host) c.next_record.ensures.course c.next_record.ensures.disk told)
    (walked told (map event_encoding had.0) had.1.walked).reads)

pub returns-in-Err-NotPlayable-clause-offset : goal.returns-in-Err-NotPlayable-clause-offset
returns-in-Err-NotPlayable-clause-offset g c =
    let some = rw c.in-Ok-Some.field-0-is at c.in-Ok-Some.ensures.some in
    c.offset.ensures ∙ ap place_of some.0 ∙ ap (λ (o : OpeningState). o.next) c.self.view_is

pub invariant_of-result : goal.invariant_of-result
invariant_of-result g c =
    let played = played_on c.next_record.new.repo c.self.inside.repo c.deref.result.now c.in-Ok-Some.bytes.items c.play_record.new.repo
    c.next_record.ensures.same c.deref.ensures.value c.in-Ok.ensures.played in
    spells c.self.inside.repo c.in-Ok-Some.bytes.items c.play_record.new.repo played
