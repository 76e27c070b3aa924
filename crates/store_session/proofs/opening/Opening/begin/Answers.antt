use Rattle.std.proofs.Common.{ℕ, inl}
use Rattle.std.specs.Prelude.{IsTrue}
use Rattle.host_port.specs.Host.{Told, disk_now}
use Rattle.commit_journal.specs.Journal.{IsNoHeader, StandsForNone}
use Rattle.plain_repository.specs.Store.{IsDamaged, StandsForNoEvents}
use Rattle.store_session.proofs.Reading.{damage_of, is_long, none_stands}
use Rattle.store_session.proofs.opening.Opening.begin.Goals as goal

-- the file that a host tells of: it differs from a journal's header at an offset, stands for nothing, is damaged at an offset
abbrev HasNoHeader : Told → ℕ → Type 0
HasNoHeader old at = IsTrue old.tells → IsNoHeader (disk_now old).now at

abbrev StandsNowhere : Told → ℕ → Type 0
StandsNowhere old at = IsTrue old.tells → StandsForNone (disk_now old).now

abbrev IsDamagedHere : Told → ℕ → Type 0
IsDamagedHere old at = IsTrue old.tells → IsDamaged (disk_now old).now at × StandsForNoEvents (disk_now old).now

pub returns-in-Err-clause-damaged : goal.returns-in-Err-clause-damaged
returns-in-Err-clause-damaged g c =
    let old = g.H.Host.told c.args.host.now in
    rw c.session_fault.ensures (damage_of c.in-Err.fault
    (HasNoHeader old)
    (StandsNowhere old)
    (IsDamagedHere old)
    (λ at header none told. let nothing = none_stands (disk_now old).now (none told)
    in (record { long = is_long (disk_now old).now nothing; found = inl (header told) }, nothing))
    c.in-Err.ensures.damaged c.in-Err.ensures.nothing)

pub returns-in-Err-clause-header : goal.returns-in-Err-clause-header
returns-in-Err-clause-header g c =
    let old = g.H.Host.told c.args.host.now in
    rw c.session_fault.ensures (damage_of c.in-Err.fault (HasNoHeader old) (StandsNowhere old) (HasNoHeader old) (λ at header none. header)
    c.in-Err.ensures.damaged c.in-Err.ensures.nothing)
