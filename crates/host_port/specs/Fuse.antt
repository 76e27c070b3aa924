-- What a host with a fuse reports, and which of its calls fail.
use Rattle.std.specs.Prelude.{◌≡◌, ◌⊎◌, ℕ, ◌+◌, ◌-◌, ◌<◌}
use Rattle.host_port.specs.declared.memory.MemoryHost.{MemoryHost}
use Rattle.host_port.specs.declared.fuse.FuseHost.{FuseHost}
use Rattle.host_port.specs.Host.{Told}
use Rattle.host_port.specs.Memory.{told_of, GoesToNext, WasDone, HasFailed}

-- the host that the calls are passed on to
abbrev pub inner_of : FuseHost → MemoryHost
inner_of host = host.inner

-- how many calls more are passed on
abbrev pub calls_left : FuseHost → ℕ
calls_left host = host.calls

-- all that the inner host reports, with the faults of the calls that were not passed on
abbrev pub fuse_told : FuseHost → Told
fuse_told host = record (told_of host.inner) {
  take_faults = host.inner.take_faults + host.take_faults;
  say_faults = host.inner.say_faults + host.say_faults;
  disk_faults = host.inner.disk_faults + host.disk_faults;
}

-- a call that was passed on
pub record WasPassed (old new : FuseHost) : Type 0 where
  pub some : 0 < calls_left old
  pub fewer : calls_left new ≡ calls_left old - 1
  pub next : GoesToNext (inner_of old) (inner_of new)

-- a call that was not passed on: none was left, and the inner host stays
pub record WasBlown (old new : FuseHost) : Type 0 where
  pub none : calls_left old ≡ 0
  pub still : calls_left new ≡ 0
  pub same : inner_of new ≡ inner_of old

-- a call that was passed on and done
pub record WasPassedDone (old new : FuseHost) : Type 0 where
  pub passed : WasPassed old new
  pub done : WasDone (inner_of old) (inner_of new)

-- a call that failed: it was passed on and failed there, or was not passed on
abbrev pub HasPassedFault : FuseHost → FuseHost → Type 0
HasPassedFault old new = (WasPassed old new × HasFailed (inner_of old) (inner_of new)) ⊎ WasBlown old new
