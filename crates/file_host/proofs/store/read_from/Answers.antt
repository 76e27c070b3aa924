use Rattle.std.proofs.Common.{◌≡◌, ◌∙◌, sym, arith, length, take, drop}
use Rattle.host_port.specs.Host.{disk_now}
use Rattle.file_host.proofs.Ahead.{part_of, read_front}
use Rattle.file_host.proofs.store.read_from.Goals as goal

pub copy_from_slice-requires : goal.copy_from_slice-requires
copy_from_slice-requires g c = sym c.in-Some.ensures.3

pub returns-in-Some-clause-bytes : goal.returns-in-Some-clause-bytes
returns-in-Some-clause-bytes g c = λ told.
    let part = c.in-Some.ensures in
    let ahead = c.args.ahead.now in
    c.copy_from_slice.ensures.after ∙ part.2
    ∙ part_of (disk_now (g.S.System.told c.args.system.now)).now ahead.bytes.items ahead.from ahead.count c.args.at (length c.args.into.now)
    (c.requires.known told) part.0 part.1

pub returns-clause-bytes : goal.returns-clause-bytes
returns-clause-bytes g c = λ told.
    let before = g.S.System.told c.args.system.now in
    let size = length c.args.into.now in
    let now = c.read_ahead.new.ahead in
    let read = c.in_ok-read_ahead.ensures in
    let front : take size now.bytes.items ≡ take size (drop c.args.at (disk_now before).now) =
    read_front before (g.S.System.told c.read_ahead.new.system) read.stays now.bytes.items now.from now.count c.args.at size read.bytes read.from
    read.least.0 told in
    grind (arith, c.copy_from_slice-2.ensures.after, c.deref.ensures.value, front)
