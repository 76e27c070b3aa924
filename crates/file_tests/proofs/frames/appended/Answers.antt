use Rattle.std.proofs.Common.{refl, arith}
use Rattle.commit_journal.proofs.Ends.{length-after_gate}
use Rattle.file_tests.proofs.frames.appended.Goals as goal

pub append-requires-clause-ready : goal.append-requires-clause-ready
append-requires-clause-ready g c =
    let fit = c.in-Yes.ensures.yes.0 refl in
    (c.args.form.now, c.in_ok-prepared-in-Yes.ensures.holds, record { short = omega (arith, fit.short); room = omega (arith, fit.room, c.end.ensures.offset) })

pub returns-in_err-append-in-Yes : goal.returns-in_err-append-in-Yes
returns-in_err-append-in-Yes g c = let size = length-after_gate c.args.form.now
    in omega (arith, size, c.requires.none, c.append.ensures.out, c.in_ok-prepared-in-Yes.ensures.out, c.in_ok-prepared-in-Yes.ensures.holds.count)

pub returns-in_ok-append-in-Yes : goal.returns-in_ok-append-in-Yes
returns-in_ok-append-in-Yes g c = let size = length-after_gate c.args.form.now
    in omega (arith, size, c.requires.none, c.append.ensures.out, c.in_ok-prepared-in-Yes.ensures.out, c.in_ok-prepared-in-Yes.ensures.holds.count)
