use Rattle.std.proofs.Common.{subst, sym}
use Rattle.std.proofs.lemmas.List.{take_rest}
use Rattle.file_host.proofs.Going.{Printing, print_part, print_more, print_again}
use Rattle.file_host.proofs.calls.print_all.Goals.{in-Ok, in-Err-Interrupted}
use Rattle.file_host.proofs.calls.print_all.Goals as goal

pub returns-in-Ok-eq0-clause-part : goal.returns-in-Ok-eq0-clause-part
returns-in-Ok-eq0-clause-part g c =
    let call = c.print.ensures in
    print_part _ _ _ c.args.bytes.now _ c.loop.done (take_rest c.args.bytes.now c.loop.done) c.loop.invariant call.course call.disk call.input call.part

pub returns-in-Err-clause-part : goal.returns-in-Err-clause-part
returns-in-Err-clause-part g c =
    let call = c.print.ensures in
    print_part _ _ _ c.args.bytes.now _ c.loop.done (take_rest c.args.bytes.now c.loop.done) c.loop.invariant call.course call.disk call.input call.part

pub loop-preserved : goal.loop-preserved
loop-preserved g c =
    let a = g.S.System.told c.args.system.now in
    let d = g.S.System.told c.print.new.self in
    let bytes = c.args.bytes.now in
    let call = c.print.ensures in
    let is = take_rest c.args.bytes.now c.loop.done in
    elim c.match-print.branch [
      | in-Ok w ↦
          subst (λ n. Printing a d bytes n) (sym w.done-is)
          (print_more _ _ _ bytes _ c.loop.done is c.loop.invariant call.course call.disk call.input call.part
          w.in-Ok.count w.in-Ok.ensures.some w.in-Ok.ensures.bound)
      | in-Err-Interrupted w ↦
          subst (λ n. Printing a d bytes n) (sym w.done-is)
          (print_again _ _ _ bytes _ c.loop.done is c.loop.invariant call.course call.disk call.input call.part
          (call.interrupted (cc)))
    ]
