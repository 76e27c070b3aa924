use Rattle.std.proofs.Common.{◌∙◌, map, string_bytes}
use Rattle.emfstore.proofs.Ending.{run_stays}
use Rattle.emfstore.proofs.program.program.Goals as goal

pub returns-clause-run : goal.returns-clause-run
returns-clause-run g c = λ texts is.
    let run = c.ran-status.ensures.run texts is in (
      c.ran-status.result,
      c.end.ensures.status ∙ c.code.ensures.code,
      run_stays _ _ _ run.course c.end.ensures.stays (map string_bytes texts.items) c.ran-status.result run,
    )
