use Rattle.file_host.proofs.Going.{write_part}
use Rattle.file_host.proofs.calls.write_all_at.Goals as goal

pub returns-in-Err-clause-part : goal.returns-in-Err-clause-part
returns-in-Err-clause-part g c =
    write_part _ _ _ c.args.at c.args.bytes.now c.loop.done c.loop.invariant c.write_at.ensures.course c.write_at.ensures.part
