use Rattle.page_pool.proofs.Filling.{taken_is_out}
use Rattle.file_tests.proofs.frames.ends_of_next.Goals as goal

pub bytes-page-requires : goal.bytes-page-requires
bytes-page-requires c = record { out = taken_is_out c.args.pool.now c.take.new.self c.in_ok-frame.frame c.in_ok-frame.ensures.some }
