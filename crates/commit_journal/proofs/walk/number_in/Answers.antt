use Rattle.commit_journal.proofs.Walking.{four_bytes-value_of}
use Rattle.commit_journal.proofs.walk.number_in.Goals as goal

pub returns-clause-spelled : goal.returns-clause-spelled
returns-clause-spelled c =
    four_bytes-value_of c.args.field.now c.from_be_bytes.result c.told-field c.fits-field c.from_be_bytes.ensures
