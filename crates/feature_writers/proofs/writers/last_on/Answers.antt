-- there is one last version
use Rattle.change_index.specs.Index.{wrote_in}
use Rattle.feature_writers.proofs.writers.last_on.Goals as goal

pub returns : goal.returns
returns c =
    let test = wrote_in c.args.index.now c.args.e.now c.args.f in
    c.law_of_last_writes.ensures.one test c.args.path.now _ _ c.last.ensures (c.law_of_last_writes.ensures.found test c.args.path.now c.requires.rises)
