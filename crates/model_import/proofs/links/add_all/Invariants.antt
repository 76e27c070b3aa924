use Rattle.std.proofs.Common.{◌≡◌, ◌++◌, drop}
use Rattle.import_laws.specs.Links.{links_from}
use Rattle.model_import.proofs.links.add_all.Given as goal

abbrev pub invariant-loop-n : goal.invariant-loop-n
invariant-loop-n l = l.steps ++ links_from l.meta l.names l.indexes l.n (drop l.n l.rows) ≡ l.initial.steps ++ links_from l.meta l.names l.indexes 0 l.rows
