use Rattle.std.proofs.Common.{◌∙◌}
use Rattle.std.specs.Prelude.{None, Some}
use Rattle.ecore_meta.proofs.SetLaws.{in_table}
use Rattle.ecore_meta.proofs.above.is_in.Goals as goal

pub returns-in-Some : goal.returns-in-Some
returns-in-Some c = c.contains.ensures ∙ in_table c.args.above.now c.args.c c.args.d (Some c.in-Some.set.now) c.in-Some.ensures

pub returns-in-None : goal.returns-in-None
returns-in-None c = in_table c.args.above.now c.args.c c.args.d None c.in-None.ensures
