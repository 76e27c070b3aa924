use Rattle.std.proofs.Common.{sym, ◌∙◌}
use Rattle.op_form.proofs.FormedLaws.{is_package_is}
use Rattle.op_form.proofs.formed.is_package.Goals as goal

pub returns-clause-spelled : goal.returns-clause-spelled
returns-clause-spelled c = λ h. is_package_is c.args.«package».now (sym c.are_operations.ensures ∙ h)
