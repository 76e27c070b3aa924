-- Which version a SPEC of a line names.
use Rattle.std.specs.Prelude.{Result}
use Rattle.history_tree.specs.declared.found.Found.{Found}
use Rattle.history_tree.specs.declared.found.FindFault.{FindFault}
use Rattle.history_tree.specs.declared.found.FindFault.TheVariants as faults
use Rattle.history_tree.specs.History.{History}
use Rattle.history_tree.specs.Found.{found_by_number, found_by_branch, found_by_tag}
use Rattle.script_lang.specs.declared.command.Spec.{Spec}
use Rattle.script_lang.specs.declared.command.Spec.TheVariants as specs
use Rattle.script_lang.specs.declared.reply.Refusal.{Refusal}
use Rattle.script_lang.specs.declared.reply.Refusal.TheVariants as refusals

-- the version that SPEC names, with the branch of that name, or else the version's
abbrev pub found_by_spec : History → Spec → Result Found FindFault
found_by_spec h (specs.Number n) = found_by_number h n
found_by_spec h (specs.Branch name) = found_by_branch h name
found_by_spec h (specs.Tag name) = found_by_tag h name

-- the refusal where it names none
abbrev pub unknown : FindFault → Refusal
unknown faults.NoVersion = refusals.NoVersion
unknown faults.NoBranch = refusals.NoBranch
