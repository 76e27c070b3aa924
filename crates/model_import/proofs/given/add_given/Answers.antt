use Rattle.std.proofs.Common.{◌∙◌}
use Rattle.std.specs.BTreeSet.{contains}
use Rattle.model_state.specs.Keys.{id_cmp}
use Rattle.model_import.proofs.GivenIds.{one_given}
use Rattle.model_import.proofs.given.add_given.Goals as goal

pub returns-in_ok-insert-in-Some : goal.returns-in_ok-insert-in-Some
returns-in_ok-insert-in-Some c = λ e.
    c.in_ok-insert-in-Some.ensures.updates.0 e
    ∙ one_given c.args.row.now c.in-Some.id c.in_ok-copy-in-Some.field-0 e (contains id_cmp c.args.ids.now e) c.in-Some.is c.in_ok-copy-in-Some.ensures
