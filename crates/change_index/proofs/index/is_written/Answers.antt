-- where the lists have a number in common
use Rattle.std.proofs.Common.{ap, ◌∙◌}
use Rattle.std.specs.List.{list_any}
use Rattle.history_tree.specs.MergeBase.{is_among}
use Rattle.change_index.proofs.Asking.{some_last}
use Rattle.change_index.proofs.index.is_written.Goals as goal

pub returns : goal.returns
returns c = c.is_some.ensures ∙ some_last (is_among c.row_of.result.now) c.args.path.now c.last_common.result c.last_common.ensures
    ∙ ap (λ us. list_any (is_among us) c.args.path.now) c.row_of.ensures
