-- by the list of the feature
use Rattle.std.proofs.Common.{subst}
use Rattle.history_tree.specs.MergeBase.{is_among}
use Rattle.change_index.specs.Last.{IsLast}
use Rattle.change_index.proofs.Asking.{last_listed}
use Rattle.change_index.proofs.index.ChangeIndex.last.Goals as goal

pub returns : goal.returns
returns c =
    last_listed c.self.inside.table c.self.inside.count c.args.self.now c.self.view_is c.args.e.now c.args.f c.args.path.now c.requires.low c.last_common.result
    (subst (λ us. IsLast (is_among us) c.args.path.now c.last_common.result) c.listed-versions.ensures
    (subst (λ p. IsLast (is_among c.listed-versions.result.now) p c.last_common.result) c.as_slice-path.ensures c.last_common.ensures))
