-- the features so far
use Rattle.std.proofs.Common.{◌≡◌, map}
use Rattle.std.specs.List.{filter, list_any}
use Rattle.std.specs.Map.Iter.{deref}
use Rattle.history_tree.specs.MergeBase.{is_among}
use Rattle.change_index.specs.Table.{row}
use Rattle.change_index.proofs.index.features_of.Given as goal

abbrev pub invariant-loop-feature : goal.invariant-loop-feature
invariant-loop-feature l = l.features ≡ filter (λ f. list_any (is_among (row l.rows f)) l.path) (map deref l.yielded)
