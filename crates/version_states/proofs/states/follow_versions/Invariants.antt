-- what all versions lead to is what those that are left lead to from here
use Rattle.std.proofs.Common.{◌≡◌, drop}
use Rattle.model_state.specs.Good.{Good}
use Rattle.model_state.specs.Packages.{fold_package}
use Rattle.history_tree.specs.States.{operations_of}
use Rattle.version_states.proofs.states.follow_versions.Given as goal

abbrev pub invariant-loop-u : goal.invariant-loop-u
invariant-loop-u l = record {
  same : fold_package l.meta l.fn.model (operations_of l.history.history.versions l.versions) ≡ fold_package l.meta l.model
      (operations_of l.history.history.versions (drop l.u-index l.versions));
  good : Good l.meta l.model;
}
