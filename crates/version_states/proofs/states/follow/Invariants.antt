use Rattle.std.proofs.Common.{◌≡◌, drop}
use Rattle.model_state.specs.Good.{Good}
use Rattle.model_state.specs.Packages.{fold_package}
use Rattle.version_states.proofs.states.follow.Given as goal

abbrev pub invariant-loop-operation : goal.invariant-loop-operation
invariant-loop-operation l = record {
  same : fold_package l.meta l.fn.model l.operations ≡ fold_package l.meta l.model (drop l.operation-index l.operations);
  good : Good l.meta l.model;
}
