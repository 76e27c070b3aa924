use Rattle.std.proofs.Common.{◌≡◌, drop, take, Some}
use Rattle.model_state.specs.Good.{Good}
use Rattle.model_state.specs.Packages.{fold_package}
use Rattle.version_states.proofs.trying.take_all.Given as goal

abbrev pub invariant-loop-i : goal.invariant-loop-i
invariant-loop-i l = record {
  taken : fold_package l.meta l.fn.model (take l.i l.operations) ≡ Some l.model;
  same : fold_package l.meta l.fn.model l.operations ≡ fold_package l.meta l.model (drop l.i l.operations);
  good : Good l.meta l.model;
}
