use Rattle.std.proofs.Common.{◌≡◌, ◌+◌, ◌≤◌, ◌++◌, drop}
use Rattle.ecore_drafts.specs.Document.{feature_total}
use Rattle.ecore_drafts.specs.Classifiers.{numbered}
use Rattle.ecore_drafts.proofs.classifiers.number.Given as goal

abbrev pub invariant-loop-row : goal.invariant-loop-row
invariant-loop-row l = record {
  whole : l.numbered.items ++ numbered l.classes l.features l.enums (drop l.row-index l.rows) ≡ numbered 0 0 0 l.rows;
  features : l.features + feature_total (drop l.row-index l.rows) ≡ feature_total l.rows;
  counted : l.classes + l.enums ≤ l.row-index;
}
