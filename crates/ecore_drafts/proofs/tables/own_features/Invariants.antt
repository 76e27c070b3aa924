use Rattle.std.proofs.Common.{◌≡◌, ◌+◌, ◌++◌, drop, map}
use Rattle.ecore_drafts.specs.Document.{feature_total}
use Rattle.ecore_drafts.proofs.OwnLaws.{own_features_from}
use Rattle.ecore_drafts.proofs.tables.own_features.Given as goal

abbrev pub invariant-loop-row : goal.invariant-loop-row
invariant-loop-row l = record {
  whole : map (λ fs. fs.items) l.own.items ++ own_features_from l.first (drop l.row-index l.rows) ≡ own_features_from 0 l.rows;
  counted : l.first + feature_total (drop l.row-index l.rows) ≡ feature_total l.rows;
}
