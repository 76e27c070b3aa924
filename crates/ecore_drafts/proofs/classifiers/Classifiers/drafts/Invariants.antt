use Rattle.std.proofs.Common.{◌≡◌, ◌≤◌, ◌++◌, drop}
use Rattle.std.specs.List.{enumerate_from, flat_map}
use Rattle.ecore_drafts.specs.Document.{classes_of}
use Rattle.ecore_drafts.specs.Drafts.{drafts_of}
use Rattle.ecore_drafts.proofs.classifiers.Classifiers.drafts.Given as goal

abbrev pub invariant-loop-row : goal.invariant-loop-row
invariant-loop-row l = record {
  whole : l.drafts.items ++ flat_map (drafts_of l.rows) (enumerate_from l.owner (classes_of (drop l.row-index l.rows))) ≡ flat_map (drafts_of l.rows)
      (enumerate_from 0 (classes_of l.rows));
  counted : l.owner ≤ l.row-index;
}
