use Rattle.std.proofs.Common.{◌≡◌, ◌++◌, map, take}
use Rattle.ecore_drafts.specs.Drafts.{draft}
use Rattle.ecore_drafts.proofs.classifiers.Classifiers.draft_all.Given as goal

abbrev pub invariant-loop-row : goal.invariant-loop-row
invariant-loop-row l = l.drafts.items ≡ l.initial.drafts.items ++ map (draft l.self l.owner) (take l.row-index l.rows)
