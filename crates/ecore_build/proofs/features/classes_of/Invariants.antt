use Rattle.std.proofs.Common.{◌≡◌, ◌≤◌, ◌++◌, drop, map}
use Rattle.ecore_build.specs.Build.{classes_from}
use Rattle.ecore_build.proofs.BuildLaws.{classes_at}
use Rattle.ecore_build.proofs.features.classes_of.Given as goal

abbrev pub invariant-loop-row : goal.invariant-loop-row
invariant-loop-row l = record {
  whole : l.classes.items
      ++ classes_at l.number (map (λ fs. fs.items) l.features) (drop l.row-index l.rows) ≡ classes_from (map (λ fs. fs.items) l.features) l.rows;
  counted : l.number ≤ l.row-index;
}
