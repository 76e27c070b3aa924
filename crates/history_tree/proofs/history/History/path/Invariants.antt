-- the path of the version that was asked for is that of the parent of the last one found, and then what was found
use Rattle.std.proofs.Common.{◌≡◌, ◌<◌, ◌++◌, length, reverse, Some}
use Rattle.std.specs.Prelude.{slice_get}
use Rattle.history_tree.specs.declared.version.Version.{Version}
use Rattle.history_tree.specs.History.{path}
use Rattle.history_tree.specs.Laws.{path_of_parent}
use Rattle.history_tree.proofs.history.History.path.Given as goal

abbrev pub invariant-loop-parent : goal.invariant-loop-parent
invariant-loop-parent l = record {
  there : l.at < length l.self.history.versions;
  found : (version : Version) → slice_get l.self.history.versions l.at ≡ Some version
      → path l.self.history l.v ≡ path_of_parent l.self.history version.parent ++ reverse l.back.items;
}

abbrev pub decreases-loop-parent : goal.decreases-loop-parent
decreases-loop-parent l = l.at
