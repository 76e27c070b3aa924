-- The path of the version is that of the parent of the last one found, and then what was found. But for the version itself none
-- of these has an entry.
use Rattle.std.proofs.Common.{◌≡◌, ◌≢◌, ◌<◌, ◌++◌, length, reverse, Some, None}
use Rattle.std.specs.Prelude.{All, nat_eq, slice_get}
use Rattle.std.specs.Map.{lookup}
use Rattle.state_cache.specs.Entries.{stands}
use Rattle.history_tree.specs.declared.version.Version.{Version}
use Rattle.history_tree.specs.History.{path}
use Rattle.history_tree.specs.Laws.{path_of_parent}
use Rattle.version_states.specs.Cached.{AreEncodings, Uses}
use Rattle.version_states.proofs.cached.nearest.Given as goal

abbrev pub invariant-loop-parent : goal.invariant-loop-parent
invariant-loop-parent l = record {
  there : l.at < length l.history.history.versions;
  found : (version : Version) → slice_get l.history.history.versions l.at ≡ Some version
      → path l.history.history l.v ≡ path_of_parent l.history.history version.parent ++ reverse l.back.items;
  same : l.cache ≡ l.fn.cache;
  missing : All (λ u. u ≢ l.v → lookup (nat_eq u) (stands l.pool l.fn.cache) ≡ None) l.back.items;
  uses : Uses l.pool l.pool l.fn.cache l.cache;
  forms : AreEncodings (Some l.meta) l.history.history (stands l.pool l.cache);
}

abbrev pub decreases-loop-parent : goal.decreases-loop-parent
decreases-loop-parent l = l.at
