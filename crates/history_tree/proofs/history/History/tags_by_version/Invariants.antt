-- the names of each version's tags among those so far
use Rattle.std.proofs.Common.{◌≡◌, ◌<◌, ℕ, [], length, get_or, take}
use Rattle.history_tree.proofs.Tagged.{names_at}
use Rattle.history_tree.proofs.history.History.tags_by_version.Given as goal

abbrev pub invariant-loop-tag : goal.invariant-loop-tag
invariant-loop-tag l = record {
  size : length l.lists.items ≡ length l.self.history.versions;
  names : (v : ℕ) → v < length l.self.history.versions → get_or l.lists.items v [] ≡ names_at v (take l.tag-index l.tag-items);
}
