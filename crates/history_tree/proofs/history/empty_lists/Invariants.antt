-- as many lists as turns, each empty
use Rattle.std.proofs.Common.{◌≡◌, ◌<◌, ℕ, [], length, get_or}
use Rattle.history_tree.proofs.history.empty_lists.Given as goal

abbrev pub invariant-loop : goal.invariant-loop
invariant-loop l = record {
  size : length l.lists.items ≡ l.counter;
  empty : (v : ℕ) → v < l.counter → get_or l.lists.items v [] ≡ [];
}
