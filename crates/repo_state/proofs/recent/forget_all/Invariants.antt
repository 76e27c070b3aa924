-- what was let go so far changes nothing else, and no position that was passed keeps a model
use Rattle.std.proofs.Common.{◌≡◌, ◌≤◌, ℕ, true, map, None, get_or}
use Rattle.std.specs.Prelude.{All}
use Rattle.ecore_meta.specs.Meta.{Meta}
use Rattle.history_tree.specs.History.{History}
use Rattle.repo_state.specs.Keeping.{FitsAny, keeps_model, plain_any}
use Rattle.repo_state.proofs.recent.forget_all.Given as goal

abbrev pub invariant-loop-at : goal.invariant-loop-at
invariant-loop-at l = record {
  same : map plain_any l.workspaces.items ≡ map plain_any l.fn.workspaces.items;
  fits : (meta : Meta) (h : History) → All (FitsAny meta h) l.fn.workspaces.items → All (FitsAny meta h) l.workspaces.items;
  left : (i : ℕ) → keeps_model (get_or l.workspaces.items i None) ≡ true → l.at ≤ i;
}
