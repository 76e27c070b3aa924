-- what was let go so far changes nothing else, no further model is kept, and a model that is kept has its size still
use Rattle.std.proofs.Common.{◌≡◌, ℕ, true, map, None, get_or, vec_len}
use Rattle.std.specs.Prelude.{All}
use Rattle.std.specs.List.{Contains}
use Rattle.ecore_meta.specs.Meta.{Meta}
use Rattle.history_tree.specs.History.{History}
use Rattle.repo_state.specs.Keeping.{FitsAny, keeps_model, plain_any}
use Rattle.repo_state.specs.Sizes.{sized}
use Rattle.repo_state.proofs.recent.let_go.Given as goal

abbrev pub invariant-loop-out : goal.invariant-loop-out
invariant-loop-out l = record {
  same : map plain_any l.workspaces.items ≡ map plain_any l.fn.workspaces.items;
  fits : (meta : Meta) (h : History) → All (FitsAny meta h) l.fn.workspaces.items → All (FitsAny meta h) l.workspaces.items;
  kept : (i : ℕ) → keeps_model (get_or l.workspaces.items i None) ≡ true → keeps_model (get_or l.fn.workspaces.items i None) ≡ true;
  sized : (i : ℕ) → Contains (sized l.fn.sizes.sizes.items) i → keeps_model (get_or l.workspaces.items i None) ≡ true
      → Contains (sized l.sizes.sizes.items) i;
}

abbrev pub decreases-loop-out : goal.decreases-loop-out
decreases-loop-out l = vec_len l.sizes.sizes
