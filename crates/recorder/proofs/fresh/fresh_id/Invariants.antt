use Rattle.std.proofs.Common.{◌≡◌, ℕ, ◌<◌, ◌≤◌, true}
use Rattle.model_state.specs.State.{is_live}
use Rattle.edits.specs.FreshIds.{numbered}
use Rattle.recorder.proofs.fresh.fresh_id.Given as goal

abbrev pub invariant-loop-k : goal.invariant-loop-k
invariant-loop-k g l = (j : ℕ) → 1 ≤ j → j < l.k → is_live (g.L.Look.state l.look) (numbered l.ws j) ≡ true
