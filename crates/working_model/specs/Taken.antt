-- Which ids with numbers are live, and which steps leave them so.
use Rattle.std.specs.Prelude.{◌≡◌, ◌<◌, ◌≤◌, ℕ, Bool, true, false}
use Rattle.finite_maps.specs.Equal.{text_eq}
use Rattle.model_state.specs.Keys.{IdBytes}
use Rattle.model_state.specs.State.{State, is_live}
use Rattle.model_state.specs.declared.step.Step.{Step}
use Rattle.model_state.specs.declared.step.Step.TheVariants.{Put, Ins, Del, Shift, Link, Unlink, RerankRow, New, Gone, Move, RerankPlace}
use Rattle.edits.specs.FreshIds.{numbered}

-- each id that the workspace gives to a number from 1 on and less than this one is live
pub record AreTaken (m : State) (ws next : ℕ) : Type 0 where
  pub from : 1 ≤ next
  pub taken : (j : ℕ) → 1 ≤ j → j < next → is_live m (numbered ws j) ≡ true

-- the step deletes the element
abbrev pub deletes : IdBytes → Step → Bool
deletes e (Put x f old new) = false
deletes e (Ins x f at v) = false
deletes e (Del x f at v) = false
deletes e (Shift x f from to) = false
deletes e (Link x f ra b rb) = false
deletes e (Unlink x f ra b rb) = false
deletes e (RerankRow x f b old new) = false
deletes e (New x class place rank) = false
deletes e (Gone x class place rank) = text_eq e x
deletes e (Move x from from_rank to to_rank above_from above_to) = false
deletes e (RerankPlace x old new) = false
