use Rattle.std.proofs.Common.{◌≡◌, map}
use Rattle.std.specs.Map.Iter.{deref_pair}
use Rattle.model_state.specs.Listing.{row_incoming}
use Rattle.step_apply.proofs.rows.listed.Given as goal

abbrev pub invariant-loop-key : goal.invariant-loop-key
invariant-loop-key l = l.found ≡ map row_incoming (map deref_pair l.yielded)
