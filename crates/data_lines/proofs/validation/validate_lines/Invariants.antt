use Rattle.std.proofs.Common.{◌≡◌, ◌++◌, drop}
use Rattle.model_state.specs.Listing.{ids}
use Rattle.shown_lines.specs.Validation.{element_lines}
use Rattle.data_lines.proofs.validation.validate_lines.Given as goal

abbrev pub invariant-loop-e : goal.invariant-loop-e
invariant-loop-e g l = let m = g.L.Look.state l.look in l.lines ++ element_lines l.meta m (drop l.e-index l.e-items) ≡ element_lines l.meta m (ids m)
