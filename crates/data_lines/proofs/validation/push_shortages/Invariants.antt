use Rattle.std.proofs.Common.{◌≡◌, ◌++◌, drop}
use Rattle.shown_lines.specs.Validation.{feature_lines}
use Rattle.data_lines.proofs.validation.push_shortages.Given as goal

abbrev pub invariant-loop-f : goal.invariant-loop-f
invariant-loop-f g l = let m = g.L.Look.state l.look
    in l.lines ++ feature_lines l.meta m l.e (drop l.f-index l.features) ≡ l.initial.lines ++ feature_lines l.meta m l.e l.features
