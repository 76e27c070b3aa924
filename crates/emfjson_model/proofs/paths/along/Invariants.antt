use Rattle.std.proofs.Common.{◌≡◌, drop, map}
use Rattle.model_documents.specs.References.{along}
use Rattle.emfjson_model.proofs.paths.along.Given as goal

abbrev pub invariant-loop-step : goal.invariant-loop-step
invariant-loop-step l = along l.meta l.rows (map (λ t. t.now) (drop l.step-index l.steps)) l.here ≡ along l.meta l.rows (map (λ t. t.now) l.steps) l.fn.from
