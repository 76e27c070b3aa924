use Rattle.std.proofs.Common.{◌≡◌, map, drop}
use Rattle.serde_json.specs.View.{view}
use Rattle.ecore_json.specs.Walk.{first_lacking}
use Rattle.ecore_json.proofs.walk.first_lacking.Given as goal

abbrev pub invariant-loop-key : goal.invariant-loop-key
invariant-loop-key l = first_lacking (map (λ k. k.now) (drop l.key-index l.keys)) (view l.value) ≡ first_lacking (map (λ k. k.now) l.keys) (view l.value)
