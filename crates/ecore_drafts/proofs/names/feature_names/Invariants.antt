use Rattle.std.proofs.Common.{◌≡◌, map, take}
use Rattle.ecore_drafts.proofs.names.feature_names.Given as goal

abbrev pub invariant-loop-row : goal.invariant-loop-row
invariant-loop-row l = map (λ n. n.now) l.names.items ≡ map (λ f. f.name) (take l.row-index l.rows)
