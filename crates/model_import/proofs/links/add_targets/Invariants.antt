use Rattle.std.proofs.Common.{◌≡◌, ◌++◌, drop}
use Rattle.import_laws.specs.Links.{targets_made}
use Rattle.model_import.proofs.links.add_targets.Given as goal

abbrev pub invariant-loop-k : goal.invariant-loop-k
invariant-loop-k l = l.steps ++ targets_made l.meta l.names l.rows l.n l.e l.refs.feature l.k (drop l.k l.refs.targets) ≡ l.initial.steps
    ++ targets_made l.meta l.names l.rows l.n l.e l.refs.feature 0 l.refs.targets
