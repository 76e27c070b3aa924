use Rattle.std.proofs.Common.{◌≡◌, ◌++◌, drop}
use Rattle.import_laws.specs.Links.{refs_made}
use Rattle.model_import.proofs.links.add_refs.Given as goal

abbrev pub invariant-loop-list : goal.invariant-loop-list
invariant-loop-list l =
    l.steps ++ refs_made l.meta l.names l.rows l.n l.e (drop l.list-index l.refs) ≡ l.initial.steps ++ refs_made l.meta l.names l.rows l.n l.e l.refs
