-- Two metamodels whose parts are the same are equal, by the law of them.
use Rattle.std.proofs.Common.{◌≡◌, sym, subst}
use Rattle.std.specs.Prelude.{◌↔◌, IsTrue}
use Rattle.metamodel_growth.proofs.SameLaws.{same_is_equal}
use Rattle.metamodel_growth.proofs.same.is_same.Goals as goal

pub returns-clause-exact : goal.returns-clause-exact
returns-clause-exact c =
    subst
    (λ same. IsTrue same ↔ (c.args.a.now ≡ c.args.b.now))
    (sym c.same_parts.ensures)
    (same_is_equal c.args.a.now c.args.b.now c.recall_promises.ensures c.recall_promises-2.ensures)
