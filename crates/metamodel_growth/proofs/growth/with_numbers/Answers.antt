use Rattle.std.proofs.Common.{sym}
use Rattle.metamodel_growth.proofs.IdentityLaws.{identities_stay}
use Rattle.metamodel_growth.proofs.growth.with_numbers.Goals as goal

pub returns-then-are_identities : goal.returns-then-are_identities
returns-then-are_identities c =
    sym (identities_stay c.args.next c.recall_promises.ensures c.args.to.now c.requires (c.are_identities.ensures.0 c.if-are_identities.true))
