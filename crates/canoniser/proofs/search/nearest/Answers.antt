-- by whether a rule applies to the last that touches
use Rattle.std.proofs.Common.{sym, ◌∙◌}
use Rattle.finite_maps.proofs.Cases.{no_some}
use Rattle.merge_laws.specs.Rules.{met}
use Rattle.canoniser.proofs.Turning.{not_met, is_rule}
use Rattle.canoniser.proofs.search.nearest.Goals as goal

pub returns-then-not-is_met : goal.returns-then-not-is_met
returns-then-not-is_met c =
    not_met c.args.standing.now.stands.items c.args.prints.now c.args.list.now c.args.at c.in-Some.i c.index-list-i.result c.index-list-at.result
    c.in-Some.ensures.last c.in-Some.ensures.low c.requires.within c.index-list-i.is c.index-list-at.is
    (no_some (met c.index-list-i.result c.index-list-at.result) (sym c.is_met.ensures ∙ c.if-not-is_met.true))

pub returns-in_ok-left-in-Some : goal.returns-in_ok-left-in-Some
returns-in_ok-left-in-Some c =
    is_rule c.args.standing.now.stands.items c.args.prints.now c.args.list.now c.args.at c.in-Some.i c.index-list-i.result c.index-list-at.result
    c.in-Some.ensures.last c.in-Some.ensures.low c.requires.within c.index-list-i.is c.index-list-at.is
    c.in_ok-left-in-Some.left c.in_ok-left-in-Some.ensures
