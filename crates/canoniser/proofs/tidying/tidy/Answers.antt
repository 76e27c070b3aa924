-- the rules leave no choice, and what they leave is normal
use Rattle.std.proofs.Common.{◌≡◌, sym, ap, subst, ◌∙◌}
use Rattle.merge_laws.specs.Split.{split}
use Rattle.merge_laws.specs.Rules.{Settles}
use Rattle.merge_laws.specs.Tidy.{Normal}
use Rattle.merge_laws.proofs.Whole.{tidy_follows_rules, tidy_is_normal}
use Rattle.merge_laws.proofs.RuleChoice.{rules_leave_no_choice}
use Rattle.canoniser.specs.Meetings.{standing_of}
use Rattle.canoniser.proofs.tidying.tidy.Goals as goal

pub returns-clause-tidied : goal.returns-clause-tidied
returns-clause-tidied c =
    let is : c.in_ok-list.list.items ≡ split c.args.package.now = c.in_ok-list.ensures ∙ ap split c.as_slice.ensures in
    let left : c.in_ok-tidied.tidied.items ≡ standing_of c.in_ok-standing.standing.stands.items c.settle.new.list.items =
    c.in_ok-tidied.ensures ∙ ap (λ s. standing_of s c.settle.new.list.items) c.stands.ensures in
    c.from_vec.ensures ∙ (rules_leave_no_choice c.args.meta.now c.args.package.now c.in_ok-tidied.tidied.items).2
    (subst (λ l. Settles c.args.meta.now l c.in_ok-tidied.tidied.items) is
    (subst (Settles c.args.meta.now c.in_ok-list.list.items) (sym left) c.in_ok-standing.ensures.settles))

pub returns-clause-normal : goal.returns-clause-normal
returns-clause-normal c = subst (Normal c.args.meta.now) (sym (returns-clause-tidied c)) (tidy_is_normal c.args.meta.now c.args.package.now)

pub returns-clause-rules : goal.returns-clause-rules
returns-clause-rules c =
    subst (Settles c.args.meta.now (split c.args.package.now)) (sym (returns-clause-tidied c)) (tidy_follows_rules c.args.meta.now c.args.package.now)
