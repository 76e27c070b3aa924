-- the rows of the element are cut
use Rattle.std.proofs.Common.{ap, subst, ◌∙◌, refl, cond, nat_eq}
use Rattle.std.specs.Prelude.{IsSome}
use Rattle.std.specs.Ordering.{nat_cmp}
use Rattle.std.specs.BTreeMap as tree
use Rattle.finite_maps.specs.Nested.{inner_get}
use Rattle.change_index.specs.Table.{numbers, below}
use Rattle.change_index.proofs.Tables.{pair_done}
use Rattle.change_index.proofs.table.cut_pair.Goals as goal

pub returns-in-Some : goal.returns-in-Some
returns-in-Some c =
    let wrote = (c.get_mut.follows.holds c.cut_row.new.rows).3 (subst (λ o. IsSome o) c.in-Some.ensures.value refl) in
    pair_done c.args.table.now (c.get_mut.follows.lender c.cut_row.new.rows) c.args.element.now c.cut_row.new.rows wrote.0 (below c.args.version) c.args.feature
    (λ g. c.cut_row.ensures g
    ∙ ap (λ o. cond (nat_eq c.args.feature g) (below c.args.version (numbers (inner_get (λ r. tree.get nat_cmp r g) o)))
    (numbers (inner_get (λ r. tree.get nat_cmp r g) o))) c.in-Some.ensures.value)
