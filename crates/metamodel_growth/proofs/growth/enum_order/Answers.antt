use Rattle.std.proofs.Common.{◌≡◌, ℕ, List, ◌∙◌, sym, ap, subst, arith, length}
use Rattle.metamodel_growth.specs.Evolved.{orders}
use Rattle.metamodel_growth.specs.Order.{IsOrder, begun_by}
use Rattle.metamodel_growth.proofs.ExtensionLaws.{enum_order}
use Rattle.metamodel_growth.proofs.PlaceLaws.{own_order}
use Rattle.metamodel_growth.proofs.growth.enum_order.Goals as goal

numbers_are : (c : goal.In_ok-numbers) → c.in_ok-numbers.numbers.items ≡ (orders c.args.old.now c.args.next.now).enums
numbers_are c = c.in_ok-numbers.ensures ∙ (λ i. begun_by (c.in_ok-first.ensures i) (c.enum_count.ensures i))

pub new-requires-clause-order : goal.new-requires-clause-order
new-requires-clause-order c =
    own_order (length c.args.next.now.enums) (orders c.args.old.now c.args.next.now).enums c.in_ok-numbers.numbers.items (numbers_are c)
    (enum_order c.args.old.now c.args.next.now c.recall_promises.ensures c.recall_promises-2.ensures)

pub new-requires-clause-few : goal.new-requires-clause-few
new-requires-clause-few c =
    let long = (enum_order c.args.old.now c.args.next.now c.recall_promises.ensures c.recall_promises-2.ensures).long in
    let is = ap length (numbers_are c) in
    omega (arith, long, is, c.enum_count.ensures, c.enum_count.type_inv)

pub returns-clause-order : goal.returns-clause-order
returns-clause-order c =
    let P : List ℕ → Type 0 = λ xs. IsOrder (length c.args.next.now.enums) xs in
    subst P (sym (c.in_ok-order.ensures ∙ c.in_ok-numbers.ensures ∙ (λ i. begun_by (c.in_ok-first.ensures i) (c.enum_count.ensures i))))
    (enum_order c.args.old.now c.args.next.now c.recall_promises.ensures c.recall_promises-2.ensures)
