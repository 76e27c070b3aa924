use Rattle.std.proofs.Common.{◌≡◌, ℕ, List, ◌∙◌, sym, ap, subst, arith, length}
use Rattle.metamodel_growth.specs.Evolved.{orders}
use Rattle.metamodel_growth.specs.Order.{IsOrder, begun_by}
use Rattle.metamodel_growth.proofs.ExtensionLaws.{class_order}
use Rattle.metamodel_growth.proofs.PlaceLaws.{own_order}
use Rattle.metamodel_growth.proofs.growth.class_order.Goals as goal

numbers_are : (c : goal.In_ok-numbers) → c.in_ok-numbers.numbers.items ≡ (orders c.args.old.now c.args.next.now).classes
numbers_are c = c.in_ok-numbers.ensures ∙ (λ i. begun_by (c.in_ok-first.ensures i) (c.class_count.ensures i))

pub new-requires-clause-order : goal.new-requires-clause-order
new-requires-clause-order c =
    own_order (length c.args.next.now.classes) (orders c.args.old.now c.args.next.now).classes c.in_ok-numbers.numbers.items (numbers_are c)
    (class_order c.args.old.now c.args.next.now c.recall_promises.ensures c.recall_promises-2.ensures)

pub new-requires-clause-few : goal.new-requires-clause-few
new-requires-clause-few c =
    let long = (class_order c.args.old.now c.args.next.now c.recall_promises.ensures c.recall_promises-2.ensures).long in
    let is = ap length (numbers_are c) in
    omega (arith, long, is, c.class_count.ensures, c.class_count.type_inv)

pub returns-clause-order : goal.returns-clause-order
returns-clause-order c =
    let P : List ℕ → Type 0 = λ xs. IsOrder (length c.args.next.now.classes) xs in
    subst P (sym (c.in_ok-order.ensures ∙ c.in_ok-numbers.ensures ∙ (λ i. begun_by (c.in_ok-first.ensures i) (c.class_count.ensures i))))
    (class_order c.args.old.now c.args.next.now c.recall_promises.ensures c.recall_promises-2.ensures)
