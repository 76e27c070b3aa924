use Rattle.std.proofs.Common.{◌∙◌, refl, sym, ap, arith, get_or, length}
use Rattle.std.specs.Prelude.{slice_get}
use Rattle.metamodel_growth.proofs.CodeLaws.{few_found, taken_more}
use Rattle.metamodel_growth.proofs.PlaceLaws.{item_at, low_item}
use Rattle.metamodel_growth.proofs.moved.enums.Goals as goal

pub push_enum-requires-clause-there : goal.push_enum-requires-clause-there
push_enum-requires-clause-there c =
    let at = item_at c.numbers-e-items.result.now c.loop-e.e-index (get_or c.numbers-e-items.result.now c.loop-e.e-index 0) 0 c.loop-e-test.true refl in
    let low = low_item c.args.order.now c.recall_order.ensures.order c.loop-e.e-index (get_or c.numbers-e-items.result.now c.loop-e.e-index 0)
    (ap (λ xs. slice_get xs c.loop-e.e-index) (sym c.numbers-e-items.ensures) ∙ at) in
    omega (arith, low, c.requires)

pub loop-e-preserved : goal.loop-e-preserved
loop-e-preserved c = (
  c.in_ok-push_enum.ensures.short,
  taken_more (λ k. slice_get c.args.next.now.enums k) c.numbers-e-items.result.now c.loop-e.e-index
      (get_or c.numbers-e-items.result.now c.loop-e.e-index 0) 0
      c.loop-e.moved.items c.push_enum.new.moved.items c.loop-e-test.true refl c.loop-e.invariant.1 c.in_ok-push_enum.ensures.moved,
)

pub new-requires-clause-few : goal.new-requires-clause-few
new-requires-clause-few c =
    few_found (λ k. slice_get c.args.next.now.enums k) c.numbers-e-items.result.now c.loop-e.e-index _ c.loop-e.moved.items c.loop-e.invariant.1
    (omega (arith, ap length c.numbers-e-items.ensures, c.recall_order.ensures.few))
