use Rattle.std.proofs.Common.{List, ℕ, subst, sym, get_or, take}
use Rattle.std.proofs.lemmas.List.{take_more}
use Rattle.metamodel_growth.specs.Order.{IsSetOf}
use Rattle.metamodel_growth.proofs.PlaceLaws.{set_more}
use Rattle.metamodel_growth.proofs.order.set_of.Goals as goal

pub loop-n-preserved : goal.loop-n-preserved
loop-n-preserved c =
    let P : List ℕ → Type 0 = λ xs. IsSetOf xs c.insert.new.self in
    subst P (sym (take_more c.args.numbers.now c.loop-n.n-index 0 c.loop-n-test.true))
    (set_more (take c.loop-n.n-index c.args.numbers.now) c.loop-n.set c.insert.new.self
    (get_or c.args.numbers.now c.loop-n.n-index 0) c.loop-n.invariant c.in_ok-insert.ensures.updates.0 c.in_ok-insert.ensures.ordered)
