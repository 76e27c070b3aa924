use Rattle.std.proofs.Common.{sym, ◌∙◌}
use Rattle.std.specs.BTreeMap.{get}
use Rattle.std.specs.Ordering.{nat_cmp}
use Rattle.model_import.proofs.FirstPlaces.{entered_before, entered_now}
use Rattle.model_import.proofs.indexes.enter.Goals as goal

pub returns-then-contains_key : goal.returns-then-contains_key
returns-then-contains_key c = λ q. entered_before c.args.indexes.now c.args.n c.args.k q (sym c.contains_key.ensures ∙ c.if-contains_key.true)

pub returns : goal.returns
returns c = λ q.
    entered_now c.args.indexes.now c.args.n c.args.k q (get nat_cmp c.insert.new.self q) (sym c.contains_key.ensures ∙ c.if-contains_key.false)
    (c.in_ok-insert.ensures.updates.0 q)
