use Rattle.std.proofs.Common.{rules, ◌+◌, sym, ap, ◌∙◌, arith}
use Rattle.std.specs.List.{insert, remove}
use Rattle.graph_parts.proofs.ShiftLaws.{shifted_up, shifted_down}
use Rattle.graph_parts.proofs.value_list.ValueList.shift.Goals as goal

pub returns-in_ok-insert-clause-ok : goal.returns-in_ok-insert-clause-ok
returns-in_ok-insert-clause-ok c =
    c.remove.ensures ∙ ap (λ l. remove l c.args.from) c.in_ok-insert.ensures.ok
    ∙ shifted_up c.args.self.now c.args.from c.args.to (c.args.to + 1) c.in_ok-v.v (search rules) (search rules) c.requires.to (omega arith)

pub returns-in_ok-insert-2-clause-ok : goal.returns-in_ok-insert-2-clause-ok
returns-in_ok-insert-2-clause-ok c =
    c.remove-else-from-to.ensures ∙ ap (λ l. remove l (c.args.from + 1)) c.in_ok-insert-2.ensures.ok
    ∙ shifted_down c.args.self.now c.args.from c.args.to (c.args.from + 1) c.in_ok-v.v (search rules) (search rules) c.requires.from (omega arith)
