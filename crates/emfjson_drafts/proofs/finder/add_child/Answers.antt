use Rattle.std.proofs.Common.{◌∙◌, ◌++◌, ◌∷◌, [], ap}
use Rattle.model_documents.proofs.Finding.{child_added}
use Rattle.emfjson_drafts.proofs.finder.add_child.Goals as goal

pub returns-in_ok-insert-in-Some : goal.returns-in_ok-insert-in-Some
returns-in_ok-insert-in-Some c = λ q.
    child_added c.args.children.now c.take_numbers-numbers.new.children c.insert.new.self c.args.parent c.in-Some.place q c.args.n c.push.new.self c.in-Some.is
    (c.in_ok-push-in-Some.ensures.ok ∙ ap (λ l. l ++ c.args.n ∷ []) c.take_numbers-numbers.ensures.numbers)
    (c.take_numbers-numbers.ensures.others q)
    (c.in_ok-insert-in-Some.ensures.updates.0 (q.row, q.feature))
