use Rattle.std.proofs.Common.{◌++◌, ◌∷◌, [], ◌∙◌, ◌+◌, sym, ap}
use Rattle.ecore_drafts.proofs.TableLaws.{range_more}
use Rattle.ecore_drafts.proofs.tables.numbers.Goals as goal

pub loop-n-preserved : goal.loop-n-preserved
loop-n-preserved c = c.in_ok-push.ensures.items ∙ ap (λ xs. xs ++ (c.args.first + c.loop-n.n) ∷ []) c.loop-n.invariant
    ∙ sym (range_more c.args.first c.loop-n.n)
