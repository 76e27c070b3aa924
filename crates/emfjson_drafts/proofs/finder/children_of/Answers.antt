use Rattle.std.proofs.Common.{◌∙◌, ◌++◌, ◌∷◌, [], List, ℕ, ap, sym, cond}
use Rattle.std.specs.Prelude.{Some}
use Rattle.model_documents.specs.Places.{stands_in}
use Rattle.model_documents.proofs.Finding.{numbers_more}
use Rattle.emfjson_drafts.proofs.finder.children_of.Goals as goal

pub loop-n-preserved : goal.loop-n-preserved
loop-n-preserved c = λ q.
    c.in_ok-add_child.ensures q
    ∙ ap (λ l. l ++ cond {A = List ℕ} (stands_in (Some q) c.index-rows-n.result) (c.loop-n.n ∷ []) []) (c.loop-n.invariant q)
    ∙ sym (numbers_more (stands_in (Some q)) c.args.rows.now c.loop-n.n c.index-rows-n.result c.loop-n-test.true c.index-rows-n.is)
