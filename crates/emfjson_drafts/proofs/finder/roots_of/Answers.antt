use Rattle.std.proofs.Common.{◌∙◌, ◌++◌, ◌∷◌, [], List, ℕ, ap, sym, cond}
use Rattle.std.specs.Prelude.{None}
use Rattle.model_documents.specs.Places.{stands_in}
use Rattle.model_documents.proofs.Finding.{numbers_more}
use Rattle.emfjson_drafts.proofs.finder.roots_of.Goals as goal

pub loop-n-preserved : goal.loop-n-preserved
loop-n-preserved c =
    c.in_ok-add_root.ensures
    ∙ ap (λ l. l ++ cond {A = List ℕ} (stands_in None c.index-rows-n.result) (c.loop-n.n ∷ []) []) c.loop-n.invariant
    ∙ sym (numbers_more (stands_in None) c.args.rows.now c.loop-n.n c.index-rows-n.result c.loop-n-test.true c.index-rows-n.is)
