use Rattle.std.proofs.Common.{◌∙◌, ap, nat_eq}
use Rattle.std.specs.List.{list_any}
use Rattle.model_documents.specs.Finder.{numbers_at}
use Rattle.model_documents.specs.Completed.{targets_at}
use Rattle.emfjson_model.specs.Sources.{also}
use Rattle.emfjson_model.proofs.Naming.{sources_more}
use Rattle.emfjson_model.proofs.sources.sources_of.Goals as goal

pub loop-n-preserved : goal.loop-n-preserved
loop-n-preserved c = λ q.
    let n = c.loop-n.n in
    c.in_ok-add_given.ensures q
    ∙ ap (λ rs. also n (list_any (nat_eq q.row) (targets_at q.feature rs)) (numbers_at c.loop-n.numbers q)) c.as_slice.ensures
    ∙ ap (also n (list_any (nat_eq q.row) (targets_at q.feature c.index-given-n.result))) (c.loop-n.invariant q)
    ∙ sources_more q.feature q.row c.args.given.now n c.index-given-n.result c.loop-n-test.true c.index-given-n.is
