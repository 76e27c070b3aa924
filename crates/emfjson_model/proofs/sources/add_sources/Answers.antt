use Rattle.std.proofs.Common.{◌∙◌, ◌&&◌, ap, get_or, nat_eq, take}
use Rattle.std.specs.List.{list_any}
use Rattle.model_documents.specs.Finder.{numbers_at}
use Rattle.model_documents.specs.Places.{parent_eq}
use Rattle.emfjson_model.specs.Sources.{also}
use Rattle.emfjson_model.proofs.Naming.{also_also, target_more}
use Rattle.emfjson_model.proofs.sources.add_sources.Goals as goal

pub loop-row-preserved : goal.loop-row-preserved
loop-row-preserved c = λ q.
    let n = c.args.n in
    let g = c.args.feature in
    let ts = c.args.targets.now in
    let i = c.loop-row.row-index in
    c.in_ok-add_source.ensures q
    ∙ ap (also n (parent_eq (record { row = get_or ts i 0; feature = g }) q)) (c.loop-row.invariant q)
    ∙ also_also n (list_any (nat_eq q.row) (take i ts) && nat_eq g q.feature) (parent_eq (record { row = get_or ts i 0; feature = g }) q)
    (numbers_at c.args.numbers.now q)
    ∙ ap (λ b. also n b (numbers_at c.args.numbers.now q)) (target_more ts i g q c.loop-row-test.true)
