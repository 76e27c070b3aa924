use Rattle.std.proofs.Common.{◌∙◌, ◌&&◌, ap, nat_eq, take}
use Rattle.std.specs.List.{list_any}
use Rattle.std.proofs.lemmas.List.{take_all}
use Rattle.model_documents.specs.Finder.{numbers_at}
use Rattle.emfjson_model.specs.Sources.{also}
use Rattle.emfjson_model.proofs.Naming.{all_refs, also_also, gives, refs_more}
use Rattle.emfjson_model.proofs.sources.add_given.Goals as goal

pub loop-r-preserved : goal.loop-r-preserved
loop-r-preserved c = λ q.
    let n = c.args.n in
    let refs = c.args.refs.now in
    let i = c.loop-r.r-index in
    let r = c.r-item.result in
    c.in_ok-add_sources.ensures q
    ∙ ap (λ ts. also n (list_any (nat_eq q.row) ts && nat_eq r.feature q.feature) (numbers_at c.loop-r.numbers q)) c.targets_at.ensures
    ∙ ap (also n (gives refs q r)) (c.loop-r.invariant q)
    ∙ also_also n (list_any (gives refs q) (take i refs)) (gives refs q r) (numbers_at c.args.numbers.now q)
    ∙ ap (λ b. also n b (numbers_at c.args.numbers.now q)) (refs_more refs i r q c.loop-r-test.true c.r-item.is)

pub returns : goal.returns
returns c = λ q.
    let n = c.args.n in
    let refs = c.args.refs.now in
    c.loop-r.invariant q
    ∙ ap (λ rs. also n (list_any (gives refs q) rs) (numbers_at c.args.numbers.now q)) (take_all c.loop-r.r-index refs c.loop-r-test.false)
    ∙ ap (λ b. also n b (numbers_at c.args.numbers.now q)) (all_refs refs q)
