use Rattle.std.proofs.Common.{◌∙◌, get_or, sym, ap, cond, nat_eq}
use Rattle.std.specs.Prelude.{None, Some}
use Rattle.std.proofs.lemmas.List.{take_all}
use Rattle.model_documents.specs.Finder.{first_of}
use Rattle.model_import.proofs.FirstPlaces.{first_is, first_more, first_place}
use Rattle.model_import.proofs.indexes.index_of.Goals as goal

pub loop-k-preserved : goal.loop-k-preserved
loop-k-preserved c = λ q.
    let xs = c.args.targets.now in
    let k = c.loop-k.k in
    c.in_ok-enter.ensures q
    ∙ ap (λ o. first_of o (cond (nat_eq q (get_or xs k 0)) (Some k) None)) (c.loop-k.invariant q)
    ∙ sym (first_more q xs k c.loop-k-test.true)

pub returns : goal.returns
returns c = λ n k is. first_is n c.args.targets.now k
    (sym (c.loop-k.invariant n ∙ ap (first_place n) (take_all c.loop-k.k c.args.targets.now c.loop-k-test.false)) ∙ is)
