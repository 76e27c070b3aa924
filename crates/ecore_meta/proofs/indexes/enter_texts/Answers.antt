use Rattle.std.proofs.Common.{◌∙◌, ap, cond}
use Rattle.std.specs.Prelude.{None, Some}
use Rattle.std.specs.BTreeMap.{get_by_text}
use Rattle.std.specs.Str.{bytes_eq}
use Rattle.ecore_meta.specs.Values.{or_else}
use Rattle.ecore_meta.proofs.IndexLaws.{entered_more}
use Rattle.ecore_meta.proofs.indexes.enter_texts.Goals as goal

pub loop-n-preserved : goal.loop-n-preserved
loop-n-preserved c = λ q.
    c.in_ok-enter.ensures q
    ∙ ap (λ o. or_else o (cond (bytes_eq q c.as_str.result.now) (Some c.loop-n.n) None)) (c.loop-n.invariant q)
    ∙ entered_more (λ x. x.text) c.args.literals.now c.loop-n.n c.index-literals-n.result c.loop-n-test.true
    (get_by_text c.args.index.now q) q c.as_str.result.now (c.as_str.ensures ∙ ap (λ x. x.text) c.index-literals-n.is)
