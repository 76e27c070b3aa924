use Rattle.std.proofs.Common.{◌∙◌, ap, cond}
use Rattle.std.specs.Prelude.{None, Some}
use Rattle.std.specs.Str.{bytes_eq}
use Rattle.ecore_meta.specs.Values.{or_else}
use Rattle.ecore_meta.proofs.IndexLaws.{entered_more}
use Rattle.ecore_meta.proofs.indexes.class_index.Goals as goal

pub loop-n-preserved : goal.loop-n-preserved
loop-n-preserved c = λ q.
    c.in_ok-enter.ensures q
    ∙ ap (λ o. or_else o (cond (bytes_eq q c.as_str.result.now) (Some c.loop-n.n) None)) (c.loop-n.invariant q)
    ∙ entered_more (λ x. x.name) c.args.classes.now c.loop-n.n c.index-classes-n.result c.loop-n-test.true None q c.as_str.result.now
    (c.as_str.ensures ∙ ap (λ x. x.name) c.index-classes-n.is)
