use Rattle.std.proofs.Common.{◌∙◌, ap, refl, map}
use Rattle.ecore_meta.specs.Names.{number_of}
use Rattle.ecore_meta.specs.declared.meta.Feature.{Feature}
use Rattle.ecore_meta.proofs.FeatureLaws.{listed_more}
use Rattle.ecore_meta.proofs.feature_index.features_by_name.Goals as goal

pub loop-n-preserved : goal.loop-n-preserved
loop-n-preserved c =
    listed_more c.args.features.now c.args.numbers.now c.loop-n.n-index 0 _ c.loop-n.index c.put_named.new.index c.number_in-id.result c.loop-n-test.true refl
    (c.number_in-id.ensures ∙ c.requires c.name_of.result.now ∙ ap (λ t. number_of t (map (λ (f : Feature). f.name) c.args.features.now)) c.name_of.ensures)
    c.in_ok-put_named.ensures c.loop-n.invariant
