use Rattle.std.proofs.Common.{ap, sym, ◌∙◌}
use Rattle.std.specs.Prelude.{ok_or}
use Rattle.std.specs.FinMap.{get}
use Rattle.ecore_meta.specs.Meta.{feature_named}
use Rattle.edit_steps.specs.declared.fault.EditFault.TheVariants.{NoFeature}
use Rattle.edits.specs.Edits.{feature_at}
use Rattle.edits.proofs.Names.{feature_of}
use Rattle.recorder.proofs.feature.Named.find.Goals as goal

pub returns-in-Some-feature_named-clause-held : goal.returns-in-Some-feature_named-clause-held
returns-in-Some-feature_named-clause-held g c =
    let meta = c.args.meta.now in
    let class = get (g.L.Look.state c.args.look.now).kind c.in-Ok.id in
    feature_of meta class c.args.feature.now c.in-Some-feature_named.feature
    (ap (λ o. feature_at meta o c.args.feature.now) (sym c.in-Some.ensures)
    ∙ ap (λ name. ok_or (feature_named meta c.in-Some.class name) NoFeature) (sym c.as_str-2.ensures)
    ∙ ap (λ o. ok_or o NoFeature) (sym c.in-Some-feature_named.ensures))
