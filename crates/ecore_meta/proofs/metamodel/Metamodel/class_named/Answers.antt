use Rattle.std.proofs.Common.{◌∙◌, subst}
use Rattle.ecore_meta.specs.Indexes.{Keeps}
use Rattle.ecore_meta.specs.Meta.{Meta}
use Rattle.ecore_meta.proofs.metamodel.Metamodel.class_named.Goals as goal

pub returns : goal.returns
returns c =
    let P : Meta → Type 0 = λ meta. Keeps meta c.self.inside.class_index c.self.inside.feature_names c.self.inside.feature_index.items in
    let keeps = subst P c.self.view_is c.self.invariant in
    c.number_in.ensures ∙ keeps.by_class c.args.name.now
