use Rattle.std.proofs.Common.{◌∙◌, ap, subst, sym}
use Rattle.std.specs.Prelude.{slice_get}
use Rattle.std.specs.BTreeMap.{get}
use Rattle.std.specs.Option.{option_and_then}
use Rattle.std.specs.Ordering.{nat_cmp}
use Rattle.ecore_meta.specs.Indexes.{Keeps}
use Rattle.ecore_meta.specs.Meta.{Meta}
use Rattle.ecore_meta.proofs.FeatureLaws.{all_at, none_named}
use Rattle.ecore_meta.proofs.metamodel.Metamodel.feature_named.Goals as goal

pub returns-in-None : goal.returns-in-None
returns-in-None c =
    let P : Meta → Type 0 = λ meta. Keeps meta c.self.inside.class_index c.self.inside.feature_names c.self.inside.feature_index.items in
    let keeps = subst P c.self.view_is c.self.invariant in
    sym (none_named c.args.self.now keeps.holds.is.lists c.args.class c.args.name.now
    (sym (keeps.by_name c.args.name.now) ∙ sym c.number_in.ensures ∙ c.in-None.is))

pub returns-in-Some : goal.returns-in-Some
returns-in-Some c =
    let P : Meta → Type 0 = λ meta. Keeps meta c.self.inside.class_index c.self.inside.feature_names c.self.inside.feature_index.items in
    let keeps = subst P c.self.view_is c.self.invariant in
    c.feature_of.ensures
    ∙ ap (λ ms. option_and_then (λ m. get nat_cmp m c.in-Some.id) (slice_get ms c.args.class)) c.as_slice.ensures.value
    ∙ all_at c.args.self.now.features c.args.self.now.classes c.self.inside.feature_index.items c.args.class c.in-Some.id c.args.name.now
    keeps.by_feature (sym (keeps.by_name c.args.name.now) ∙ sym c.number_in.ensures ∙ c.in-Some.is)
