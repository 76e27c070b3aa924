use Rattle.std.proofs.Common.{◌∙◌, sym, ap, false}
use Rattle.std.specs.Option.{option_map_or}
use Rattle.ecore_meta.specs.Meta.{is_a}
use Rattle.ecore_meta.specs.declared.meta.Feature.{Feature}
use Rattle.ecore_meta.proofs.DeclaredLaws.{has_declared}
use Rattle.ecore_meta.proofs.metamodel.Metamodel.has_feature.Goals as goal

pub returns-in-None : goal.returns-in-None
returns-in-None c =
    sym (has_declared c.args.self.now c.recall_promises.ensures.lists c.args.c c.args.f
    ∙ ap (λ o. option_map_or (λ (x : Feature). is_a c.args.self.now c.args.c x.owner) o false) (sym c.in-None.ensures))

pub returns-in-Some : goal.returns-in-Some
returns-in-Some c =
    c.is_a.ensures
    ∙ sym (has_declared c.args.self.now c.recall_promises.ensures.lists c.args.c c.args.f
    ∙ ap (λ o. option_map_or (λ (x : Feature). is_a c.args.self.now c.args.c x.owner) o false) (sym c.in-Some.ensures))
