use Rattle.std.proofs.Common.{◌≡◌, true, false, None, refl, subst}
use Rattle.op_form.specs.declared.event.Event.TheVariants.{Drop}
use Rattle.plain_repository.specs.Orderly.{IsOrderly}
use Rattle.repo_state.specs.Sizes.{sized}
use Rattle.repo_state.proofs.Changing.{fit_set}
use Rattle.repo_state.proofs.Effects.{begun_is, effect_orderly, number_set}
use Rattle.repo_state.proofs.Keepers.{keepers_gone, keepers_set}
use Rattle.repo_state.proofs.repo.Repo.drop_workspace.Goals as goal

pub invariant_of-self : goal.invariant_of-self
invariant_of-self c =
    let s = c.args.self.now in
    let begun = c.in-Some-begun._begun in
    let is_begun = begun_is c.self.inside.begun begun _ c.self.inside.events c.self.inside.end s c.self.view_is c.in-Some-begun.is in (
      c.self.invariant.0,
      fit_set c.self.inside.begun begun c.self.inside.workspaces.items c.in-Some.at None c.in-Some-begun.is tt c.self.invariant.1,
      effect_orderly s _ begun.meta (Drop c.args.ws) is_begun c.requires.could c.requires.spelled (subst IsOrderly c.self.view_is c.self.invariant.2)
          (number_set (λ o. None) c.self.inside.begun c.self.inside.workspaces.items c.self.inside.events c.self.inside.end s c.args.ws c.in-Some.at
          None None c.self.view_is c.in-Some.ensures.there.0 c.in-Some.ensures.there.1 refl),
      keepers_set c.self.inside.recent c.self.inside.workspaces.items c.in-Some.at None
          (λ keeps. let clash : false ≡ true = keeps in absurd cc) c.self.invariant.3,
      keepers_gone (sized c.self.inside.sizes.sizes.items) (sized c.forget.new.self.sizes.items) c.self.inside.workspaces.items c.in-Some.at
          c.forget.ensures.stays c.self.invariant.4,
    )

pub returns : goal.returns
returns c = record {
  done = number_set (λ o. None) c.self.inside.begun c.self.inside.workspaces.items c.self.inside.events c.self.inside.end c.args.self.now c.args.ws
      c.in-Some.at None None c.self.view_is c.in-Some.ensures.there.0 c.in-Some.ensures.there.1 refl;
}
