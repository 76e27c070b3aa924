use Rattle.std.proofs.Common.{subst}
use Rattle.op_form.specs.declared.event.Event.TheVariants.{Evolve}
use Rattle.plain_repository.specs.Orderly.{IsOrderly}
use Rattle.repo_state.proofs.Effects.{begun_is, effect_orderly}
use Rattle.repo_state.proofs.Evolved.{evolve_done, evolve_fit}
use Rattle.repo_state.proofs.repo.Repo.evolve.Goals as goal

pub invariant_of-self : goal.invariant_of-self
invariant_of-self c =
    let s = c.args.self.now in
    let begun = c.in-Some.begun in
    let text = c.args.text.now in
    let meta = c.in_ok-meta.meta in
    let is_begun = begun_is c.self.inside.begun begun _ c.self.inside.events c.self.inside.end s c.self.view_is c.in-Some.is in
    let orderly = subst IsOrderly c.self.view_is c.self.invariant.2 in (
      c.self.invariant.0,
      evolve_fit c.self.inside.begun begun c.self.inside.workspaces.items c.self.inside.events c.self.inside.end s c.self.view_is c.in-Some.is orderly
          c.self.invariant.1 text meta c.in_ok-meta.ensures.could c.in_ok-meta.ensures.grown,
      effect_orderly s _ begun.meta (Evolve text) is_begun c.in_ok-meta.ensures.could c.requires.spelled orderly
          (evolve_done c.self.inside.begun begun c.self.inside.workspaces.items c.self.inside.events c.self.inside.end s c.self.view_is c.in-Some.is
          orderly c.self.invariant.1 text meta c.in_ok-meta.ensures.grown),
      c.self.invariant.3,
      c.self.invariant.4,
    )
