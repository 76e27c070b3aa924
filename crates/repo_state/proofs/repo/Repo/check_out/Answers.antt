use Rattle.std.proofs.Common.{◌≡◌, ◌∙◌, Option, Some, is_ok, sym, ap, subst}
use Rattle.ecore_meta.specs.Meta.{Meta}
use Rattle.plain_repository.specs.State.{State}
use Rattle.plain_repository.specs.Orderly.{IsOrderly}
use Rattle.repo_state.specs.Keeping.{meta_of}
use Rattle.repo_state.specs.Sizes.{sized}
use Rattle.repo_state.proofs.Effects.{pushed_fit, pushed_order}
use Rattle.repo_state.proofs.Keepers.{keepers_pushed}
use Rattle.repo_state.proofs.repo.Repo.check_out.Goals as goal

abbrev meta_in : State → Option Meta
meta_in s = s.meta

pub invariant_of-self : goal.invariant_of-self
invariant_of-self c =
    let s = c.args.self.now in
    let meta = c.in-Some._begun.meta in
    let is_begun : s.meta ≡ Some meta = sym (ap meta_in c.self.view_is) ∙ ap meta_of c.in-Some.is in (
      c.self.invariant.0,
      pushed_fit c.self.inside.begun c.self.inside.workspaces.items c.push.new.self.items c.new.result
          (is_ok c.push.result) c.new.ensures.model c.push.ensures.items c.self.invariant.1,
      pushed_order c.self.inside.begun c.self.inside.workspaces.items c.push.new.self.items c.self.inside.events c.self.inside.end s meta c.new.result
          (is_ok c.push.result) c.args.version c.args.branch c.self.view_is is_begun
          c.requires.could c.requires.spelled (subst IsOrderly c.self.view_is c.self.invariant.2) c.new.ensures.untouched c.push.ensures.items,
      keepers_pushed c.self.inside.recent c.self.inside.workspaces.items c.push.new.self.items c.new.result
          (is_ok c.push.result) c.new.ensures.model c.push.ensures.items c.self.invariant.3,
      keepers_pushed (sized c.self.inside.sizes.sizes.items) c.self.inside.workspaces.items c.push.new.self.items c.new.result
          (is_ok c.push.result) c.new.ensures.model c.push.ensures.items c.self.invariant.4,
    )
