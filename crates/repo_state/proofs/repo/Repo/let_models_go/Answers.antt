use Rattle.repo_state.specs.Sizes.{sized}
use Rattle.repo_state.proofs.Changing.{order_same}
use Rattle.repo_state.proofs.Keepers.{all_fit, none_among}
use Rattle.repo_state.proofs.repo.Repo.let_models_go.Goals as goal

pub invariant_of-self : goal.invariant_of-self
invariant_of-self c = (
  c.self.invariant.0,
  all_fit c.self.inside.begun c.self.inside.workspaces.items c.forget_all.new.workspaces.items c.forget_all.ensures.fits c.self.invariant.1,
  order_same c.self.inside.begun c.self.inside.workspaces.items c.forget_all.new.workspaces.items c.self.inside.events c.self.inside.end
      c.forget_all.ensures.same c.self.invariant.2,
  none_among c.self.inside.recent c.forget_all.new.workspaces.items c.forget_all.ensures.none,
  none_among (sized c.clear.new.self.sizes.items) c.forget_all.new.workspaces.items c.forget_all.ensures.none,
)
