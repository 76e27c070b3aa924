use Rattle.repo_state.proofs.Changing.{order_same}
use Rattle.repo_state.proofs.Keepers.{all_fit, keepers_out}
use Rattle.repo_state.specs.Sizes.{sized}
use Rattle.repo_state.proofs.repo.Repo.touch.Goals as goal

pub invariant_of-self-2 : goal.invariant_of-self-2
invariant_of-self-2 c = (
  c.self.invariant.0,
  all_fit c.self.inside.begun c.self.inside.workspaces.items c.forget.new.workspaces.items c.forget.ensures.fits c.self.invariant.1,
  order_same c.self.inside.begun c.self.inside.workspaces.items c.forget.new.workspaces.items c.self.inside.events c.self.inside.end
      c.forget.ensures.same c.self.invariant.2,
  keepers_out c.self.inside.recent c.note.new.self c.in_ok-out.out c.self.inside.workspaces.items c.forget.new.workspaces.items
      c.in_ok-out.ensures.stays c.forget.ensures.gone c.self.invariant.3,
  keepers_out (sized c.self.inside.sizes.sizes.items) (sized c.forget-2.new.self.sizes.items) c.in_ok-out.out c.self.inside.workspaces.items
      c.forget.new.workspaces.items c.forget-2.ensures.stays c.forget.ensures.gone c.self.invariant.4,
)
