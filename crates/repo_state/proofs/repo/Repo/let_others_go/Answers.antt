use Rattle.repo_state.proofs.Changing.{order_same}
use Rattle.repo_state.proofs.Keepers.{all_fit}
use Rattle.repo_state.proofs.repo.Repo.let_others_go.Goals as goal

pub invariant_of-self : goal.invariant_of-self
invariant_of-self c = (
  c.self.invariant.0,
  all_fit c.self.inside.begun c.self.inside.workspaces.items c.let_go.new.workspaces.items c.let_go.ensures.fits c.self.invariant.1,
  order_same c.self.inside.begun c.self.inside.workspaces.items c.let_go.new.workspaces.items c.self.inside.events c.self.inside.end
      c.let_go.ensures.same c.self.invariant.2,
  λ at keeps. c.self.invariant.3 at (c.let_go.ensures.kept at keeps),
  λ at keeps. c.let_go.ensures.sized at (c.put_last.ensures.stays at (c.self.invariant.4 at (c.let_go.ensures.kept at keeps))) keeps,
)
