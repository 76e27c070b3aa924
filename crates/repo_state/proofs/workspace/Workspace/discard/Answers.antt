use Rattle.std.proofs.Common.{◌∙◌, ap}
use Rattle.plain_repository.specs.State.{Workspace, folded}
use Rattle.repo_state.specs.Keeping.{plain_of}
use Rattle.repo_state.proofs.Models.{closed_folded, fits_same}
use Rattle.repo_state.proofs.workspace.Workspace.discard.Goals as goal

pub rewind-model-requires-clause-fits : goal.rewind-model-requires-clause-fits
rewind-model-requires-clause-fits c =
    let meta = c.args.meta.now in
    let h = c.args.history.now.history in
    fits_same meta h h c.args.self.now c.close_composite.new.self
    (ap (λ (w : Workspace). folded meta h w) c.in-Ok.ensures.closed ∙ closed_folded meta h (plain_of c.args.self.now))
    c.close_composite.ensures.model c.requires.fits
