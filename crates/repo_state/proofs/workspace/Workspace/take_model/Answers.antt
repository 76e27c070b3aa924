use Rattle.std.proofs.Common.{◌≡◌, Some, Option, sym, ap}
use Rattle.std.specs.Prelude.{unwrap_or}
use Rattle.model_state.specs.State.{State, nothing}
use Rattle.repo_state.proofs.workspace.Workspace.take_model.Goals as goal

pub returns-in-Some-clause-model : goal.returns-in-Some-clause-model
returns-in-Some-clause-model c =
    let value = c.take.ensures.value in
    let there = c.in-Some.is in
    let is : c.args.self.now.model ≡ Some c.in-Some.model = cc in
    sym (ap (λ (o : Option State). unwrap_or o nothing) (c.requires.fits c.in-Some.model is).0)
