use Rattle.std.proofs.Common.{◌≡◌, ◌∙◌, Some, sym}
use Rattle.plain_repository.specs.State.{has_operations, is_closed}
use Rattle.plain_repository.proofs.Encodings.{and_left}
use Rattle.repo_state.specs.Keeping.{plain_of}
use Rattle.repo_state.proofs.Models.{last_led, undone_fits}
use Rattle.repo_state.proofs.workspace.Workspace.undo.Goals.{in-None, in-Some-take}
use Rattle.repo_state.proofs.workspace.Workspace.undo.Goals as goal

pub model_before_one-model-requires-clause-led : goal.model_before_one-model-requires-clause-led
model_before_one-model-requires-clause-led c =
    let w = plain_of c.args.self.now in
    let m = c.in-Some-take.model in
    let value = c.take.ensures.value in
    let there = c.in-Some-take.is in
    let model : c.args.self.now.model ≡ Some m = cc in
    last_led c.args.meta.now c.requires.sound c.args._history.now.history w c.pop.new.self.items c.in-Some.operation m
    (and_left (is_closed (Some w)) (has_operations (Some w)) c.requires.can) c.in-Some.ensures.items c.requires.base
    (c.requires.fits m model).0

pub returns-clause-fits : goal.returns-clause-fits
returns-clause-fits c = λ m is. elim c.match-take.branch [
  | in-None w ↦ (let none = w.model-is in absurd cc)
  | in-Some-take w ↦ (
      let value = c.take.ensures.value in
      let there = w.in-Some-take.is in
      let model : c.args.self.now.model ≡ Some w.in-Some-take.model = cc in
      undone_fits c.args.meta.now c.requires.sound c.args._history.now.history c.args.self.now c.pop.new.self.items c.in-Some.operation
      w.in-Some-take.model w.model_before_one-model.result m (sym w.model-is ∙ is)
      w.model_before_one-model.ensures.before w.model_before_one-model.ensures.good c.requires.can c.in-Some.ensures.items c.requires.base
      c.requires.fits model)
]
