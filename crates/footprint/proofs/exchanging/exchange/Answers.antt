-- The two in the other order lead where they lead in their own.
use Rattle.std.proofs.Common.{◌∙◌, sym, ap}
use Rattle.model_state.specs.Steps.{fold}
use Rattle.footprint.proofs.Runs.{turned_run, second_first}
use Rattle.footprint.proofs.exchanging.exchange.Goals as goal

pub returns-clause-done : goal.returns-clause-done
returns-clause-done g c =
    let meta = c.args.meta.now in
    let m = g.M.Look.state c.args.model.now in
    let n = g.M.Look.state c.take_steps.new.model in
    second_first meta c.recall_soundness.ensures c.args.first.now c.args.second.now m n
    (g.M.Look.state c.take_steps-2.new.model) c.requires.good c.requires.apart c.requires.possible
    (ap (fold meta m) (sym c.steps.ensures) ∙ c.in_ok-take_steps.ensures.done)
    (ap (fold meta n) (sym c.steps-2.ensures) ∙ c.in_ok-take_steps-2.ensures.done)

pub returns-clause-swapped : goal.returns-clause-swapped
returns-clause-swapped g c =
    let meta = c.args.meta.now in
    let m = g.M.Look.state c.args.model.now in
    let n = g.M.Look.state c.take_steps.new.model in
    turned_run meta c.args.first.now c.args.second.now m n (g.M.Look.state c.take_steps-2.new.model)
    (ap (fold meta m) (sym c.steps.ensures) ∙ c.in_ok-take_steps.ensures.done)
    (ap (fold meta n) (sym c.steps-2.ensures) ∙ c.in_ok-take_steps-2.ensures.done)
