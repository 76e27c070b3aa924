-- the three parts of the list, one after another
use Rattle.std.proofs.Common.{◌≡◌, List, [], ◌++◌, ap, ◌∙◌, append_assoc}
use Rattle.ecore_meta.specs.Meta.{Meta}
use Rattle.model_state.specs.Keys.{IdBytes}
use Rattle.model_state.specs.State.{State, nothing}
use Rattle.model_state.specs.Steps.{fold}
use Rattle.model_state.specs.Typing.{is_plain}
use Rattle.model_state.specs.declared.step.Step.{Step}
use Rattle.edit_steps.specs.Deletes.{slots_of, holds_values}
use Rattle.state_steps.specs.Whole.{births, all_filled, all_linked, as_steps, elements_of}
use Rattle.state_steps.proofs.Built.{steps_build}
use Rattle.state_steps.proofs.whole.as_steps.Goals as goal

steps_by : (meta : Meta) (m : State) (ids : List IdBytes) (made new : List Step)
    → made ≡ ((new ++ births m ids) ++ all_filled meta m (slots_of meta m holds_values ids)) ++ all_linked meta m.row (slots_of meta m is_plain ids)
    → new ≡ [] → ids ≡ elements_of meta m → made ≡ as_steps meta m
steps_by meta m ids made new is none all =
    let xs : List IdBytes = elements_of meta m in
    let started : made ≡ (births m ids ++ all_filled meta m (slots_of meta m holds_values ids)) ++ all_linked meta m.row (slots_of meta m is_plain ids) =
    is ∙ ap (λ (l : List Step). ((l ++ births m ids) ++ all_filled meta m (slots_of meta m holds_values ids))
    ++ all_linked meta m.row (slots_of meta m is_plain ids)) none in
    let on_all : made ≡ (births m xs ++ all_filled meta m (slots_of meta m holds_values xs)) ++ all_linked meta m.row (slots_of meta m is_plain xs) =
    started ∙ ap (λ (l : List IdBytes). (births m l ++ all_filled meta m (slots_of meta m holds_values l))
    ++ all_linked meta m.row (slots_of meta m is_plain l)) all in
    on_all ∙ append_assoc (births m xs) (all_filled meta m (slots_of meta m holds_values xs)) (all_linked meta m.row (slots_of meta m is_plain xs))

pub returns-clause-steps : goal.returns-clause-steps
returns-clause-steps g c =
    steps_by c.args.meta.now
    (g.L.Look.state c.args.look.now) c.as_slice.result.now c.build.new.steps c.new-steps.result c.in_ok-build.ensures c.new-steps.ensures
    (c.as_slice.ensures ∙ c.in_ok-elements.ensures)

pub returns-clause-build : goal.returns-clause-build
returns-clause-build g c =
    ap (fold c.args.meta.now nothing) (returns-clause-steps g c)
    ∙ steps_build c.args.meta.now c.recall_soundness.ensures (g.L.Look.state c.args.look.now) c.requires.good
