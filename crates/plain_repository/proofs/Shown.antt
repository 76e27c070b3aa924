-- What is shown of a workspace goes by the metamodel, the state of its base and what is recorded in it.
use Rattle.std.proofs.Common.{◌≡◌, ℕ, List, [], ◌∷◌, ◌++◌, Option, Some, refl, sym, ◌∙◌, ap, subst}
use Rattle.std.specs.Prelude.{IsTrue, unwrap_or}
use Rattle.ecore_meta.specs.Meta.{Meta}
use Rattle.model_texts.specs.Tree.{text}
use Rattle.shown_lines.specs.Lines.{operation_lines}
use Rattle.shown_lines.specs.Validation.{validate_lines}
use Rattle.model_state.specs.State as models
use Rattle.model_state.specs.State.{nothing}
use Rattle.model_state.specs.Steps.{fold}
use Rattle.model_state.specs.Packages.{fold_package, steps_all}
use Rattle.model_state.specs.declared.operation.Operation.{Operation}
use Rattle.history_tree.specs.History.{History}
use Rattle.script_lang.specs.declared.command.Command.TheVariants as commands
use Rattle.plain_repository.specs.State.{State, Workspace, Composite as Open, workspace_of, open_steps, model_of}
use Rattle.plain_repository.specs.Answers.{Decision, told}
use Rattle.plain_repository.specs.Views.{lines_of_open, changes_in, decide_changes, show_in, decide_show, validate_in, decide_validate}
use Rattle.plain_repository.specs.Events.{play, playable, playable_with}
use Rattle.plain_repository.specs.Repository.{decide_with, decide_command}
use Rattle.plain_repository.specs.Laws.{IsThere, shown_as, LookAlike, ShownByOwn, ShownApart}
use Rattle.plain_repository.proofs.Apart.{workspaces_stay_apart, effect_leaves}
use Rattle.plain_repository.proofs.Encodings.{and_right}
use Rattle.plain_repository.proofs.Reached.{in_order}

-- what is shown of a model and of what is recorded
abbrev views : Meta → models.State → List Operation → Option Open → List Decision
views meta m operations composite =
    told (text meta m ∷ []) [] ∷ told (operation_lines meta operations ++ lines_of_open meta composite) [] ∷ told (validate_lines meta m) [] ∷ []

module _ (s : State) (meta : Meta) (begun : s.meta ≡ Some meta) (block : Option (List ℕ)) (ws : ℕ) (w : Workspace) (there : workspace_of s ws ≡ Some w) where
  -- where the workspace is there, these are its replies
  pub shown_so : shown_as s block ws ≡ views meta (model_of meta s.history w) w.operations w.composite
  unfolding decide_command decide_show decide_changes decide_validate
  shown_so =
      ap (λ (m : Option Meta).
      decide_with s m block (commands.Show ws) ∷ decide_with s m block (commands.Changes ws) ∷ decide_with s m block (commands.Validate ws) ∷ [])
      begun
      ∙ ap (λ (o : Option Workspace). show_in meta s.history o ∷ changes_in meta o ∷ validate_in meta s.history o ∷ []) there

-- models of the same steps from the same state
pub alike_models : (meta : Meta) (h g : History) (w v : Workspace) → LookAlike meta h g w v → model_of meta h w ≡ model_of meta g v
alike_models meta h g w v a = λ i. unwrap_or (fold meta (a.state i) (steps_all (a.operations i) ++ open_steps (a.composite i))) nothing

pub shown_by_own : ShownByOwn
shown_by_own s t meta first second ws k w v here there a block more =
    shown_so s meta first block ws w here
    ∙ (λ i. views meta (alike_models meta s.history t.history w v a i) (a.operations i) (a.composite i))
    ∙ sym (shown_so t meta second more k v there)

pub shown_apart : ShownApart
unfolding play playable
shown_apart s meta has ws w there e could apart stays block =
    let t : IsThere s meta w = record { in_state = has; ws = ws; there = there } in
    let could_with : IsTrue (playable_with s (Some meta) e) =
    subst (λ (m : Option Meta). IsTrue (playable_with s m e)) has.begun (and_right _ (playable_with s s.meta e) could) in
    let leaves = effect_leaves meta s w (in_order s meta w t).stands.base e could_with in
    shown_by_own (play s e) s meta stays has.begun ws ws w w (workspaces_stay_apart s ws w there e apart) there
    (record {
      operations = refl;
      composite = refl;
      state = ap (λ (os : List Operation). unwrap_or (fold_package meta nothing os) nothing) leaves;
    })
    block block
