-- An event of another workspace leaves this one, and its model; and an event is of one workspace at most.
use Rattle.std.proofs.Common.{◌≡◌, ◌≢◌, ℕ, ◌<◌, List, nat_eq, true, false, length, Option, None, Some, refl, sym, ◌∙◌, ap, subst, true≢false}
use Rattle.std.specs.Prelude.{IsTrue, unwrap_or}
use Rattle.std.specs.Option.{option_map_or}
use Rattle.std.proofs.lemmas.Bool.{eqb-true}
use Rattle.std.proofs.lemmas.Option.{same_Some}
use Rattle.ecore_meta.specs.Meta.{Meta}
use Rattle.model_state.specs.State.{nothing}
use Rattle.model_state.specs.Steps.{fold}
use Rattle.model_state.specs.Packages.{fold_package}
use Rattle.model_state.specs.declared.operation.Operation.{Operation}
use Rattle.history_tree.specs.History.{History}
use Rattle.history_tree.specs.States.{operations_to}
use Rattle.history_tree.proofs.Heads as heads
use Rattle.history_tree.proofs.Steady.{operations_kept}
use Rattle.op_form.specs.declared.event.Event.{Event}
use Rattle.plain_repository.specs.State.{State, Workspace, recorded_steps, model_of, changed_by_number}
use Rattle.ecore_meta.specs.Promised.{IsMetamodel}
use Rattle.plain_repository.specs.Metamodels.{grown}
use Rattle.plain_repository.specs.Orderly.{IsOrderlyWorkspace}
use Rattle.plain_repository.specs.Commits.{version_of}
use Rattle.plain_repository.specs.Changes.{Change, applied, workspace_with, first_text}
use Rattle.plain_repository.specs.Events.{change_of, effect, meta_after, play, playable, playable_with}
use Rattle.plain_repository.specs.Laws.{EventsAreOfOne, SomeAreOfNone, WorkspacesStayApart, ModelsStayApart}
use Rattle.plain_repository.proofs.Encodings.{and_right}
use Rattle.plain_repository.proofs.Evolving.{grown_is, model_stays, by_growth}
use Rattle.plain_repository.proofs.Kept.{meta_left}
use Rattle.plain_repository.proofs.Places.{of_number, is_of_number, other_number, more_number}
use Rattle.plain_repository.proofs.Reached.{in_order, kept}
use Rattle.plain_repository.proofs.Shapes.{by_history, by_workspaces, is_later}

-- numbers that a test finds same_workspace differ
pub differ : (k n : ℕ) → nat_eq k n ≡ false → k ≢ n
differ k n is e = true≢false (sym (heads.same_number k) ∙ ap (λ m. nat_eq k m) e ∙ is)

module _ (s : State) (ws : ℕ) (w : Workspace) (there : of_number s.workspaces ws ≡ Some w) where
  left : (change : Option Workspace → Option Workspace) (k : ℕ) → nat_eq k ws ≡ false → of_number (changed_by_number change s.workspaces k) ws ≡ Some w
  left change k apart = other_number change s.workspaces k ws (differ k ws apart) ∙ there

  change_apart : (c : Change) → option_map_or (λ k. nat_eq k ws) (workspace_with c) false ≡ false → of_number (applied c s).workspaces ws ≡ Some w
  change_apart c apart =
      by_workspaces s (λ l. of_number l ws ≡ Some w) there (λ v. more_number s.workspaces (Some v) ws w there) c
      (λ k of is none. left of k (subst (λ o. option_map_or (λ k. nat_eq k ws) o false ≡ false) is apart))

pub workspaces_stay_apart : WorkspacesStayApart
unfolding play
workspaces_stay_apart s ws w there e apart =
    is_of_number (play s e) ws ∙ change_apart s ws w (sym (is_of_number s ws) ∙ there) (change_of e) apart

-- ---- models
-- a history in which the operations up to a base are the same leads to the same model
pub same_model : (meta : Meta) (g h : History) (w : Workspace) → operations_to g w.base ≡ operations_to h w.base → model_of meta g w ≡ model_of meta h w
same_model meta g h w same =
    ap (λ (os : List Operation). unwrap_or (fold meta (unwrap_or (fold_package meta nothing os) nothing) (recorded_steps w)) nothing) same

change_leaves : (s : State) (v : ℕ) → v < length s.history.versions → (c : Change) → first_text c ≡ None
    → operations_to (applied c s).history v ≡ operations_to s.history v
change_leaves s v within c later =
    by_history s (λ h. operations_to h v ≡ operations_to s.history v) refl (λ name start. refl) (λ name version. refl) c later
    (λ ws signature message is w. operations_kept s.history (version_of w signature message) v within)

pub effect_leaves : (meta : Meta) (s : State) (w : Workspace) → w.base < length s.history.versions → (e : Event)
    → IsTrue (playable_with s (Some meta) e) → operations_to (effect s e).history w.base ≡ operations_to s.history w.base
effect_leaves meta s w within e could = change_leaves s w.base within (change_of e) (is_later s meta e could)

-- what was asked of an event, by the metamodel that is there
pub asked : (s : State) (meta : Meta) (e : Event) → s.meta ≡ Some meta → IsTrue (playable s e) → IsTrue (playable_with s (Some meta) e)
unfolding playable
asked s meta e begun could = subst (λ (m : Option Meta). IsTrue (playable_with s m e)) begun (and_right _ (playable_with s s.meta e) could)

-- the metamodel that is there after an event
pub meta_now : (s : State) (meta now : Meta) (e : Event) → s.meta ≡ Some meta → IsTrue (playable s e) → (play s e).meta ≡ Some now → now ≡ meta_after meta e
unfolding play
meta_now s meta now e begun could is = same_Some now (meta_after meta e) (sym is ∙ meta_left s meta e begun (asked s meta e begun could))

-- an event leaves the model of each workspace, with the metamodel that is there then
effect_model_stays : (meta : Meta) (s : State) (w : Workspace) → IsMetamodel meta → IsOrderlyWorkspace meta s.history w → (e : Event)
    → IsTrue (playable_with s (Some meta) e)
    → model_of (meta_after meta e) (effect s e).history w ≡ model_of meta s.history w
effect_model_stays meta s w is q =
    by_growth meta (λ e. IsTrue (playable_with s (Some meta) e) → model_of (meta_after meta e) (effect s e).history w ≡ model_of meta s.history w)
    (λ text could. model_stays meta (grown text meta) (grown_is meta text is could) s.history w q.runs)
    (λ e same could. ap (λ (m : Meta). model_of m (effect s e).history w) same
    ∙ same_model meta (effect s e).history s.history w (effect_leaves meta s w q.stands.base e could))

pub models_stay_apart : ModelsStayApart
unfolding play
models_stay_apart s meta now w t e could is =
    ap (λ (m : Meta). model_of m (effect s e).history w) (meta_now s meta now e t.in_state.begun could is)
    ∙ effect_model_stays meta s w (kept s meta t.in_state).metamodel (in_order s meta w t) e (asked s meta e t.in_state.begun could)

-- ---- which events are of a workspace
same_workspace : (k ws n : ℕ) → nat_eq k ws ≡ true → nat_eq k n ≡ true → ws ≡ n
same_workspace k ws n first second = sym (eqb-true k ws first) ∙ eqb-true k n second

pub events_are_of_one : EventsAreOfOne
events_are_of_one e ws n first second = by (workspace_with (change_of e)) first second
  where
    by : (o : Option ℕ) → option_map_or (λ k. nat_eq k ws) o false ≡ true → option_map_or (λ k. nat_eq k n) o false ≡ true → ws ≡ n
    by None first second = absurd cc
    by (Some k) first second = same_workspace k ws n first second

pub some_are_of_none : SomeAreOfNone
some_are_of_none = record {
  init = λ text ws. refl;
  checkout = λ version branch ws. refl;
  tag = λ name version ws. refl;
  evolve =
      λ text ws. refl;
  upgrade = λ ws. refl;
}
