-- A package that is tried on the working model of a workspace.
use Rattle.std.proofs.Common.{◌≡◌, ◌≢◌, ℕ, true, false, List, [], ◌∷◌, length, Option, None, Some, Result, Ok, Err, is_some, refl, sym, ◌∙◌, ap, subst}
use Rattle.std.specs.Prelude.{◌&&◌, IfOk, option_map}
use Rattle.std.proofs.lemmas.Option.{same_Some}
use Rattle.ecore_meta.specs.Meta.{Meta}
use Rattle.model_state.specs.Good.{Good}
use Rattle.model_state.specs.Packages.{fold_package, steps_all}
use Rattle.model_state.specs.State as models
use Rattle.model_state.specs.Steps.{first_stop}
use Rattle.model_state.specs.declared.operation.Operation.{Operation}
use Rattle.model_state.specs.declared.step.ApplyFault.{ApplyFault}
use Rattle.op_form.specs.declared.event.Event.TheVariants.{Edit}
use Rattle.op_reading.specs.Events.{whole_of}
use Rattle.op_reading.specs.Packages.{package_at}
use Rattle.script_lang.specs.declared.reply.Refusal.TheVariants as refusals
use Rattle.version_states.proofs.Stopping.{none_stops}
use Rattle.plain_repository.specs.Answers.{refused}
use Rattle.plain_repository.specs.Applying.{applied, apply_read, decide_apply, with_operations}
use Rattle.plain_repository.specs.Edits.{takes}
use Rattle.plain_repository.specs.Events.{playable_with}
use Rattle.plain_repository.specs.State.{State, Workspace, is_closed, is_open, model_of, workspace_of}
use Rattle.plain_repository.proofs.Runs.{not_open}
use Rattle.repo_state.specs.Working.{IsWorkingModel}
use Rattle.repo_answers.specs.Needs.{IsStop, takes_in}
use Rattle.repo_answers.proofs.Playable.{takes_closed}
use Rattle.repo_answers.proofs.Reverted.{edit_by}

-- ---- where it stops
abbrev place_of : Option ApplyFault → Option ℕ
place_of o = option_map (λ (x : ApplyFault). x.at) o

-- what was found on the working model
stop_by : (s : State) (ws : ℕ) (meta : Meta) (m : models.State) (os xs : List Operation) (found : Option ℕ) → s.meta ≡ Some meta
    → IsWorkingModel s ws m → xs ≡ os → found ≡ place_of (first_stop meta m (steps_all xs)) → IsStop s ws os found
stop_by s ws meta m os xs found begun working same is n w is_begun there =
    is ∙ ap (λ (l : List Operation). place_of (first_stop meta m (steps_all l))) same
    ∙ subst (λ (x : Meta). place_of (first_stop meta m (steps_all os)) ≡ place_of (first_stop x (model_of x s.history w) (steps_all os)))
    (same_Some meta n (sym begun ∙ is_begun))
    (ap (λ (y : models.State). place_of (first_stop meta y (steps_all os))) (working meta w begun there).0)

pub stops_by : {E : Type 0} (s : State) (ws : ℕ) (meta : Meta) (m : models.State) (os xs : List Operation) (r : Result (Option ℕ) E)
    → s.meta ≡ Some meta → IsWorkingModel s ws m → xs ≡ os → IfOk r (λ found. found ≡ place_of (first_stop meta m (steps_all xs)))
    → IfOk r (λ found. IsStop s ws os found)
stops_by s ws meta m os xs (Ok found) begun working same is = stop_by s ws meta m os xs found begun working same is
stops_by s ws meta m os xs (Err e) begun working same is = tt

-- the working model of a workspace that is there is good
good_by : (s : State) (ws : ℕ) (meta : Meta) (m : models.State) (o : Option Workspace) → s.meta ≡ Some meta → workspace_of s ws ≡ o → is_some o ≡ true
    → IsWorkingModel s ws m → Good meta m
good_by s ws meta m None begun at there working = absurd cc
good_by s ws meta m (Some w) begun at there working = (working meta w begun at).1

pub model_good : (s : State) (ws : ℕ) (meta : Meta) (m : models.State) → s.meta ≡ Some meta → is_some (workspace_of s ws) ≡ true
    → IsWorkingModel s ws m → Good meta m
model_good s ws meta m begun there working = good_by s ws meta m (workspace_of s ws) begun refl there working

-- ---- what is answered
pub none_applied : (s : State) (ws : ℕ) (os : List Operation) (o : Option ApplyFault) → None ≡ place_of o → with_operations s ws os ≡ applied s ws os o
none_applied s ws os None is = refl
none_applied s ws os (Some x) is = absurd cc

pub some_applied : (s : State) (ws : ℕ) (os : List Operation) (n : ℕ) (o : Option ApplyFault) → Some n ≡ place_of o
    → refused (refusals.NotApplicable n) ≡ applied s ws os o
some_applied s ws os n None is = absurd cc
some_applied s ws os n (Some x) is = ap (λ (k : ℕ). refused (refusals.NotApplicable k)) (same_Some n x.at is)

-- what is answered to the bytes of a package, where no composite is open
pub apply_goes : (s : State) (meta : Meta) (ws : ℕ) (w : Workspace) (bytes : List ℕ) → workspace_of s ws ≡ Some w → is_open (Some w) ≡ false
    → apply_read s meta ws w (whole_of package_at bytes) ≡ decide_apply s meta ws bytes
unfolding decide_apply
apply_goes s meta ws w bytes there closed = sym (rw (there, closed) refl)

-- ---- a package that can be taken could be recorded
applied_could : (s : State) (meta : Meta) (ws : ℕ) (w : Workspace) → s.meta ≡ Some meta → workspace_of s ws ≡ Some w → (os : List Operation)
    → takes w.composite os ≡ true → is_some (fold_package meta (model_of meta s.history w) os) ≡ true → length os ≢ 0
    → playable_with s s.meta (Edit ws os) ≡ true
applied_could s meta ws w begun there [] fits taken some = absurd (some refl)
applied_could s meta ws w begun there (o ∷ os) fits taken some = edit_by s meta ws w (o ∷ os) begun there (λ i. fits i && taken i)

could_by : (s : State) (ws : ℕ) (os : List Operation) (m : Option Meta) (o : Option Workspace) → s.meta ≡ m → workspace_of s ws ≡ o → is_some m ≡ true
    → takes_in o os ≡ true → IsStop s ws os None → length os ≢ 0 → playable_with s s.meta (Edit ws os) ≡ true
could_by s ws os None o begun there some fits stop many = absurd cc
could_by s ws os (Some meta) None begun there some fits stop many = absurd cc
could_by s ws os (Some meta) (Some w) begun there some fits stop many =
    applied_could s meta ws w begun there os fits (none_stops meta (model_of meta s.history w) os (stop meta w begun there)) many

pub could_apply : (s t : State) (ws : ℕ) (os : List Operation) → t ≡ s → is_some s.meta ≡ true → takes_in (workspace_of s ws) os ≡ true
    → IsStop s ws os None → length os ≢ 0 → playable_with t t.meta (Edit ws os) ≡ true
could_apply s t ws os same some fits stop many =
    subst (λ (x : State). playable_with x x.meta (Edit ws os) ≡ true) (sym same) (could_by s ws os s.meta (workspace_of s ws) refl refl some fits stop many)

-- a workspace that takes operations is there
pub taken_there : (o : Option Workspace) (os : List Operation) → takes_in o os ≡ true → is_some o ≡ true
taken_there None os fits = absurd cc
taken_there (Some w) os fits = refl

-- one in which no composite is open takes any
pub closed_takes : (o : Option Workspace) (os : List Operation) → is_closed o ≡ true → takes_in o os ≡ true
closed_takes None os closed = absurd cc
closed_takes (Some w) os closed = takes_closed w.composite (not_open w.composite closed) os
