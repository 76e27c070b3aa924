-- What each event makes of the working models and of the history.
use Rattle.std.proofs.Common.{◌≡◌, ℕ, zero, suc, ◌-◌, ◌<◌, ◌&&◌, not, nat_lt, List, [], ◌∷◌, ◌++◌, length, take, true, false, Option, None, Some}
use Rattle.std.proofs.Common.{is_some, refl, sym, ◌∙◌, ap, subst, arith}
use Rattle.std.specs.Prelude.{IsTrue, slice_get, unwrap_or}
use Rattle.ecore_meta.specs.Meta.{Meta}
use Rattle.model_state.specs.Names.{is_name}
use Rattle.model_state.specs.State.{nothing}
use Rattle.model_state.specs.Packages.{fold_package}
use Rattle.model_state.specs.Steps.{fold}
use Rattle.model_state.specs.declared.step.Step.{Step}
use Rattle.model_state.specs.declared.operation.Operation.{Operation}
use Rattle.model_state.specs.declared.operation.Operation.TheVariants as operations
use Rattle.history_tree.specs.History.{History, head, with_version, with_branch}
use Rattle.history_tree.specs.Found.{branch_named, has_tag, of_its_version}
use Rattle.history_tree.specs.States.{state_of}
use Rattle.history_tree.proofs.Steady.{head_new}
use Rattle.op_form.specs.declared.event.Event.{Event}
use Rattle.op_form.specs.declared.event.Event.TheVariants.{Edit, Begin, End, Undo, Discard, Branch, Tag}
use Rattle.plain_repository.specs.State.{State, Workspace, Composite as Open, untouched, there, workspace_of, open_steps, model_of, changed_at, is_closed}
use Rattle.plain_repository.specs.Commits.{version_of, committed, with_commit, moved_onto, with_new_branch, is_new_branch}
use Rattle.plain_repository.specs.Metamodels.{meta_of_read}
use Rattle.plain_repository.specs.Edits.{takes, with_more, can_follow}
use Rattle.plain_repository.specs.Composites.{with_open, composed, operation_of_open, with_closed}
use Rattle.plain_repository.specs.Local.{without_last, without_any}
use Rattle.plain_repository.specs.Events.{play, playable, playable_with}
use Rattle.plain_repository.specs.EffectLaws.{InitsBegin, EditsLead, CheckoutsShowVersions, BeginsKeepModels, EndsKeepModels, EndsAreUndone}
use Rattle.plain_repository.specs.EffectLaws.{DiscardsGoBack, DropsTakeAway, CommitsKeepStates, BranchesKeepModels, BranchesStartAtBases}
use Rattle.plain_repository.specs.EffectLaws.{TagsNameVersions}
use Rattle.plain_repository.proofs.Commits as commits
use Rattle.plain_repository.proofs.Encodings.{and_left, and_right, not_so}
use Rattle.plain_repository.proofs.Names.{new_branch_found, new_tag_found}
use Rattle.plain_repository.proofs.Places.{of_number, is_of_number, same_number}
use Rattle.plain_repository.proofs.Reached.{kept, in_order}
use Rattle.plain_repository.proofs.Recorded.{opened_steps, closed_steps}
use Rattle.plain_repository.proofs.Reverting.{more_model}
use Rattle.plain_repository.proofs.Runs.{not_open}
use Rattle.plain_repository.proofs.Undoing.{last_gone}

-- what was tested of an event, by the metamodel that is there
tested : (s : State) (meta : Meta) (e : Event) → s.meta ≡ Some meta → IsTrue (playable s e) → IsTrue (playable_with s (Some meta) e)
unfolding playable
tested s meta e begun could = subst (λ (m : Option Meta). IsTrue (playable_with s m e)) begun (and_right _ (playable_with s s.meta e) could)

before : (s : State) (ws : ℕ) (w : Workspace) → workspace_of s ws ≡ Some w → of_number s.workspaces ws ≡ Some w
before s ws w is = sym (is_of_number s ws) ∙ is

-- ---- the metamodel and edits
pub inits_begin : InitsBegin
unfolding play
inits_begin s text meta is = record { begun = ap meta_of_read is; state = refl; trunk = refl }

has_value : {X : Type 0} (o : Option X) → is_some o ≡ true → (x : X) × (o ≡ Some x)
has_value None is = absurd cc
has_value (Some x) is = (x, refl)

follows : (s : State) (meta : Meta) (w : Workspace) (os : List Operation) → can_follow meta s.history (Some w) os ≡ true
    → is_some (fold_package meta (model_of meta s.history w) os) ≡ true
follows s meta w [] can = absurd cc
follows s meta w (o ∷ os) can = and_right (takes w.composite (o ∷ os)) (is_some (fold_package meta (model_of meta s.history w) (o ∷ os))) can

pub edits_lead : EditsLead
unfolding play
edits_lead s meta ws os w c =
    let can : can_follow meta s.history (Some w) os ≡ true =
    subst (λ (o : Option Workspace). can_follow meta s.history o os ≡ true) c.there (tested s meta (Edit ws os) c.in_state.begun c.could) in
    let led = has_value (fold_package meta (model_of meta s.history w) os) (follows s meta w os can) in
    let runs = (in_order s meta w (record { in_state = c.in_state; ws = ws; there = c.there })).runs in (
      led.0,
      led.1,
      record {
        workspace = with_more os w;
        there = is_of_number (play s (Edit ws os)) ws ∙ same_number (with_more os) s.workspaces ws w (before s ws w c.there);
        model_is = more_model meta s.history os w led.0 runs led.1 w.composite refl;
      },
    )

-- ---- workspaces that are made and dropped
pub last_there : (ws : List (Option Workspace)) (w : Workspace) → there (slice_get (ws ++ Some w ∷ []) (length ws)) ≡ Some w
last_there [] w = refl
last_there (o ∷ ws) w = last_there ws w

pub checkouts_show_versions : CheckoutsShowVersions
unfolding play
checkouts_show_versions s meta has version branch could = record {
  workspace = untouched branch version;
  there = last_there s.workspaces (untouched branch version);
  model_is = refl;
}

gone : (ws : List (Option Workspace)) (n : ℕ) → there (slice_get (changed_at (λ o. None) ws n) n) ≡ None
gone [] n = refl
gone (o ∷ ws) zero = refl
gone (o ∷ ws) (suc n) = gone ws n

pub drops_take_away : DropsTakeAway
unfolding play
drops_take_away s zero = refl
drops_take_away s (suc n) = gone s.workspaces n

-- ---- composites
pub begins_keep_models : BeginsKeepModels
unfolding play
begins_keep_models name s meta ws w c = record {
  workspace = with_open name w;
  there = changed;
  model_is = same;
}
  where
    changed : workspace_of (play s (Begin ws name)) ws ≡ Some (with_open name w)
    changed = is_of_number (play s (Begin ws name)) ws ∙ same_number (with_open name) s.workspaces ws w (before s ws w c.there)

    closed : is_closed (Some w) ≡ true
    closed =
        subst (λ (o : Option Workspace). is_closed o ≡ true) c.there
        (and_right (is_name name) (is_closed (workspace_of s ws)) (tested s meta (Begin ws name) c.in_state.begun c.could))

    same : model_of meta (play s (Begin ws name)).history (with_open name w) ≡ model_of meta s.history w
    same =
        ap (λ (l : List Step). unwrap_or (fold meta (state_of meta s.history w.base) l) nothing)
        (opened_steps w.operations w.composite (not_open w.composite closed))

pub ends_keep_models : EndsKeepModels
unfolding play
ends_keep_models s meta ws w c = record {
  workspace = with_closed w;
  there = is_of_number (play s (End ws)) ws ∙ same_number with_closed s.workspaces ws w (before s ws w c.there);
  model_is = ap (λ (l : List Step). unwrap_or (fold meta (state_of meta s.history w.base) l) nothing) (closed_steps w.operations w.composite);
}

-- the composite is the last operation where it has steps
front_left : (os : List Operation) (name : List ℕ) (steps : List Step) → 0 < length steps
    → take (length (os ++ composed name steps) - 1) (os ++ composed name steps) ≡ os
front_left os name [] some = absurd (omega (arith, some))
front_left os name (s ∷ ss) some = last_gone os (operations.Composite name (s ∷ ss))

closed_gone : (os : List Operation) (o : Option Open) (c : Open) → o ≡ Some c → 0 < length c.steps
    → take (length (os ++ operation_of_open o) - 1) (os ++ operation_of_open o) ≡ os
closed_gone os o c is some =
    subst (λ (o : Option Open). take (length (os ++ operation_of_open o) - 1) (os ++ operation_of_open o) ≡ os) (sym is) (front_left os c.name c.steps some)

pub ends_are_undone : EndsAreUndone
unfolding play
ends_are_undone s ws w composite at is some =
    is_of_number (play (play s (End ws)) (Undo ws)) ws
    ∙ same_number without_last _ ws (with_closed w) (same_number with_closed s.workspaces ws w (before s ws w at))
    ∙ ap (λ (os : List Operation). Some (record { branch = w.branch; base = w.base; operations = os; composite = None; pending = w.pending }))
    (closed_gone w.operations w.composite composite is some)

-- ---- what is local
pub discards_go_back : DiscardsGoBack
unfolding play
discards_go_back s meta ws w c = record {
  workspace = without_any w;
  there = is_of_number (play s (Discard ws)) ws ∙ same_number without_any s.workspaces ws w (before s ws w c.there);
  model_is = refl;
}

-- ---- the history
-- a workspace that was committed is at the state of its base
at_base : (meta : Meta) (h : History) (w : Workspace) (n : ℕ) (c : Option Open) → w.composite ≡ c → is_closed (Some w) ≡ true
    → state_of meta h n ≡ model_of meta h (committed n w)
at_base meta h w n None is closed = ap (λ (c : Option Open). unwrap_or (fold meta (state_of meta h n) (open_steps c)) nothing) (sym is)
at_base meta h w n (Some c) is closed = absurd (by (ap (λ (c : Option Open). not (is_some c)) (sym is) ∙ closed))
  where
    by : false ≡ true → ⊥
    by e = cc

pub commits_keep_states : CommitsKeepStates
unfolding play
commits_keep_states s meta ws signature message w c =
    let n = length s.history.versions in
    let k = kept s meta c.in_state in
    let can = commits.version_could s meta ws signature message w c.in_state.begun c.could c.there in
    let closed = commits.closed s meta k ws w signature message c.there can in
    ap (λ (x : State). state_of meta x.history n)
    (commits.version_effect s ws signature message ∙ ap (λ (o : Option Workspace). with_commit ws signature message o s) c.there)
    ∙ at_base meta (with_version s.history (version_of w signature message)) w n w.composite refl closed
    ∙ commits.commit_model s meta k ws w signature message c.there can

pub moved : (s : State) (ws : ℕ) (name : List ℕ) (w : Workspace) → workspace_of s ws ≡ Some w
    → workspace_of (play s (Branch ws name)) ws ≡ Some (moved_onto (length s.history.branches) w)
unfolding play
moved s ws name w at =
    is_of_number (play s (Branch ws name)) ws
    ∙ ap (λ (o : Option Workspace). of_number (with_new_branch ws name o s).workspaces ws) at
    ∙ same_number (moved_onto (length s.history.branches)) s.workspaces ws w (before s ws w at)

pub branch_more : (s : State) (ws : ℕ) (name : List ℕ) (w : Workspace) → workspace_of s ws ≡ Some w
    → (play s (Branch ws name)).history ≡ with_branch s.history name w.base
unfolding play
branch_more s ws name w at = ap (λ (o : Option Workspace). (with_new_branch ws name o s).history) at

pub branches_keep_models : BranchesKeepModels
branches_keep_models name s meta ws w c =
    let onto = moved_onto (length s.history.branches) w in
    record {
      workspace = onto;
      there = moved s ws name w c.there;
      model_is = ap (λ (h : History). model_of meta h onto) (branch_more s ws name w c.there);
    }

pub branches_start_at_bases : BranchesStartAtBases
branches_start_at_bases s meta ws name w c =
    let h = s.history in
    let named = and_left (is_name name && is_new_branch h name) (is_closed (workspace_of s ws)) (tested s meta (Branch ws name) c.in_state.begun c.could) in
    let more = branch_more s ws name w c.there in
    record {
      workspace = moved_onto (length h.branches) w;
      there = moved s ws name w c.there;
      is_named = ap (λ (g : History). branch_named g name) more ∙ new_branch_found h name w.base (and_right (is_name name) (is_new_branch h name) named);
      head_is = ap (λ (g : History). head g (length h.branches)) more ∙ head_new h (kept s meta c.in_state).whole name w.base;
    }

pub tags_name_versions : TagsNameVersions
unfolding play
tags_name_versions s meta has name version could =
    let h = s.history in
    let front = and_left (is_name name && not (has_tag h name)) (nat_lt version (length h.versions)) (tested s meta (Tag name version) has.begun could) in
    ap (of_its_version (play s (Tag name version)).history)
    (new_tag_found h name version (not_so (has_tag h name) (and_right (is_name name) (not (has_tag h name)) front)))
