-- Where each event leaves a workspace.
use Rattle.std.proofs.Common.{◌≡◌, ℕ, ◌-◌, ◌<◌, ◌&&◌, not, nat_eq, List, [], ◌∷◌, ◌++◌, map, length, take, Bool}
use Rattle.std.proofs.Common.{true, Option, None, Some, is_some, refl, sym, ◌∙◌, ap, subst, arith, append-nil, append_assoc, length-append}
use Rattle.std.specs.Prelude.{IsTrue, option_map}
use Rattle.std.specs.List.{flat_map}
use Rattle.std.proofs.lemmas.Bool.{ltb-true}
use Rattle.std.proofs.lemmas.Option.{none-some, same_Some}
use Rattle.command_runs.specs.Runs.{played}
use Rattle.ecore_meta.specs.Meta.{Meta}
use Rattle.model_state.specs.Names.{is_name}
use Rattle.model_state.specs.Packages.{steps_all}
use Rattle.model_state.specs.declared.step.Step.{Step}
use Rattle.model_state.specs.declared.operation.Operation.{Operation}
use Rattle.model_state.specs.declared.operation.Operation.TheVariants as operation
use Rattle.history_tree.specs.declared.version.Signature.{Signature}
use Rattle.history_tree.specs.declared.version.Version.{Version}
use Rattle.history_tree.specs.History.{History, first_version, head}
use Rattle.history_tree.proofs.Heads.{head_more}
use Rattle.merge_laws.specs.Choices.{are_choices}
use Rattle.merge_laws.specs.Plans.{theirs_of_update}
use Rattle.merge_laws.specs.Tidy.{is_tidy}
use Rattle.merge_laws.proofs.ChoiceLaws.{updates_go_by_letters, merges_go_by_letters}
use Rattle.op_form.specs.declared.event.Event.{Event}
use Rattle.op_form.specs.declared.event.Event.TheVariants.{Init, Edit, Begin, End, Undo, Discard, Tidy, Branch, Update, Merge}
use Rattle.plain_repository.specs.State.{State, Workspace, Composite as Open, untouched, workspace_of, is_closed, is_open, has_operations}
use Rattle.plain_repository.specs.Commits.{version_of, version_event, committed, with_commit, moved_onto, is_new_branch}
use Rattle.plain_repository.specs.Edits.{added, with_more}
use Rattle.plain_repository.specs.Composites.{with_open, composed, operation_of_open, with_closed}
use Rattle.plain_repository.specs.Local.{without_last, can_undo, without_any}
use Rattle.plain_repository.specs.Tidying.{tidied, can_tidy}
use Rattle.plain_repository.specs.Merging.{update_buckets, updated, can_update, merge_buckets, merge_tail, merged_with, is_other_branch, has_theirs, can_merge}
use Rattle.plain_repository.specs.Events.{by_meta, effect, play, playable, playable_with}
use Rattle.plain_repository.specs.EffectLaws.{CouldBeIn}
use Rattle.plain_repository.specs.Standing.{Leaves, StandsStill, IsUntouched, IsEdited, EditsStand, BeginsStand, HasEnded, EndsStand}
use Rattle.plain_repository.specs.Standing.{CompositesAreOne, UndosStand, DiscardsStand, TidiesStand, CheckoutsStand}
use Rattle.plain_repository.specs.Standing.{BranchesStand, UpdatesStand, MergesStand, IsCommitted, CommitsStand, SignedStand}
use Rattle.plain_repository.specs.Standing.{Starts, InitsStand}
use Rattle.plain_repository.specs.Orderly.{AllOrderly}
use Rattle.plain_repository.proofs.Apart.{asked}
use Rattle.plain_repository.proofs.Commits as commits
use Rattle.plain_repository.proofs.Effects.{last_there, moved, branch_more}
use Rattle.plain_repository.proofs.Encodings.{and_left, and_right}
use Rattle.plain_repository.proofs.Places.{of_number, is_of_number, same_number}
use Rattle.plain_repository.proofs.Reached.{kept}

-- ---- an event of a workspace that is there
-- its test, of the workspace that is there
tested : (s : State) (meta : Meta) (ws : ℕ) (w : Workspace) (e : Event) → CouldBeIn s meta ws w e → (test : Option Workspace → Bool)
    → (IsTrue (playable_with s (Some meta) e) → test (workspace_of s ws) ≡ true) → test (Some w) ≡ true
tested s meta ws w e c test asks = subst (λ (o : Option Workspace). test o ≡ true) c.there (asks (asked s meta e c.in_state.begun c.could))

before : (s : State) (ws : ℕ) (w : Workspace) → workspace_of s ws ≡ Some w → of_number s.workspaces ws ≡ Some w
before s ws w is = sym (is_of_number s ws) ∙ is

-- what stands at its number then
leaves : {Such : Workspace → Type 0} (s : State) (e : Event) (ws : ℕ) (after : Workspace) → of_number (play s e).workspaces ws ≡ Some after → Such after
    → Leaves s e ws Such
leaves s e ws after is such = record { after = after; there = is_of_number (play s e) ws ∙ is; such = such }

none_open : (o : Option Open) → not (is_some o) ≡ true → o ≡ None
none_open None is = refl
none_open (Some c) is = absurd cc

shut : (w : Workspace) → is_closed (Some w) ≡ true → w.composite ≡ None
shut w is = none_open w.composite is

stays : (w : Workspace) → StandsStill w w
stays w = record { branch = refl; base = refl; pending = refl }

-- ---- what is recorded
edited : (more : List Operation) (w : Workspace) (o : Option Open) → w.composite ≡ o → IsEdited more w (added more o w)
edited more w None is = record {
  stands = record { branch = refl; base = refl; pending = refl };
  shut = λ none. (refl, refl);
  opened = λ c some. absurd (none-some c (sym is ∙ some));
}
edited more w (Some c) is = record {
  stands = record { branch = refl; base = refl; pending = refl };
  shut = λ none. absurd (none-some c (sym none ∙ is));
  opened = λ d some. (ap (λ (x : Open). Some (record { name = x.name; steps = x.steps ++ steps_all more })) (same_Some c d (sym is ∙ some)), refl);
}

pub edits_stand : EditsStand
unfolding play
edits_stand more s meta ws w c =
    leaves s (Edit ws more) ws (with_more more w) (same_number (with_more more) s.workspaces ws w (before s ws w c.there)) (edited more w w.composite refl)

pub begins_stand : BeginsStand
unfolding play
begins_stand name s meta ws w c =
    let closed = tested s meta ws w (Begin ws name) c is_closed (and_right (is_name name) (is_closed (workspace_of s ws))) in
    leaves s (Begin ws name) ws (with_open name w) (same_number (with_open name) s.workspaces ws w (before s ws w c.there)) (record {
      stands = record { branch = refl; base = refl; pending = refl };
      operations = refl;
      shut = shut w closed;
      opened = refl;
    })

composed_some : (name : List ℕ) (steps : List Step) → 0 < length steps → composed name steps ≡ operation.Composite name steps ∷ []
composed_some name [] some = absurd (omega (arith, some))
composed_some name (s ∷ ss) some = refl

ended : (name : List ℕ) (steps : List Step) (w : Workspace) (more : List Operation) → more ≡ composed name steps
    → HasEnded name steps w (record w { operations = w.operations ++ more; composite = None })
ended name steps w more is = record {
  stands = record { branch = refl; base = refl; pending = refl };
  some = λ some. ap (λ (l : List Operation). w.operations ++ l) (is ∙ composed_some name steps some);
  none = λ none. ap (λ (l : List Operation). w.operations ++ l) (is ∙ ap (composed name) none) ∙ append-nil w.operations;
  shut = refl;
}

open_is : (o : Option Open) → is_some o ≡ true → (c : Open) × (o ≡ Some c)
open_is None is = absurd cc
open_is (Some c) is = (c, refl)

pub ends_stand : EndsStand
unfolding play
ends_stand s meta ws w c =
    let opened = tested s meta ws w (End ws) c is_open (λ is. is) in
    let one = open_is w.composite opened in
    leaves s (End ws) ws (with_closed w) (same_number with_closed s.workspaces ws w (before s ws w c.there)) (record {
      open_one = one.0;
      opened = one.1;
      ended = ended one.0.name one.0.steps w (operation_of_open w.composite) (ap operation_of_open one.1);
    })

-- ---- a composite from its beginning to its end
abbrev with_steps : Workspace → List ℕ → List Step → Workspace
with_steps w name steps = record w { composite = Some (record { name = name; steps = steps }) }

abbrev with_whole : Workspace → List ℕ → List Step → Workspace
with_whole w name steps = record w { operations = w.operations ++ composed name steps; composite = None }

edited_and_ended : (w : Workspace) (ws : ℕ) (name : List ℕ) (packages : List (List Operation)) (s : State) (steps : List Step)
    → workspace_of s ws ≡ Some (with_steps w name steps)
    → workspace_of (played play s (map (λ more. Edit ws more) packages ++ End ws ∷ [])) ws ≡ Some (with_whole w name (steps ++ flat_map steps_all packages))
unfolding play
edited_and_ended w ws name [] s steps is =
    is_of_number (play s (End ws)) ws ∙ same_number with_closed s.workspaces ws (with_steps w name steps) (before s ws (with_steps w name steps) is)
    ∙ ap (λ (l : List Step). Some (with_whole w name l)) (sym (append-nil steps))
edited_and_ended w ws name (more ∷ packages) s steps is =
    let at : workspace_of (play s (Edit ws more)) ws ≡ Some (with_steps w name (steps ++ steps_all more)) =
    is_of_number (play s (Edit ws more)) ws
    ∙ same_number (with_more more) s.workspaces ws (with_steps w name steps) (before s ws (with_steps w name steps) is) in
    edited_and_ended w ws name packages (play s (Edit ws more)) (steps ++ steps_all more) at
    ∙ ap (λ (l : List Step). Some (with_whole w name l)) (append_assoc steps (steps_all more) (flat_map steps_all packages))

pub composites_are_one : CompositesAreOne
unfolding play
composites_are_one s ws w is none name packages =
    let at : workspace_of (play s (Begin ws name)) ws ≡ Some (with_steps w name []) =
    is_of_number (play s (Begin ws name)) ws ∙ same_number (with_open name) s.workspaces ws w (before s ws w is) in (
      with_whole w name (flat_map steps_all packages),
      edited_and_ended w ws name packages (play s (Begin ws name)) [] at,
      ended name (flat_map steps_all packages) w (composed name (flat_map steps_all packages)) refl,
    )

-- ---- what is dropped and tidied
last_of : (o : Operation) (os : List Operation) → (last : Operation) × (o ∷ os ≡ take (length os) (o ∷ os) ++ last ∷ [])
last_of o [] = (o, refl)
last_of o (p ∷ os) = let more = last_of p os in (more.0, ap (λ (l : List Operation). o ∷ l) more.1)

without : (os : List Operation) → 0 < length os → (last : Operation) × (os ≡ take (length os - 1) os ++ last ∷ [])
without [] some = absurd (omega (arith, some))
without (o ∷ os) some =
    let more = last_of o os in
    let n : length os ≡ length (o ∷ os) - 1 = omega arith in
    (more.0, more.1 ∙ ap (λ (n : ℕ). take n (o ∷ os) ++ more.0 ∷ []) n)

pub undos_stand : UndosStand
unfolding play
undos_stand s meta ws w c =
    let can = tested s meta ws w (Undo ws) c can_undo (λ is. is) in
    let closed = shut w (and_left (is_closed (Some w)) (has_operations (Some w)) can) in
    let some = ltb-true 0 (length w.operations) (and_right (is_closed (Some w)) (has_operations (Some w)) can) in
    let last = without w.operations some in
    leaves s (Undo ws) ws (without_last w) (same_number without_last s.workspaces ws w (before s ws w c.there)) (record {
      stands = record { branch = refl; base = refl; pending = refl };
      last = last.0;
      operations = last.1;
      shut = record { was = closed; is = closed };
    })

untouched_is : (branch base : ℕ) → IsUntouched branch base (untouched branch base)
untouched_is branch base = record { branch = refl; base = refl; operations = refl; composite = refl; pending = refl }

pub discards_stand : DiscardsStand
unfolding play
discards_stand s meta ws w c =
    leaves s (Discard ws) ws (without_any w) (same_number without_any s.workspaces ws w (before s ws w c.there)) (untouched_is w.branch w.base)

pub tidies_stand : TidiesStand
unfolding play
tidies_stand s meta ws w c =
    let can = tested s meta ws w (Tidy ws) c (can_tidy meta) (λ is. is) in
    let closed = shut w (and_left (is_closed (Some w)) (not (is_tidy meta w.operations)) can) in
    leaves s (Tidy ws) ws (tidied meta w)
    (same_number (by_meta s.meta tidied) s.workspaces ws w (before s ws w c.there)
    ∙ ap (λ (m : Option Meta). Some (by_meta m tidied w)) c.in_state.begun) (record {
      stands = record { branch = refl; base = refl; pending = refl };
      operations = refl;
      shut = record { was = closed; is = closed };
    })

-- ---- where it stands
pub checkouts_stand : CheckoutsStand
unfolding play
checkouts_stand s meta has version branch could = record {
  numbers = length-append s.workspaces (Some (untouched branch version) ∷ []) ∙ omega arith;
  leaves = record {
    after = untouched branch version;
    there = last_there s.workspaces (untouched branch version);
    such = untouched_is branch version;
  };
}

pub branches_stand : BranchesStand
branches_stand s meta ws name w c =
    let named = is_name name && is_new_branch s.history name in
    let closed = shut w (tested s meta ws w (Branch ws name) c is_closed (and_right named (is_closed (workspace_of s ws)))) in
    record {
      made = ap (λ (h : History). h.branches) (branch_more s ws name w c.there);
      leaves = record {
        after = moved_onto (length s.history.branches) w;
        there = moved s ws name w c.there;
        such = record { branch = refl; base = refl; operations = refl; shut = record { was = closed; is = closed }; pending = refl };
      };
    }

pub updates_stand : UpdatesStand
unfolding play
updates_stand letters s meta ws w c =
    let h : History = s.history in
    let can = tested s meta ws w (Update ws letters) c (can_update meta h letters) (λ is. is) in
    let apart : Bool = not (nat_eq w.base (head h w.branch)) in
    let fit : Bool = are_choices letters (update_buckets meta h w) in
    let closed = shut w (and_left (is_closed (Some w)) apart (and_left (is_closed (Some w) && apart) fit can)) in
    leaves s (Update ws letters) ws (updated meta h letters w)
    (same_number (by_meta s.meta (λ n. updated n h letters)) s.workspaces ws w (before s ws w c.there)
    ∙ ap (λ (m : Option Meta). Some (by_meta m (λ n. updated n h letters) w)) c.in_state.begun) (record {
      branch = refl;
      base = refl;
      operations =
          updates_go_by_letters (theirs_of_update h w.branch w.base) w.operations (update_buckets meta h w) letters
          (and_right (is_closed (Some w) && apart) fit can);
      shut = record { was = closed; is = closed };
      pending = refl;
    })

pub merges_stand : MergesStand
unfolding play
merges_stand branch letters s meta ws w c =
    let h : History = s.history in
    let other : ℕ = head h branch in
    let can = tested s meta ws w (Merge ws branch letters) c (can_merge meta h branch letters) (λ is. is) in
    let apart : Bool = is_other_branch h w branch in
    let some : Bool = has_theirs h w other in
    let fit : Bool = are_choices letters (merge_buckets meta h w other) in
    let front = and_left (is_closed (Some w) && apart) some (and_left (is_closed (Some w) && apart && some) fit can) in
    let closed = shut w (and_left (is_closed (Some w)) apart front) in
    leaves s (Merge ws branch letters) ws (merged_with meta h other letters w)
    (same_number (by_meta s.meta (λ n. merged_with n h other letters)) s.workspaces ws w (before s ws w c.there)
    ∙ ap (λ (m : Option Meta). Some (by_meta m (λ n. merged_with n h other letters) w)) c.in_state.begun) (record {
      branch = refl;
      base = refl;
      more = merge_tail meta h w other letters;
      more_are = merges_go_by_letters _ _ (merge_buckets meta h w other) letters (and_right (is_closed (Some w) && apart && some) fit can);
      operations = refl;
      shut = record { was = closed; is = closed };
      pending = refl;
    })

-- ---- versions
pub committed_is : (s : State) (meta : Meta) (ws : ℕ) (signature : Option Signature) (message : List ℕ) (w : Workspace)
    → CouldBeIn s meta ws w (version_event ws signature message)
    → IsCommitted s (version_event ws signature message) ws w (option_map (λ (x : Signature). x.author) signature)
    (option_map (λ (x : Signature). x.moment) signature) message
unfolding play
committed_is s meta ws signature message w c =
    let event : Event = version_event ws signature message in
    let n : ℕ = length s.history.versions in
    let made : Version = version_of w signature message in
    let can = commits.version_could s meta ws signature message w c.in_state.begun c.could c.there in
    let closed = shut w (commits.closed s meta (kept s meta c.in_state) ws w signature message c.there can) in
    let effect_is : effect s event ≡ with_commit ws signature message (Some w) s =
    commits.version_effect s ws signature message ∙ ap (λ (o : Option Workspace). with_commit ws signature message o s) c.there in
    record {
      version = made;
      is_of = record { branch = refl; parent = refl; merged = refl; author_is = refl; moment_is = refl; message_is = refl; package_is = refl };
      made = ap (λ (x : State). x.history.versions) effect_is;
      at_head = ap (λ (x : State). head x.history w.branch) effect_is ∙ head_more s.history made;
      shut = closed;
      leaves = record {
        after = committed n w;
        there = is_of_number (play s event) ws ∙ ap (λ (x : State). of_number x.workspaces ws) effect_is
            ∙ same_number (committed n) s.workspaces ws w (before s ws w c.there);
        such = record { branch = refl; base = refl; operations = refl; composite = closed; pending = refl };
      };
    }

pub commits_stand : CommitsStand
commits_stand s meta ws message w c = committed_is s meta ws None message w c

pub signed_stand : SignedStand
signed_stand s meta ws author moment message w c = committed_is s meta ws (Some (record { author = author; moment = moment })) message w c

pub inits_stand : InitsStand
unfolding play playable
inits_stand s orderly text could = by s.meta orderly (and_right _ (playable_with s s.meta (Init text)) could)
  where
    by : (m : Option Meta) → AllOrderly m s → IsTrue (playable_with s m (Init text)) → Starts (play s (Init text))
    by None all can = record {
      first = first_version;
      is_first = record { branch = refl; parent = refl; merged = refl; author = refl; moment = refl; message = refl; package_is = refl };
      versions = refl;
      branches = refl;
      tags = refl;
      workspaces = all.0;
    }
    by (Some meta) all can = absurd cc
