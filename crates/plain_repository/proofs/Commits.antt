-- When a version is refused as stale, as unsigned or before the store is upgraded, and what one that is made leaves.
use Rattle.std.proofs.Common.{◌≡◌, ◌≢◌, ℕ, ◌&&◌, List, [], ◌++◌, Bool, nat_eq, true, false, cond, length, Option, None, Some, is_some, refl, sym, ◌∙◌}
use Rattle.std.proofs.Common.{ap, subst, append-nil}
use Rattle.std.specs.Prelude.{IsTrue, nat_le, unwrap_or, not}
use Rattle.std.specs.Fmt.{decimal}
use Rattle.std.proofs.lemmas.Bool.{eqb-true}
use Rattle.std.proofs.lemmas.Option.{same_Some}
use Rattle.ecore_meta.specs.Meta.{Meta}
use Rattle.model_state.specs.Names.{is_name}
use Rattle.model_state.specs.State.{nothing}
use Rattle.model_state.specs.Steps.{fold}
use Rattle.model_state.specs.declared.step.Step.{Step}
use Rattle.history_tree.specs.History.{History, with_version, head}
use Rattle.history_tree.proofs.Heads as heads
use Rattle.commit_journal.specs.Journal.{fit_of}
use Rattle.commit_journal.specs.declared.fit.Fit.{Fit}
use Rattle.commit_journal.specs.declared.fit.Fit.TheVariants as fits
use Rattle.op_form.specs.declared.event.Event.{Event}
use Rattle.op_form.specs.declared.event.Event.TheVariants.{Commit, Signed}
use Rattle.op_form.specs.Events.{event_encoding}
use Rattle.op_form.specs.Formed.{is_event}
use Rattle.script_lang.specs.declared.command.Command.TheVariants as commands
use Rattle.script_lang.specs.declared.reply.Refusal.{Refusal}
use Rattle.script_lang.specs.declared.reply.Refusal.TheVariants as refusals
use Rattle.script_lang.specs.declared.reply.Last.TheVariants as last
use Rattle.plain_repository.specs.State.{State, Workspace, Composite as Open, workspace_of, open_steps, recorded_steps, model_of, is_closed, is_open, has_local}
use Rattle.plain_repository.specs.Answers.{Decision, refused, most_events, by_fit, with_room}
use Rattle.history_tree.specs.declared.version.Signature.{Signature}
use Rattle.plain_repository.specs.Commits.{version_of, version_event, committed, with_commit, can_commit, version_made, commit_in, signed_in}
use Rattle.plain_repository.specs.Commits.{decide_commit, decide_signed}
use Rattle.plain_repository.specs.Events.{effect, play, playable, playable_with}
use Rattle.plain_repository.specs.Repository.{decide_with, decide_command}
use Rattle.plain_repository.specs.Laws.{IsStale, HasWorkspace, version_command, CommitsAreStale, UnsignedAreRefused, OldFormsAreRefused, CommitsKeepModels}
use Rattle.plain_repository.specs.Orderly.{Runs, steps_to, IsOrderlyWorkspace, Orderly}
use Rattle.plain_repository.proofs.Apart.{differ, asked}
use Rattle.plain_repository.proofs.Encodings.{and_left, and_right}
use Rattle.plain_repository.proofs.Places.{of_number, is_of_number, same_number, at_number}
use Rattle.plain_repository.proofs.Runs.{workspace_model}
use Rattle.plain_repository.proofs.Kept.{commit_steps, commit_itself}
use Rattle.plain_repository.proofs.Reached.{kept}

-- ---- the refusals
-- the decision ends with that refusal
abbrev Says : Decision → Refusal → Type 0
Says d refusal = d.reply.last ≡ last.No refusal

-- the refusal is none that comes of a lack of room
record IsOfNoRoom (refusal : Refusal) : Type 0 where
  full : refusals.HistoryFull ≢ refusal
  large : refusals.TooLarge ≢ refusal
  journal : refusals.JournalFull ≢ refusal

no_same : (a b : Refusal) → last.No a ≡ last.No b → a ≡ b
no_same a b e = cc

-- so an event for which there may be no room is not refused by it
room_not : (s : State) (lines : List (List ℕ)) (words : List ℕ) (event : Event) (refusal : Refusal) → IsOfNoRoom refusal
    → Says (with_room s lines words event) refusal → ⊥
unfolding with_room
room_not s lines words event refusal other = by (nat_le most_events s.events) (is_event event) (fit_of s.end (length (event_encoding event)))
  where
    by : (full formed : Bool) (fit : Fit)
        → Says (cond full (refused refusals.HistoryFull) (cond formed (by_fit fit lines words event) (refused refusals.TooLarge))) refusal → ⊥
    by true formed fit e = other.full (no_same refusals.HistoryFull refusal e)
    by false false fit e = other.large (no_same refusals.TooLarge refusal e)
    by false true fits.Yes e = cc
    by false true fits.TooLarge e = other.large (no_same refusals.TooLarge refusal e)
    by false true fits.Full e = other.journal (no_same refusals.JournalFull refusal e)

stale_of_no_room : (base at : ℕ) → IsOfNoRoom (refusals.Stale base at)
stale_of_no_room base at = record { full = λ e. cc; large = λ e. cc; journal = λ e. cc }

unsigned_of_no_room : IsOfNoRoom refusals.Unsigned
unsigned_of_no_room = record { full = λ e. cc; large = λ e. cc; journal = λ e. cc }

old_form_of_no_room : IsOfNoRoom refusals.OldForm
old_form_of_no_room = record { full = λ e. cc; large = λ e. cc; journal = λ e. cc }

-- ---- stale
-- the base and the head of a workspace whose version is refused as stale
record Differ (s : State) (w : Workspace) (base at : ℕ) : Type 0 where
  base_is : w.base ≡ base
  head_is : head s.history w.branch ≡ at
  apart : base ≢ at

module _ (s : State) (w : Workspace) (event : Event) (base at : ℕ) where
  made_stale : Says (version_made s w event) (refusals.Stale base at) → Differ s w base at
  made_stale e = by (nat_eq w.base (head s.history w.branch)) refl e
    where
      later : (x y : Bool) → Says
          (cond x (refused refusals.CompositeOpen)
          (cond y (with_room s [] (decimal (length s.history.versions)) event) (refused refusals.NothingLocal))) (refusals.Stale base at) → ⊥
      later true y e = cc
      later false true e = room_not s [] (decimal (length s.history.versions)) event (refusals.Stale base at) (stale_of_no_room base at) e
      later false false e = cc

      by : (b : Bool) → nat_eq w.base (head s.history w.branch) ≡ b
          → Says (cond (not b) (refused (refusals.Stale w.base (head s.history w.branch)))
          (cond (is_open (Some w)) (refused refusals.CompositeOpen)
          (cond (has_local (Some w)) (with_room s [] (decimal (length s.history.versions)) event) (refused refusals.NothingLocal))))
          (refusals.Stale base at)
          → Differ s w base at
      by true is e = absurd (later (is_open (Some w)) (has_local (Some w)) e)
      by false is e =
          let base_is : w.base ≡ base = cc in
          let head_is : head s.history w.branch ≡ at = cc in
          record { base_is = base_is; head_is = head_is; apart = λ same. differ w.base (head s.history w.branch) is (base_is ∙ same ∙ sym head_is) }

  stale_made : Differ s w base at → Says (version_made s w event) (refusals.Stale base at)
  stale_made d =
      let apart : w.base ≢ head s.history w.branch = λ e. d.apart (sym d.base_is ∙ e ∙ d.head_is) in
      ap (λ (b : Bool). (cond (not b) (refused (refusals.Stale w.base (head s.history w.branch)))
      (cond (is_open (Some w)) (refused refusals.CompositeOpen)
      (cond (has_local (Some w)) (with_room s [] (decimal (length s.history.versions)) event) (refused refusals.NothingLocal)))).reply.last)
      (heads.other_number w.base (head s.history w.branch) apart)
      ∙ (λ k. last.No (refusals.Stale (d.base_is k) (d.head_is k)))

stale_is : (s : State) (meta : Meta) → s.meta ≡ Some meta → (ws : ℕ) (w : Workspace) → workspace_of s ws ≡ Some w → (base at : ℕ) → Differ s w base at
    → IsStale s ws base at
stale_is s meta begun ws w there base at d =
    record { meta = meta; begun = begun; workspace = w; there = there; base_is = d.base_is; head_is = d.head_is; apart = d.apart }

module _ (s : State) (meta : Meta) (begun : s.meta ≡ Some meta) (ws : ℕ) (message : List ℕ) (base at : ℕ) where
  commit_stale : (o : Option Workspace) → workspace_of s ws ≡ o → Says (commit_in s ws message o) (refusals.Stale base at)
      → (s.upgraded ≡ false) × IsStale s ws base at
  commit_stale None there e = cc
  commit_stale (Some w) there e = by s.upgraded refl e
    where
      by : (b : Bool) → s.upgraded ≡ b → Says (cond b (refused refusals.Unsigned) (version_made s w (Commit ws message))) (refusals.Stale base at)
          → (s.upgraded ≡ false) × IsStale s ws base at
      by true is e = cc
      by false is e = (is, stale_is s meta begun ws w there base at (made_stale s w (Commit ws message) base at e))

  signed_stale : (author : List ℕ) (moment : ℕ) (o : Option Workspace) → workspace_of s ws ≡ o
      → Says (signed_in s ws author moment message o) (refusals.Stale base at) → (s.upgraded ≡ true) × IsStale s ws base at
  signed_stale author moment None there e = cc
  signed_stale author moment (Some w) there e = by s.upgraded refl e
    where
      by : (b : Bool) → s.upgraded ≡ b
          → Says (cond b (version_made s w (Signed ws author moment message)) (refused refusals.OldForm)) (refusals.Stale base at)
          → (s.upgraded ≡ true) × IsStale s ws base at
      by true is e = (is, stale_is s meta begun ws w there base at (made_stale s w (Signed ws author moment message) base at e))
      by false is e = cc

module _ (s : State) (block : Option (List ℕ)) (ws : ℕ) (message : Option (List ℕ)) (base at : ℕ) where
  stale_only : (signature : Option Signature) (m : Option Meta) → s.meta ≡ m
      → Says (decide_with s m block (version_command ws signature message)) (refusals.Stale base at)
      → (s.upgraded ≡ is_some signature) × IsStale s ws base at
  unfolding decide_commit decide_signed
  stale_only None None is e = cc
  stale_only (Some x) None is e = cc
  stale_only None (Some meta) is e = commit_stale s meta is ws (unwrap_or message []) base at (workspace_of s ws) refl e
  stale_only (Some x) (Some meta) is e = signed_stale s meta is ws (unwrap_or message []) base at x.author x.moment (workspace_of s ws) refl e

  stale_comes : (signature : Option Signature) → s.upgraded ≡ is_some signature → IsStale s ws base at
      → Says (decide_with s s.meta block (version_command ws signature message)) (refusals.Stale base at)
  unfolding decide_commit decide_signed
  stale_comes None form i =
      ap (λ (m : Option Meta). (decide_with s m block (commands.Commit ws message)).reply.last) i.begun
      ∙ ap (λ (o : Option Workspace). (commit_in s ws (unwrap_or message []) o).reply.last) i.there
      ∙ ap (λ (b : Bool). (cond b (refused refusals.Unsigned) (version_made s i.workspace (Commit ws (unwrap_or message [])))).reply.last) form
      ∙ stale_made s i.workspace (Commit ws (unwrap_or message [])) base at (record { base_is = i.base_is; head_is = i.head_is; apart = i.apart })
  stale_comes (Some x) form i =
      ap (λ (m : Option Meta). (decide_with s m block (commands.Signed ws x.author x.moment message)).reply.last) i.begun
      ∙ ap (λ (o : Option Workspace). (signed_in s ws x.author x.moment (unwrap_or message []) o).reply.last) i.there
      ∙ ap (λ (b : Bool). (cond b (version_made s i.workspace (Signed ws x.author x.moment (unwrap_or message []))) (refused refusals.OldForm)).reply.last) form
      ∙ stale_made s i.workspace (Signed ws x.author x.moment (unwrap_or message [])) base at
      (record { base_is = i.base_is; head_is = i.head_is; apart = i.apart })

pub commits_are_stale : CommitsAreStale
unfolding decide_command
commits_are_stale s block ws signature message base at =
    (stale_only s block ws message base at signature s.meta refl, λ i. stale_comes s block ws message base at signature i.0 i.1)

-- ---- unsigned, and before the store is upgraded
-- a version that is made is refused by no other refusal than these
made_not : (s : State) (w : Workspace) (event : Event) (refusal : Refusal) → IsOfNoRoom refusal
    → refusals.Stale w.base (head s.history w.branch) ≢ refusal → refusals.CompositeOpen ≢ refusal → refusals.NothingLocal ≢ refusal
    → Says (version_made s w event) refusal → ⊥
made_not s w event refusal other stale composite nothing_local = by (not (nat_eq w.base (head s.history w.branch))) (is_open (Some w)) (has_local (Some w))
  where
    by : (x y z : Bool) → Says
        (cond x (refused (refusals.Stale w.base (head s.history w.branch)))
        (cond y (refused refusals.CompositeOpen)
        (cond z (with_room s [] (decimal (length s.history.versions)) event) (refused refusals.NothingLocal)))) refusal → ⊥
    by true y z e = stale (no_same (refusals.Stale w.base (head s.history w.branch)) refusal e)
    by false true z e = composite (no_same refusals.CompositeOpen refusal e)
    by false false true e = room_not s [] (decimal (length s.history.versions)) event refusal other e
    by false false false e = nothing_local (no_same refusals.NothingLocal refusal e)

module _ (s : State) (meta : Meta) (begun : s.meta ≡ Some meta) (ws : ℕ) (message : List ℕ) where
  commit_unsigned : (o : Option Workspace) → workspace_of s ws ≡ o → Says (commit_in s ws message o) refusals.Unsigned → HasWorkspace s ws × (s.upgraded ≡ true)
  commit_unsigned None there e = cc
  commit_unsigned (Some w) there e = by s.upgraded refl e
    where
      by : (b : Bool) → s.upgraded ≡ b → Says (cond b (refused refusals.Unsigned) (version_made s w (Commit ws message))) refusals.Unsigned
          → HasWorkspace s ws × (s.upgraded ≡ true)
      by true is e = (record { meta = meta; begun = begun; workspace = w; there = there }, is)
      by false is e = absurd (made_not s w (Commit ws message) refusals.Unsigned unsigned_of_no_room (λ e. cc) (λ e. cc) (λ e. cc) e)

  signed_old : (author : List ℕ) (moment : ℕ) (o : Option Workspace) → workspace_of s ws ≡ o
      → Says (signed_in s ws author moment message o) refusals.OldForm → HasWorkspace s ws × (s.upgraded ≡ false)
  signed_old author moment None there e = cc
  signed_old author moment (Some w) there e = by s.upgraded refl e
    where
      by : (b : Bool) → s.upgraded ≡ b
          → Says (cond b (version_made s w (Signed ws author moment message)) (refused refusals.OldForm)) refusals.OldForm
          → HasWorkspace s ws × (s.upgraded ≡ false)
      by true is e = absurd (made_not s w (Signed ws author moment message) refusals.OldForm old_form_of_no_room (λ e. cc) (λ e. cc) (λ e. cc) e)
      by false is e = (record { meta = meta; begun = begun; workspace = w; there = there }, is)

unsigned_only : (s : State) (block : Option (List ℕ)) (ws : ℕ) (message : Option (List ℕ)) (m : Option Meta) → s.meta ≡ m
    → Says (decide_with s m block (commands.Commit ws message)) refusals.Unsigned → HasWorkspace s ws × (s.upgraded ≡ true)
unfolding decide_commit
unsigned_only s block ws message None is e = cc
unsigned_only s block ws message (Some meta) is e = commit_unsigned s meta is ws (unwrap_or message []) (workspace_of s ws) refl e

unsigned_comes : (s : State) (block : Option (List ℕ)) (ws : ℕ) (message : Option (List ℕ)) → HasWorkspace s ws → s.upgraded ≡ true
    → Says (decide_with s s.meta block (commands.Commit ws message)) refusals.Unsigned
unfolding decide_commit
unsigned_comes s block ws message i form =
    ap (λ (m : Option Meta). (decide_with s m block (commands.Commit ws message)).reply.last) i.begun
    ∙ ap (λ (o : Option Workspace). (commit_in s ws (unwrap_or message []) o).reply.last) i.there
    ∙ ap (λ (b : Bool). (cond b (refused refusals.Unsigned) (version_made s i.workspace (Commit ws (unwrap_or message [])))).reply.last) form

pub unsigned_are_refused : UnsignedAreRefused
unfolding decide_command
unsigned_are_refused s block ws message = (unsigned_only s block ws message s.meta refl, λ i. unsigned_comes s block ws message i.0 i.1)

old_only : (s : State) (block : Option (List ℕ)) (ws : ℕ) (author : List ℕ) (moment : ℕ) (message : Option (List ℕ)) (m : Option Meta) → s.meta ≡ m
    → Says (decide_with s m block (commands.Signed ws author moment message)) refusals.OldForm → HasWorkspace s ws × (s.upgraded ≡ false)
unfolding decide_signed
old_only s block ws author moment message None is e = cc
old_only s block ws author moment message (Some meta) is e = signed_old s meta is ws (unwrap_or message []) author moment (workspace_of s ws) refl e

old_comes : (s : State) (block : Option (List ℕ)) (ws : ℕ) (author : List ℕ) (moment : ℕ) (message : Option (List ℕ)) → HasWorkspace s ws → s.upgraded ≡ false
    → Says (decide_with s s.meta block (commands.Signed ws author moment message)) refusals.OldForm
unfolding decide_signed
old_comes s block ws author moment message i form =
    ap (λ (m : Option Meta). (decide_with s m block (commands.Signed ws author moment message)).reply.last) i.begun
    ∙ ap (λ (o : Option Workspace). (signed_in s ws author moment (unwrap_or message []) o).reply.last) i.there
    ∙ ap (λ (b : Bool). (cond b (version_made s i.workspace (Signed ws author moment (unwrap_or message []))) (refused refusals.OldForm)).reply.last) form

pub old_forms_are_refused : OldFormsAreRefused
unfolding decide_command
old_forms_are_refused s block ws author moment message =
    (old_only s block ws author moment message s.meta refl, λ i. old_comes s block ws author moment message i.0 i.1)

-- ---- models
module _ (s : State) (meta : Meta) (k : Orderly meta s) (ws : ℕ) (w : Workspace) (signature : Option Signature) (message : List ℕ)
    (there : workspace_of s ws ≡ Some w) (can : can_commit s.history (Some w) ≡ true) where
  abbrev more : History
  more = with_version s.history (version_of w signature message)

  abbrev n : ℕ
  n = length s.history.versions

  first : (nat_eq w.base (head s.history w.branch) && is_closed (Some w)) ≡ true
  first = and_left _ (has_local (Some w)) can

  pub at_head : w.base ≡ head s.history w.branch
  at_head = eqb-true w.base (head s.history w.branch) (and_left _ (is_closed (Some w)) first)

  pub closed : is_closed (Some w) ≡ true
  closed = and_right (nat_eq w.base (head s.history w.branch)) (is_closed (Some w)) first

  pub order : IsOrderlyWorkspace meta s.history w
  order = at_number (IsOrderlyWorkspace meta s.history) s ws w there k.workspaces

  -- the workspace has the same steps after it as before
  same_steps : (c : Option Open) → w.composite ≡ c → steps_to more n ++ recorded_steps (committed n w) ≡ steps_to s.history w.base ++ recorded_steps w
  same_steps None is = ap (λ (c : Option Open). steps_to more n ++ open_steps c) is ∙ append-nil (steps_to more n)
      ∙ commit_steps meta s k signature message w order at_head closed
  same_steps (Some c) is = absurd (by (ap (λ (c : Option Open). not (is_some c)) (sym is) ∙ closed))
    where
      by : false ≡ true → ⊥
      by e = cc

  pub commit_model : model_of meta more (committed n w) ≡ model_of meta s.history w
  commit_model =
      let after : Runs meta more (committed n w) = (commit_itself meta s k signature message w order at_head closed w.composite refl).runs in
      let same : Some after.model ≡ Some order.runs.model =
      sym after.run ∙ ap (λ (l : List Step). fold meta nothing l) (same_steps w.composite refl) ∙ order.runs.run in
      workspace_model meta more (committed n w) after ∙ same_Some after.model order.runs.model same ∙ sym (workspace_model meta s.history w order.runs)

-- what the event of a version makes, and what was asked of it
pub version_effect : (s : State) (ws : ℕ) (signature : Option Signature) (message : List ℕ)
    → effect s (version_event ws signature message) ≡ with_commit ws signature message (workspace_of s ws) s
version_effect s ws None message = refl
version_effect s ws (Some x) message = refl

pub version_asked : (s : State) (meta : Meta) (ws : ℕ) (signature : Option Signature) (message : List ℕ)
    → IsTrue (playable_with s (Some meta) (version_event ws signature message)) → can_commit s.history (workspace_of s ws) ≡ true
version_asked s meta ws None message could = could
version_asked s meta ws (Some x) message could = and_right (is_name x.author) (can_commit s.history (workspace_of s ws)) could

pub version_could : (s : State) (meta : Meta) (ws : ℕ) (signature : Option Signature) (message : List ℕ) (w : Workspace) → s.meta ≡ Some meta
    → IsTrue (playable s (version_event ws signature message)) → workspace_of s ws ≡ Some w
    → can_commit s.history (Some w) ≡ true
version_could s meta ws signature message w begun could there =
    subst (λ (o : Option Workspace). can_commit s.history o ≡ true) there
    (version_asked s meta ws signature message (asked s meta (version_event ws signature message) begun could))

pub commits_keep_models : CommitsKeepModels
unfolding play
commits_keep_models s meta has ws before after signature message could there made =
    let k : Orderly meta s = kept s meta has in
    let can = version_could s meta ws signature message before has.begun could there in
    let n : ℕ = length s.history.versions in
    let event : Event = version_event ws signature message in
    let effect_is : effect s event ≡ with_commit ws signature message (Some before) s =
    version_effect s ws signature message ∙ ap (λ (o : Option Workspace). with_commit ws signature message o s) there in
    let stands : of_number (with_commit ws signature message (Some before) s).workspaces ws ≡ Some (committed n before) =
    same_number (committed n) s.workspaces ws before (sym (is_of_number s ws) ∙ there) in
    let is : committed n before ≡ after =
    same_Some (committed n before) after
    (sym stands ∙ ap (λ (x : State). of_number x.workspaces ws) (sym effect_is) ∙ sym (is_of_number (play s event) ws) ∙ made) in
    ap (λ (x : State). model_of meta x.history after) effect_is
    ∙ ap (λ (w : Workspace). model_of meta (with_version s.history (version_of before signature message)) w) (sym is)
    ∙ commit_model s meta k ws before signature message there can
