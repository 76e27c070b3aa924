-- A revert that is accepted leads to the model without the version's package.
use Rattle.std.proofs.Common.{◌≡◌, ◌≢◌, ℕ, ◌<◌, ◌&&◌, ◌||◌, nat_eq, List, [], ◌∷◌, ◌++◌, Bool, true, false, cond, length, Option, None, Some, is_some}
use Rattle.std.proofs.Common.{refl, sym, ◌∙◌, ap, subst, arith, append_assoc, append-nil}
use Rattle.std.specs.Prelude.{All, Contains, nat_le, not, unwrap_or, slice_get}
use Rattle.std.specs.List.{filter, list_any}
use Rattle.std.proofs.lemmas.Bool.{ne_eqb}
use Rattle.std.proofs.lemmas.List.Elements.{All-head, All-tail, All-weaker, filter-append}
use Rattle.ecore_meta.specs.Meta.{Meta}
use Rattle.ecore_meta.specs.Sound.{Sound}
use Rattle.model_state.specs.State as models
use Rattle.model_state.specs.State.{nothing}
use Rattle.model_state.specs.Steps.{fold}
use Rattle.model_state.specs.Packages.{fold_package, steps_all, rev_package}
use Rattle.model_state.specs.declared.step.Step.{Step}
use Rattle.model_state.specs.declared.operation.Operation.{Operation}
use Rattle.model_laws.proofs.Runs.{fold_append}
use Rattle.model_laws.proofs.Start.{starts_good}
use Rattle.history_tree.specs.declared.version.Version.{Version}
use Rattle.history_tree.specs.History.{History, path}
use Rattle.history_tree.specs.Found.{found_by_number, on_its_branch}
use Rattle.history_tree.specs.MergeBase.{is_among}
use Rattle.history_tree.specs.Since.{path_after, operations_after}
use Rattle.history_tree.specs.States.{package_of_version, operations_of, operations_to, state_of}
use Rattle.history_tree.specs.Whole.{IsWhole}
use Rattle.history_tree.proofs.Greatest.{of_among}
use Rattle.history_tree.proofs.Bases.{Ends, ends}
use Rattle.history_tree.proofs.Heads as heads
use Rattle.history_tree.proofs.Since.{path_splits, after_above, on_path_there}
use Rattle.history_tree.proofs.Steady.{operations_append}
use Rattle.footprint.specs.Interference.{interferes, Free, NoPair}
use Rattle.footprint.proofs.Runs.{Leads, join}
use Rattle.merge_laws.proofs.Merges.{revert_takes_out}
use Rattle.merge_laws.specs.Pairs.{have_pair, first_interfering}
use Rattle.commit_journal.specs.Journal.{fit_of}
use Rattle.commit_journal.specs.declared.fit.Fit.{Fit}
use Rattle.commit_journal.specs.declared.fit.Fit.TheVariants as fits
use Rattle.op_form.specs.declared.event.Event.{Event}
use Rattle.op_form.specs.declared.event.Event.TheVariants.{Edit}
use Rattle.op_form.specs.Events.{event_encoding}
use Rattle.op_form.specs.Formed.{is_event}
use Rattle.script_lang.specs.declared.command.Command.TheVariants as commands
use Rattle.script_lang.specs.declared.reply.Refusal.TheVariants as refusals
use Rattle.plain_repository.specs.State.{State, Workspace, Composite as Open, workspace_of, recorded_steps, model_of, is_closed, is_open}
use Rattle.plain_repository.specs.Answers.{refused, most_events, by_fit, with_room}
use Rattle.plain_repository.specs.Applying.{with_operations, taken_out, revert_found, revert_in, decide_revert}
use Rattle.plain_repository.specs.Edits.{added, with_more, takes, can_follow}
use Rattle.plain_repository.specs.Events.{play}
use Rattle.plain_repository.specs.Repository.{decide_with, decide_command}
use Rattle.plain_repository.specs.Orderly.{RunsTo, Runs, IsOrderlyWorkspace, Orderly}
use Rattle.plain_repository.specs.MergeLaws.{Changes, path_without, RevertsTakeOut}
use Rattle.plain_repository.proofs.Merged.{version_leads, local_leads}
use Rattle.plain_repository.proofs.Recorded.{more_steps}
use Rattle.plain_repository.proofs.Runs.{workspace_folded, workspace_model}
use Rattle.plain_repository.proofs.Merging.{changed_is, orderly_of, in_order_of, made_of}

-- ---- pairs
or_none : (a b : Bool) → (a || b) ≡ false → (a ≡ false) × (b ≡ false)
or_none true b is = absurd cc
or_none false b is = (refl, is)

free_of : (meta : Meta) (o : Operation) (ps : List Operation) → list_any (interferes meta o) ps ≡ false → Free meta o ps
free_of meta o [] none = tt
free_of meta o (p ∷ ps) none = let c = or_none (interferes meta o p) (list_any (interferes meta o) ps) none in (c.0, free_of meta o ps c.1)

pub no_pair_of : (meta : Meta) (os ps : List Operation) → have_pair meta os ps ≡ false → NoPair meta os ps
no_pair_of meta [] ps none = tt
no_pair_of meta (o ∷ os) ps none =
    let c = or_none (list_any (interferes meta o) ps) (list_any (λ o. list_any (interferes meta o) ps) os) none in
    (free_of meta o ps c.0, no_pair_of meta os ps c.1)

free_both : (meta : Meta) (o : Operation) (ps qs : List Operation) → Free meta o ps → Free meta o qs → Free meta o (ps ++ qs)
free_both meta o [] qs first second = second
free_both meta o (p ∷ ps) qs first second = (first.0, free_both meta o ps qs first.1 second)

pairs_both : (meta : Meta) (os ps qs : List Operation) → NoPair meta os ps → NoPair meta os qs → NoPair meta os (ps ++ qs)
pairs_both meta [] ps qs first second = tt
pairs_both meta (o ∷ os) ps qs first second = (free_both meta o ps qs first.0 second.0, pairs_both meta os ps qs first.1 second.1)

none_with : (meta : Meta) (os : List Operation) → NoPair meta os []
none_with meta [] = tt
none_with meta (o ∷ os) = (tt, none_with meta os)

not_found : (b : Bool) (u : ℕ) (rest : Option ℕ) → cond b (Some u) rest ≡ None → (b ≡ false) × (rest ≡ None)
not_found true u rest is = absurd cc
not_found false u rest is = (refl, is)

-- where no version has an operation that interferes, none of their operations does
versions_apart : (meta : Meta) (vs : List Version) (os : List Operation) (us : List ℕ) → first_interfering meta vs os us ≡ None
    → NoPair meta os (operations_of vs us)
versions_apart meta vs os [] none = none_with meta os
versions_apart meta vs os (u ∷ us) none =
    let c = not_found (have_pair meta os (package_of_version vs u)) u (first_interfering meta vs os us) none in
    pairs_both meta os (package_of_version vs u) (operations_of vs us) (no_pair_of meta os (package_of_version vs u) c.0) (versions_apart meta vs os us c.1)

-- ---- the path without a version
keep_all : (v : ℕ) (us : List ℕ) → All (λ u. u ≢ v) us → filter (λ u. not (nat_eq u v)) us ≡ us
keep_all v [] all = refl
keep_all v (u ∷ us) all =
    ap (λ b. cond (not b) (u ∷ filter (λ w. not (nat_eq w v)) us) (filter (λ w. not (nat_eq w v)) us)) (ne_eqb u v (All-head (λ w. w ≢ v) u us all))
    ∙ ap (λ ws. u ∷ ws) (keep_all v us (All-tail (λ w. w ≢ v) u us all))

without_is : (h : History) → IsWhole h → (v last : ℕ) → last < length h.versions → Contains (path h last) v → (before : List ℕ)
    → path h v ≡ before ++ v ∷ [] → All (λ u. u < v) before → path_without h v last ≡ before ++ path_after h v last
without_is h whole v last there on before is below =
    let after : List ℕ = path_after h v last in
    let test = λ (u : ℕ). not (nat_eq u v) in
    ap (filter test) (path_splits h whole v last there on ∙ ap (λ us. us ++ after) is)
    ∙ filter-append test (before ++ v ∷ []) after
    ∙ (λ i. (filter-append test before (v ∷ []) i) ++ filter test after)
    ∙ (λ i. (keep_all v before (All-weaker (λ u. u < v) (λ u. u ≢ v) (λ u low. omega (arith, low)) before below) i
    ++ cond (not (heads.same_number v i)) (v ∷ []) [])
    ++ keep_all v after (All-weaker (λ u. v < u) (λ u. u ≢ v) (λ u high. omega (arith, high)) after (after_above h v last)) i)
    ∙ ap (λ us. us ++ after) (append-nil before)

-- ---- the package is taken out
module _ (meta : Meta) (sound : Sound meta) (h : History) (whole : IsWhole h) (runs : (v : ℕ) → v < length h.versions → RunsTo meta h v)
    (w : Workspace) (r : IsOrderlyWorkspace meta h w) (closed : is_closed (Some w) ≡ true) (v : ℕ) (on : Contains (path h w.base) v)
    (free : first_interfering meta h.versions (package_of_version h.versions v) (path_after h v w.base) ≡ None)
    (apart : have_pair meta (package_of_version h.versions v) w.operations ≡ false) where
  abbrev taken : List Operation
  taken = package_of_version h.versions v

  abbrev since : List Operation
  since = operations_after h v w.base

  first : Ends h v
  first = ends h whole v (on_path_there h v w.base on)

  none : NoPair meta taken (since ++ w.operations)
  none = pairs_both meta taken since w.operations (versions_apart meta h.versions taken (path_after h v w.base) free) (no_pair_of meta taken w.operations apart)

  goes : path h w.base ≡ first.before ++ (v ∷ path_after h v w.base)
  goes = path_splits h whole v w.base r.stands.base on ∙ ap (λ us. us ++ path_after h v w.base) first.is
      ∙ append_assoc first.before (v ∷ []) (path_after h v w.base)

  all_operations : operations_to h w.base ++ w.operations ≡ operations_of h.versions first.before ++ (taken ++ (since ++ w.operations))
  all_operations =
      ap (λ (os : List Operation). os ++ w.operations)
      (ap (operations_of h.versions) goes ∙ operations_append h.versions first.before (v ∷ path_after h v w.base))
      ∙ append_assoc (operations_of h.versions first.before) (taken ++ since) w.operations
      ∙ ap (λ (os : List Operation). operations_of h.versions first.before ++ os) (append_assoc taken since w.operations)

  -- what the operations without the package lead to, its reversal leads to from the working model
  taken_out_leads : (n : models.State) × Leads meta (model_of meta h w) (rev_package taken) n
      × Leads meta nothing (operations_of h.versions first.before ++ (since ++ w.operations)) n
  taken_out_leads =
      revert_takes_out meta sound nothing (model_of meta h w) (starts_good meta) (operations_of h.versions first.before) taken (since ++ w.operations) none
      (subst (λ (os : List Operation). Leads meta nothing os (model_of meta h w)) all_operations
      (join meta nothing (state_of meta h w.base) (model_of meta h w) (operations_to h w.base) w.operations
      (version_leads meta sound h whole runs w.base r.stands.base) (local_leads meta sound h whole runs w closed r.runs)))

  without_operations : operations_of h.versions (path_without h v w.base) ++ w.operations ≡ operations_of h.versions first.before ++ (since ++ w.operations)
  without_operations =
      ap (λ (os : List Operation). os ++ w.operations)
      (ap (operations_of h.versions) (without_is h whole v w.base r.stands.base on first.before first.is first.below)
      ∙ operations_append h.versions first.before (path_after h v w.base))
      ∙ append_assoc (operations_of h.versions first.before) since w.operations

  -- the reversal leads from the working model to the model without the package
  pub record TakenOut : Type 0 where
    pub model : models.State
    pub back : Leads meta (model_of meta h w) (rev_package (package_of_version h.versions v)) model
    pub left : Leads meta nothing (operations_of h.versions (path_without h v w.base) ++ w.operations) model

  pub taken_out_is : TakenOut
  taken_out_is = record {
    model = taken_out_leads.0;
    back = taken_out_leads.1;
    left = subst (λ (os : List Operation). Leads meta nothing os taken_out_leads.0) (sym without_operations) taken_out_leads.2;
  }

  takes_any : (c : Option Open) → w.composite ≡ c → (os : List Operation) → takes c os ≡ true
  takes_any None is os = refl
  takes_any (Some c) is os = absurd (by (ap (λ (c : Option Open). not (is_some c)) (sym is) ∙ closed))
    where
      by : false ≡ true → ⊥
      by e = cc

  -- so the reversal can be recorded, and needs no test
  pub revert_follows : (o : Operation) (os : List Operation) → rev_package (package_of_version h.versions v) ≡ o ∷ os
      → can_follow meta h (Some w) (o ∷ os) ≡ true
  revert_follows o os is =
      let leads : fold_package meta (model_of meta h w) (o ∷ os) ≡ Some taken_out_is.model =
      subst (λ (l : List Operation). fold_package meta (model_of meta h w) l ≡ Some taken_out_is.model) is taken_out_is.back in
      (λ i. takes_any w.composite refl (o ∷ os) i && is_some (leads i))

-- further operations lead on from the working model
pub more_model : (meta : Meta) (h : History) (more : List Operation) (w : Workspace) (n : models.State) → Runs meta h w
    → Leads meta (model_of meta h w) more n → (c : Option Open) → w.composite ≡ c → model_of meta h (added more c w) ≡ n
more_model meta h more w n r leads None is =
    let known : fold meta (state_of meta h w.base) (recorded_steps w) ≡ Some (model_of meta h w) =
    workspace_folded meta h w r ∙ ap Some (sym (workspace_model meta h w r)) in
    ap (λ (o : Option models.State). unwrap_or o nothing)
    (ap (λ (l : List Step). fold meta (state_of meta h w.base) l) (more_steps more None w is)
    ∙ fold_append meta (state_of meta h w.base) (model_of meta h w) (recorded_steps w) (steps_all more) known ∙ leads)
more_model meta h more w n r leads (Some c) is =
    let known : fold meta (state_of meta h w.base) (recorded_steps w) ≡ Some (model_of meta h w) =
    workspace_folded meta h w r ∙ ap Some (sym (workspace_model meta h w r)) in
    ap (λ (o : Option models.State). unwrap_or o nothing)
    (ap (λ (l : List Step). fold meta (state_of meta h w.base) l) (more_steps more (Some c) w is)
    ∙ fold_append meta (state_of meta h w.base) (model_of meta h w) (recorded_steps w) (steps_all more) known ∙ leads)

-- ---- the decision
-- an event for which there is room is the one that was asked for
pub room_event : (s : State) (lines : List (List ℕ)) (words : List ℕ) (event made : Event) → (with_room s lines words event).event ≡ Some made → event ≡ made
unfolding with_room
room_event s lines words event made = by (nat_le most_events s.events) (is_event event) (fit_of s.end (length (event_encoding event)))
  where
    by : (full formed : Bool) (fit : Fit)
        → (cond full (refused refusals.HistoryFull) (cond formed (by_fit fit lines words event) (refused refusals.TooLarge))).event ≡ Some made
        → event ≡ made
    by true formed fit e = cc
    by false false fit e = cc
    by false true fits.Yes e = cc
    by false true fits.TooLarge e = cc
    by false true fits.Full e = cc

-- what an accepted revert shows of its workspace and its version
record Accepted (s : State) (meta : Meta) (ws v : ℕ) (w : Workspace) (event : Event) : Type 0 where
  shut : is_open (Some w) ≡ false
  on : is_among (path s.history w.base) v ≡ true
  free : first_interfering meta s.history.versions (package_of_version s.history.versions v) (path_after s.history v w.base) ≡ None
  apart : have_pair meta (package_of_version s.history.versions v) w.operations ≡ false
  is : Edit ws (rev_package (package_of_version s.history.versions v)) ≡ event

module _ (s : State) (meta : Meta) (ws v : ℕ) (w : Workspace) (event : Event) where
  abbrev operations : List Operation
  operations = package_of_version s.history.versions v

  abbrev found_first : Option ℕ
  found_first = first_interfering meta s.history.versions operations (path_after s.history v w.base)

  by_operations : (os : List Operation) → (with_operations s ws os).event ≡ Some event → Edit ws os ≡ event
  by_operations [] e = cc
  by_operations (o ∷ os) e = room_event s [] [] (Edit ws (o ∷ os)) event e

  by_pair : (b : Bool) → (cond b (refused (refusals.Interferes None)) (with_operations s ws (rev_package operations))).event ≡ Some event
      → (b ≡ false) × (Edit ws (rev_package operations) ≡ event)
  by_pair true e = cc
  by_pair false e = (refl, by_operations (rev_package operations) e)

  by_first : (o : Option ℕ) → (taken_out s meta ws w operations o).event ≡ Some event
      → (o ≡ None) × (have_pair meta operations w.operations ≡ false) × (Edit ws (rev_package operations) ≡ event)
  by_first (Some u) e = cc
  by_first None e = let p = by_pair (have_pair meta operations w.operations) e in (refl, p.0, p.1)

  by_among : (b : Bool) → (cond b (taken_out s meta ws w operations found_first) (refused refusals.NotOnPath)).event ≡ Some event
      → (b ≡ true) × (found_first ≡ None) × (have_pair meta operations w.operations ≡ false) × (Edit ws (rev_package operations) ≡ event)
  by_among true e = let p = by_first found_first e in (refl, p.0, p.1, p.2)
  by_among false e = cc

  by_version : (o : Option Version) → (revert_found s meta ws w (on_its_branch v o)).event ≡ Some event
      → (is_among (path s.history w.base) v ≡ true) × (found_first ≡ None) × (have_pair meta operations w.operations ≡ false)
      × (Edit ws (rev_package operations) ≡ event)
  by_version None e = cc
  by_version (Some version) e = by_among (is_among (path s.history w.base) v) e

  by_open : (b : Bool) → is_open (Some w) ≡ b
      → (cond b (refused refusals.CompositeOpen) (revert_found s meta ws w (found_by_number s.history v))).event ≡ Some event
      → Accepted s meta ws v w event
  by_open true is e = cc
  by_open false is e = let p = by_version (slice_get s.history.versions v) e in record { shut = is; on = p.0; free = p.1; apart = p.2; is = p.3 }

  accepted_so : s.meta ≡ Some meta → workspace_of s ws ≡ Some w → (block : Option (List ℕ))
      → (decide_command s block (commands.Revert ws v)).event ≡ Some event → Accepted s meta ws v w event
  unfolding decide_command decide_revert
  accepted_so begun there block e =
      by_open (is_open (Some w)) refl
      (subst (λ (o : Option Workspace). (revert_in s meta ws o v).event ≡ Some event) there
      (subst (λ (m : Option Meta). (decide_with s m block (commands.Revert ws v)).event ≡ Some event) begun e))

-- ---- the law
edited_after : (s : State) (meta : Meta) (ws : ℕ) (more : List Operation) (before after : Workspace) → Changes s meta ws (Edit ws more) before after
    → with_more more before ≡ after
unfolding play
edited_after s meta ws more before after c = changed_is s ws (with_more more) before after c.there (made_of s meta ws (Edit ws more) before after c)

edit_leads : (s : State) (meta : Meta) (ws : ℕ) (more : List Operation) (before after : Workspace) (n : models.State)
    → Changes s meta ws (Edit ws more) before after → Leads meta (model_of meta s.history before) more n
    → model_of meta (play s (Edit ws more)).history after ≡ n
unfolding play
edit_leads s meta ws more before after n c leads =
    subst (λ (w : Workspace). model_of meta s.history w ≡ n) (edited_after s meta ws more before after c)
    (more_model meta s.history more before n (in_order_of s meta ws (Edit ws more) before after c).runs leads before.composite refl)

pub reverts_take_out : RevertsTakeOut
reverts_take_out s meta ws v block event before after decided c =
    let a : Accepted s meta ws v before event = accepted_so s meta ws v before event c.in_state.begun c.there block decided in
    let k : Orderly meta s = orderly_of s meta ws event before after c in
    let q : IsOrderlyWorkspace meta s.history before = in_order_of s meta ws event before after c in
    let closed : is_closed (Some before) ≡ true = ap not a.shut in
    let out = taken_out_is meta k.metamodel.sound s.history k.whole k.versions before q closed v
    (of_among (path s.history before.base) v a.on) a.free a.apart in
    out.left
    ∙ ap Some (sym (subst (λ (e : Event). Changes s meta ws e before after → model_of meta (play s e).history after ≡ out.model) a.is
    (λ (d : Changes s meta ws (Edit ws (rev_package (package_of_version s.history.versions v))) before after). edit_leads s meta ws
    (rev_package (package_of_version s.history.versions v)) before after out.model d out.back) c))
