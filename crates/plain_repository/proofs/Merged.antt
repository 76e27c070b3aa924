-- What is recorded after a tidying, an update and a merge: a run, which leads to the merged model.
use Rattle.std.proofs.Common.{◌≡◌, ℕ, ◌<◌, nat_eq, List, ◌++◌, true, length, map, Option, Some, refl, sym, ◌∙◌, ap, subst}
use Rattle.std.specs.Prelude.{Contains, unwrap_or}
use Rattle.std.specs.List.{AllByRecursion, list_all}
use Rattle.std.proofs.lemmas.Bool.{eqb-true}
use Rattle.std.proofs.lemmas.List.{length-map}
use Rattle.ecore_meta.specs.Meta.{Meta}
use Rattle.ecore_meta.specs.Sound.{Sound}
use Rattle.model_state.specs.State as models
use Rattle.model_state.specs.State.{nothing}
use Rattle.model_state.specs.Good.{Good}
use Rattle.model_state.specs.Steps.{fold}
use Rattle.model_state.specs.Packages.{steps_all, rev_package}
use Rattle.model_state.specs.declared.step.Step.{Step}
use Rattle.model_state.specs.declared.operation.Operation.{Operation}
use Rattle.model_laws.proofs.Start.{starts_good}
use Rattle.model_laws.proofs.Runs.{fold_append}
use Rattle.history_tree.specs.History.{History, path, head}
use Rattle.history_tree.specs.States.{operations_to, state_of}
use Rattle.history_tree.specs.Since.{operations_after}
use Rattle.history_tree.specs.MergeBase.{last_common, merge_base}
use Rattle.history_tree.specs.Whole.{IsWhole}
use Rattle.history_tree.proofs.Bases.{common_last, base_last, base_after}
use Rattle.history_tree.proofs.Heads.{head_within}
use Rattle.history_tree.proofs.Since.{operations_split, on_path_there, earlier_on_path}
use Rattle.footprint.specs.declared.bucket.Bucket.{Bucket}
use Rattle.footprint.proofs.Runs.{Leads, one_end, cut, join, packages_keep}
use Rattle.merge_laws.proofs.Whole.{tidy_keeps_effect}
use Rattle.merge_laws.specs.Merge.{merged}
use Rattle.merge_laws.proofs.Merges.{update_gives_merged, mine_leads, merge_leads_to_merged}
use Rattle.merge_laws.specs.ThreeWay.{TwoSides}
use Rattle.merge_laws.specs.Choices.{is_choice, are_choices, side_of}
use Rattle.merge_laws.specs.Plans.{theirs_of_update}
use Rattle.op_form.specs.Formed.{IsStep}
use Rattle.plain_repository.specs.State.{Workspace, recorded_steps, model_of, is_closed}
use Rattle.plain_repository.specs.Tidying.{tidied}
use Rattle.plain_repository.specs.Merging.{update_buckets, updated, merge_theirs, merge_mine, merge_buckets, merge_tail, merged_with}
use Rattle.plain_repository.specs.Orderly.{RunsTo, Runs, steps_to, IsOrderlyWorkspace}
use Rattle.plain_repository.proofs.Encodings.{and_left}
use Rattle.plain_repository.proofs.Places.{both}
use Rattle.plain_repository.proofs.Runs.{version_folded, version_model, workspace_folded, workspace_model, closed_steps_are}
use Rattle.plain_repository.proofs.Spelled.{AreSpelled, behind, steps_spelled, spelled_steps, package_back, update_spelled, merge_spelled, tidy_spelled}

-- a letter for each bucket, so a side for each
pub sides_fit : (letters : List ℕ) (rows : List Bucket) → are_choices letters rows ≡ true → length (map side_of letters) ≡ length rows
sides_fit letters rows fit =
    length-map letters side_of
    ∙ eqb-true (length letters) (length rows) (and_left (nat_eq (length letters) (length rows)) (list_all is_choice letters) fit)

module _ (meta : Meta) (sound : Sound meta) (h : History) (whole : IsWhole h) (runs : (v : ℕ) → v < length h.versions → RunsTo meta h v) where
  -- ---- versions
  -- the operations up to a version lead to its state
  pub version_leads : (v : ℕ) → v < length h.versions → Leads meta nothing (operations_to h v) (state_of meta h v)
  version_leads v there = version_folded meta h v (runs v there) ∙ ap Some (sym (version_model meta h v (runs v there)))

  pub version_good : (v : ℕ) → v < length h.versions → Good meta (state_of meta h v)
  version_good v there = packages_keep meta sound nothing (state_of meta h v) (starts_good meta) (operations_to h v) (version_leads v there)

  -- the operations after a version on a path lead from its state to that of the path's end
  pub after_leads : (u v : ℕ) → v < length h.versions → Contains (path h v) u → Leads meta (state_of meta h u) (operations_after h u v) (state_of meta h v)
  after_leads u v there on =
      let all : Leads meta nothing (operations_to h u ++ operations_after h u v) (state_of meta h v) =
      subst (λ (os : List Operation). Leads meta nothing os (state_of meta h v)) (operations_split h whole u v there on) (version_leads v there) in
      let c = cut meta nothing (state_of meta h v) (operations_to h u) (operations_after h u v) all in
      subst (λ (m : models.State). Leads meta m (operations_after h u v) (state_of meta h v))
      (one_end meta nothing (operations_to h u) c.0 (state_of meta h u) c.1 (version_leads u (on_path_there h u v on))) c.2

  -- and have spellings
  pub after_spelled : (u v : ℕ) → v < length h.versions → Contains (path h v) u → AreSpelled (operations_after h u v)
  after_spelled u v there on =
      let all : AreSpelled (operations_to h u ++ operations_after h u v) =
      subst AreSpelled (operations_split h whole u v there on) (spelled_steps (operations_to h v) (runs v there).spelled) in
      behind _ (operations_to h u) (operations_after h u v) all

  -- ---- workspaces
  -- the local operations lead from the state of the base to the working model
  pub local_leads : (w : Workspace) → is_closed (Some w) ≡ true → Runs meta h w → Leads meta (state_of meta h w.base) w.operations (model_of meta h w)
  local_leads w closed r =
      ap (λ (l : List Step). fold meta (state_of meta h w.base) l) (sym (closed_steps_are w w.composite refl closed))
      ∙ workspace_folded meta h w r ∙ ap Some (sym (workspace_model meta h w r))

  pub local_spelled : (w : Workspace) → is_closed (Some w) ≡ true → Runs meta h w → AreSpelled w.operations
  local_spelled w closed r =
      spelled_steps w.operations
      (subst (AllByRecursion IsStep) (closed_steps_are w w.composite refl closed) (behind IsStep (steps_to h w.base) (recorded_steps w) r.spelled))

  -- operations that lead from the state of the base to a model are a run to it
  pub leading_runs : (w : Workspace) (n : models.State) → w.base < length h.versions → is_closed (Some w) ≡ true
      → Leads meta (state_of meta h w.base) w.operations n → AreSpelled w.operations → Runs meta h w
  leading_runs w n there closed leads spelled =
      let same : recorded_steps w ≡ steps_all w.operations = closed_steps_are w w.composite refl closed in
      record {
        model = n;
        run = ap (λ (l : List Step). fold meta nothing (steps_to h w.base ++ l)) same
            ∙ fold_append meta nothing (state_of meta h w.base) (steps_to h w.base) (steps_all w.operations) (version_leads w.base there) ∙ leads;
        spelled = both IsStep (steps_to h w.base) (recorded_steps w) (runs w.base there).spelled
            (subst (AllByRecursion IsStep) (sym same) (steps_spelled w.operations spelled));
      }

  -- a workspace in which no composite is open, and the model that its operations lead to
  pub record Led (w : Workspace) (n : models.State) : Type 0 where
    pub runs_to : Runs meta h w
    pub model_is : model_of meta h w ≡ n

  pub led : (w : Workspace) (n : models.State) → w.base < length h.versions → is_closed (Some w) ≡ true
      → Leads meta (state_of meta h w.base) w.operations n → AreSpelled w.operations → Led w n
  led w n there closed leads spelled = record {
    runs_to = leading_runs w n there closed leads spelled;
    model_is = ap (λ (o : Option models.State). unwrap_or o nothing)
        (ap (λ (l : List Step). fold meta (state_of meta h w.base) l) (closed_steps_are w w.composite refl closed) ∙ leads);
  }

  module _ (w : Workspace) (r : IsOrderlyWorkspace meta h w) (closed : is_closed (Some w) ≡ true) where
    -- ---- tidying
    pub tidied_led : Led (tidied meta w) (model_of meta h w)
    tidied_led =
        led (tidied meta w) (model_of meta h w) r.stands.base closed
        (tidy_keeps_effect meta sound (state_of meta h w.base) (model_of meta h w) (version_good w.base r.stands.base) w.operations
        (local_leads w closed r.runs))
        (tidy_spelled meta w.operations (local_spelled w closed r.runs))

    -- ---- an update
    at_head : head h w.branch < length h.versions
    at_head = head_within h w.branch whole

    pub update_leads : (letters : List ℕ) → are_choices letters (update_buckets meta h w) ≡ true
        → (n : models.State) × Leads meta (state_of meta h (head h w.branch)) (updated meta h letters w).operations n
        × (merged meta (state_of meta h w.base) (theirs_of_update h w.branch w.base) w.operations (update_buckets meta h w) (map side_of letters) ≡ Some n)
    update_leads letters fit =
        update_gives_merged meta sound (state_of meta h w.base) (state_of meta h (head h w.branch)) (model_of meta h w) (version_good w.base r.stands.base)
        (theirs_of_update h w.branch w.base) w.operations (after_leads w.base (head h w.branch) at_head r.stands.on_path) (local_leads w closed r.runs)
        (map side_of letters) (sides_fit letters (update_buckets meta h w) fit)

    pub update_sides : (letters : List ℕ) → are_choices letters (update_buckets meta h w) ≡ true
        → TwoSides meta (state_of meta h w.base) (state_of meta h (head h w.branch)) (model_of meta h w) (theirs_of_update h w.branch w.base) w.operations
        (map side_of letters)
    update_sides letters fit = record {
      sound = sound;
      good = version_good w.base r.stands.base;
      theirs_lead = after_leads w.base (head h w.branch) at_head r.stands.on_path;
      mine_lead = local_leads w closed r.runs;
      fit = sides_fit letters (update_buckets meta h w) fit;
    }

    pub updated_led : (letters : List ℕ) (fit : are_choices letters (update_buckets meta h w) ≡ true)
        → Led (updated meta h letters w) (update_leads letters fit).0
    updated_led letters fit =
        led (updated meta h letters w) (update_leads letters fit).0 at_head closed (update_leads letters fit).1
        (update_spelled (theirs_of_update h w.branch w.base) w.operations (update_buckets meta h w) (map side_of letters)
        (after_spelled w.base (head h w.branch) at_head r.stands.on_path) (local_spelled w closed r.runs))

    -- ---- a merge
    module _ (other : ℕ) (there : other < length h.versions) where
      abbrev common : ℕ
      common = last_common h w.base other

      abbrev start : ℕ
      start = merge_base h w.base w.pending other

      common_on_base : Contains (path h w.base) common
      common_on_base = (common_last h whole w.base other r.stands.base there).first

      start_on_other : Contains (path h other) start
      start_on_other = (base_last h whole w.base w.pending other r.stands.base there).on_other

      start_there : start < length h.versions
      start_there = on_path_there h start other start_on_other

      common_on_start : Contains (path h start) common
      common_on_start =
          earlier_on_path h whole common start other there (common_last h whole w.base other r.stands.base there).second start_on_other
          (base_after h whole w.base w.pending other r.stands.base there)

      common_there : common < length h.versions
      common_there = on_path_there h common w.base common_on_base

      pub merge_leads : (letters : List ℕ) → are_choices letters (merge_buckets meta h w other) ≡ true
          → (n : models.State) × Leads meta (model_of meta h w) (merge_tail meta h w other letters) n
          × (merged meta (state_of meta h start) (merge_theirs h w other) (merge_mine meta h w other) (merge_buckets meta h w other)
          (map side_of letters) ≡ Some n)
      merge_leads letters fit =
          merge_leads_to_merged meta sound (state_of meta h common) (state_of meta h start) (state_of meta h w.base) (state_of meta h other)
          (model_of meta h w) (version_good common common_there)
          (operations_after h common start) (operations_after h common w.base) w.operations (operations_after h start other)
          (after_leads common start start_there common_on_start) (after_leads common w.base r.stands.base common_on_base)
          (local_leads w closed r.runs) (after_leads start other there start_on_other)
          (map side_of letters) (sides_fit letters (merge_buckets meta h w other) fit)

      pub merge_sides : (letters : List ℕ) → are_choices letters (merge_buckets meta h w other) ≡ true
          → TwoSides meta (state_of meta h start) (state_of meta h other) (model_of meta h w) (merge_theirs h w other) (merge_mine meta h w other)
          (map side_of letters)
      merge_sides letters fit = record {
        sound = sound;
        good = version_good start start_there;
        theirs_lead = after_leads start other there start_on_other;
        mine_lead =
            mine_leads meta sound (state_of meta h common) (state_of meta h start) (state_of meta h w.base) (model_of meta h w)
            (version_good common common_there) (operations_after h common start) (operations_after h common w.base) w.operations
            (after_leads common start start_there common_on_start) (after_leads common w.base r.stands.base common_on_base)
            (local_leads w closed r.runs);
        fit = sides_fit letters (merge_buckets meta h w other) fit;
      }

      mine_spelled : AreSpelled (merge_mine meta h w other)
      mine_spelled =
          tidy_spelled meta (rev_package (operations_after h common start) ++ (operations_after h common w.base ++ w.operations))
          (both _ (rev_package (operations_after h common start)) (operations_after h common w.base ++ w.operations)
          (package_back (operations_after h common start) (after_spelled common start start_there common_on_start))
          (both _ (operations_after h common w.base) w.operations (after_spelled common w.base r.stands.base common_on_base) (local_spelled w closed r.runs)))

      pub merged_led : (letters : List ℕ) (fit : are_choices letters (merge_buckets meta h w other) ≡ true)
          → Led (merged_with meta h other letters w) (merge_leads letters fit).0
      merged_led letters fit =
          led (merged_with meta h other letters w) (merge_leads letters fit).0 r.stands.base closed
          (join meta (state_of meta h w.base) (model_of meta h w) (merge_leads letters fit).0 w.operations (merge_tail meta h w other letters)
          (local_leads w closed r.runs) (merge_leads letters fit).1)
          (both _ w.operations (merge_tail meta h w other letters) (local_spelled w closed r.runs)
          (merge_spelled (merge_theirs h w other) (merge_mine meta h w other) (merge_buckets meta h w other) (map side_of letters)
          (after_spelled start other there start_on_other) mine_spelled))
