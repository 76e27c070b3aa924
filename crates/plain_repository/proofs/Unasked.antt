-- An update or a merge that is given no letters and makes an event has no bucket, so it loses nothing.
use Rattle.std.proofs.Common.{◌≡◌, ℕ, nat_eq, List, [], ◌∷◌, Bool, true, false, cond, Option, Some, None, refl, subst}
use Rattle.std.specs.Fmt.{decimal}
use Rattle.ecore_meta.specs.Meta.{Meta}
use Rattle.history_tree.specs.History.{head}
use Rattle.history_tree.specs.Found.{branch_named}
use Rattle.history_tree.specs.States.{state_of}
use Rattle.history_tree.specs.MergeBase.{merge_base}
use Rattle.footprint.specs.declared.bucket.Bucket.{Bucket}
use Rattle.merge_laws.specs.ThreeWay.{LosesNothing}
use Rattle.op_form.specs.declared.event.Event.{Event}
use Rattle.op_form.specs.declared.event.Event.TheVariants.{Update, Merge}
use Rattle.script_lang.specs.declared.command.Command.TheVariants as commands
use Rattle.script_lang.specs.declared.reply.Refusal.TheVariants as refusals
use Rattle.plain_repository.specs.State.{State, Workspace, workspace_of, model_of, is_open}
use Rattle.plain_repository.specs.Answers.{refused, told, with_room}
use Rattle.plain_repository.specs.Choices.{chosen}
use Rattle.plain_repository.specs.Merging.{update_buckets, update_to, update_in, decide_update, merge_buckets, merge_to, merge_named, merge_in, decide_merge}
use Rattle.plain_repository.specs.Merging.{has_theirs}
use Rattle.plain_repository.specs.Events.{play}
use Rattle.plain_repository.specs.Repository.{decide_with, decide_command}
use Rattle.plain_repository.specs.MergeLaws.{Changes, UnaskedUpdatesLoseNothing, UnaskedMergesLoseNothing}
use Rattle.plain_repository.proofs.Reverting.{room_event}
use Rattle.plain_repository.proofs.Merging.{updates_lose_nothing, merges_lose_nothing}

module _ (s : State) (meta : Meta) (ws : ℕ) (w : Workspace) (event : Event) where
  -- ---- an update
  update_made : (version : ℕ) (b : Bool) → (cond b (told [] (decimal version)) (with_room s [] (decimal version) (Update ws []))).event ≡ Some event
      → Update ws [] ≡ event
  update_made version true e = cc
  update_made version false e = room_event s [] (decimal version) (Update ws []) event e

  update_chosen : (rows : List Bucket) (version : ℕ) → (chosen rows None (update_to s ws w [] version)).event ≡ Some event
      → (rows ≡ []) × (Update ws [] ≡ event)
  update_chosen [] version e = (refl, update_made version (nat_eq w.base version) e)
  update_chosen (b ∷ bs) version e = cc

  update_shut : (b : Bool)
      → (cond b (refused refusals.CompositeOpen) (chosen (update_buckets meta s.history w) None (update_to s ws w [] (head s.history w.branch)))).event
      ≡ Some event → (update_buckets meta s.history w ≡ []) × (Update ws [] ≡ event)
  update_shut true e = cc
  update_shut false e = update_chosen (update_buckets meta s.history w) (head s.history w.branch) e

  pub update_unasked : s.meta ≡ Some meta → workspace_of s ws ≡ Some w → (block : Option (List ℕ))
      → (decide_command s block (commands.Update ws None)).event ≡ Some event → (update_buckets meta s.history w ≡ []) × (Update ws [] ≡ event)
  unfolding decide_command decide_update
  update_unasked begun there block e =
      update_shut (is_open (Some w))
      (subst (λ (o : Option Workspace). (update_in s meta ws None o).event ≡ Some event) there
      (subst (λ (m : Option Meta). (decide_with s m block (commands.Update ws None)).event ≡ Some event) begun e))

  -- ---- a merge
  merge_made : (branch other : ℕ) (b : Bool) → (cond b (with_room s [] (decimal other) (Merge ws branch [])) (told [] (decimal other))).event ≡ Some event
      → Merge ws branch [] ≡ event
  merge_made branch other true e = room_event s [] (decimal other) (Merge ws branch []) event e
  merge_made branch other false e = cc

  merge_chosen : (rows : List Bucket) (branch other : ℕ) → (chosen rows None (merge_to s ws w branch [] other)).event ≡ Some event
      → (rows ≡ []) × (Merge ws branch [] ≡ event)
  merge_chosen [] branch other e = (refl, merge_made branch other (has_theirs s.history w other) e)
  merge_chosen (b ∷ bs) branch other e = cc

  merge_other : (branch : ℕ) (b : Bool)
      → (cond b (refused refusals.SameBranch) (chosen (merge_buckets meta s.history w (head s.history branch)) None
      (merge_to s ws w branch [] (head s.history branch)))).event ≡ Some event
      → (merge_buckets meta s.history w (head s.history branch) ≡ []) × (Merge ws branch [] ≡ event)
  merge_other branch true e = cc
  merge_other branch false e = merge_chosen (merge_buckets meta s.history w (head s.history branch)) branch (head s.history branch) e

  -- the branch of a merge, which has no bucket
  pub record OfBranch (found : Option ℕ) : Type 0 where
    pub branch : ℕ
    pub named : found ≡ Some branch
    pub none : merge_buckets meta s.history w (head s.history branch) ≡ []
    pub is : Merge ws branch [] ≡ event

  merge_found : (found : Option ℕ) → (merge_named s meta ws w None found).event ≡ Some event → OfBranch found
  merge_found None e = cc
  merge_found (Some branch) e = let m = merge_other branch (nat_eq branch w.branch) e in record { branch = branch; named = refl; none = m.0; is = m.1 }

  merge_shut : (b : Bool) (found : Option ℕ) → (cond b (refused refusals.CompositeOpen) (merge_named s meta ws w None found)).event ≡ Some event
      → OfBranch found
  merge_shut true found e = cc
  merge_shut false found e = merge_found found e

  pub merge_unasked : s.meta ≡ Some meta → workspace_of s ws ≡ Some w → (name : List ℕ) (block : Option (List ℕ))
      → (decide_command s block (commands.Merge ws name None)).event ≡ Some event → OfBranch (branch_named s.history name)
  unfolding decide_command decide_merge
  merge_unasked begun there name block e =
      merge_shut (is_open (Some w)) (branch_named s.history name)
      (subst (λ (o : Option Workspace). (merge_in s meta ws name None o).event ≡ Some event) there
      (subst (λ (m : Option Meta). (decide_with s m block (commands.Merge ws name None)).event ≡ Some event) begun e))

-- ---- the laws
pub unasked_updates_lose_nothing : UnaskedUpdatesLoseNothing
unasked_updates_lose_nothing s meta ws block event before after decided c =
    let u = update_unasked s meta ws before event c.in_state.begun c.there block decided in
    subst (λ (e : Event). Changes s meta ws e before after
    → LosesNothing (state_of meta s.history before.base) (state_of meta s.history (head s.history before.branch)) (model_of meta s.history before)
    (model_of meta (play s e).history after)) u.1 (λ d. updates_lose_nothing s meta ws [] before after d u.0) c

pub unasked_merges_lose_nothing : UnaskedMergesLoseNothing
unasked_merges_lose_nothing s meta ws name block event before after decided c =
    let m = merge_unasked s meta ws before event c.in_state.begun c.there name block decided in
    let other : ℕ = head s.history m.branch in (
      m.branch,
      m.named,
      subst (λ (e : Event). Changes s meta ws e before after
          → LosesNothing (state_of meta s.history (merge_base s.history before.base before.pending other)) (state_of meta s.history other)
          (model_of meta s.history before) (model_of meta (play s e).history after)) m.is
          (λ d. merges_lose_nothing s meta ws m.branch [] before after d m.none) c,
    )
