-- What tidying, updates and merges make of a working model.
use Rattle.std.proofs.Common.{◌≡◌, ℕ, ◌<◌, ◌≤◌, ◌&&◌, ◌||◌, nat_eq, List, [], ◌∷◌, ◌++◌, Bool, true, length, map, Option, Some, sym, ◌∙◌, ap, subst, arith, inr}
use Rattle.std.specs.Prelude.{IsTrue, option_map, not}
use Rattle.std.proofs.lemmas.Option.{same_Some}
use Rattle.std.proofs.lemmas.List.Elements.{Contains-push}
use Rattle.ecore_meta.specs.Meta.{Meta}
use Rattle.history_tree.specs.History.{History, path, head}
use Rattle.history_tree.specs.States.{operations_of, state_of}
use Rattle.history_tree.specs.MergeBase.{is_among, is_merged_by, merge_base, IsMergeBase}
use Rattle.history_tree.specs.Since.{operations_after}
use Rattle.history_tree.specs.Whole.{IsWhole}
use Rattle.history_tree.proofs.Bases.{base_last}
use Rattle.history_tree.proofs.Greatest.{among_of}
use Rattle.history_tree.proofs.Heads.{head_within}
use Rattle.history_tree.proofs.Since.{nothing_after, on_path_low}
use Rattle.history_tree.proofs.Steady.{path_ends}
use Rattle.merge_laws.specs.Tidy.{is_tidy}
use Rattle.merge_laws.proofs.ThreeWay.{is_merge, loses_nothing}
use Rattle.merge_laws.specs.Choices.{are_choices, side_of}
use Rattle.merge_laws.specs.Plans.{theirs_of_update, theirs_of_merge}
use Rattle.op_form.specs.declared.event.Event.{Event}
use Rattle.op_form.specs.declared.event.Event.TheVariants.{Tidy, Update, Merge}
use Rattle.plain_repository.specs.State.{State, Workspace, workspace_of, model_of, changed_by_number, is_closed}
use Rattle.plain_repository.specs.Tidying.{tidied, can_tidy}
use Rattle.plain_repository.specs.Merging.{update_buckets, updated, can_update, merge_theirs, merge_mine, merge_buckets, merged_with, is_other_branch}
use Rattle.plain_repository.specs.Merging.{has_theirs, can_merge}
use Rattle.plain_repository.specs.Events.{by_meta, play, playable, playable_with}
use Rattle.plain_repository.specs.Orderly.{IsOrderlyWorkspace, Orderly}
use Rattle.plain_repository.specs.MergeLaws.{Changes, TidyingKeepsModels, UpdatesMerge, MergesMerge, MergesCount, UpdatesAreThreeWay, MergesAreThreeWay}
use Rattle.plain_repository.specs.MergeLaws.{UpdatesLoseNothing, MergesLoseNothing}
use Rattle.plain_repository.proofs.Encodings.{and_left, and_right}
use Rattle.plain_repository.proofs.Merged.{tidied_led, update_leads, update_sides, updated_led, merge_leads, merge_sides, merged_led}
use Rattle.plain_repository.proofs.Places.{of_number, is_of_number, same_number, at_number}
use Rattle.plain_repository.proofs.Reached.{kept}

-- ---- what an event makes of a workspace
-- what stands at a number after a change there
pub changed_is : (s : State) (ws : ℕ) (change : Workspace → Workspace) (before after : Workspace) → workspace_of s ws ≡ Some before
    → of_number (changed_by_number (option_map change) s.workspaces ws) ws ≡ Some after → change before ≡ after
changed_is s ws change before after there made =
    same_Some (change before) after (sym (same_number change s.workspaces ws before (sym (is_of_number s ws) ∙ there)) ∙ made)

module _ (s : State) (meta : Meta) (ws : ℕ) (event : Event) (before after : Workspace) (c : Changes s meta ws event before after) where
  pub orderly_of : Orderly meta s
  orderly_of = kept s meta c.in_state

  pub in_order_of : IsOrderlyWorkspace meta s.history before
  in_order_of = at_number (IsOrderlyWorkspace meta s.history) s ws before c.there orderly_of.workspaces

  pub could_with : IsTrue (playable_with s (Some meta) event)
  unfolding playable
  could_with = subst (λ (m : Option Meta). IsTrue (playable_with s m event)) c.in_state.begun (and_right _ (playable_with s s.meta event) c.could)

  pub made_of : of_number (play s event).workspaces ws ≡ Some after
  made_of = sym (is_of_number (play s event) ws) ∙ c.then_there

-- ---- Tidy
tidied_after : (s : State) (meta : Meta) (ws : ℕ) (before after : Workspace) → Changes s meta ws (Tidy ws) before after → tidied meta before ≡ after
unfolding play
tidied_after s meta ws before after c =
    subst (λ (m : Option Meta). by_meta m tidied before ≡ after) c.in_state.begun
    (changed_is s ws (by_meta s.meta tidied) before after c.there (made_of s meta ws (Tidy ws) before after c))

pub tidying_keeps_models : TidyingKeepsModels
unfolding play
tidying_keeps_models s meta ws before after c =
    let k : Orderly meta s = orderly_of s meta ws (Tidy ws) before after c in
    let can : can_tidy meta (Some before) ≡ true =
    subst (λ (o : Option Workspace). can_tidy meta o ≡ true) c.there (could_with s meta ws (Tidy ws) before after c) in
    let closed : is_closed (Some before) ≡ true = and_left (is_closed (Some before)) (not (is_tidy meta before.operations)) can in
    subst (λ (w : Workspace). model_of meta s.history w ≡ model_of meta s.history before) (tidied_after s meta ws before after c)
    (tidied_led meta k.metamodel.sound s.history k.whole k.versions before (in_order_of s meta ws (Tidy ws) before after c) closed).model_is

-- ---- Update
updated_after : (s : State) (meta : Meta) (ws : ℕ) (letters : List ℕ) (before after : Workspace) → Changes s meta ws (Update ws letters) before after
    → updated meta s.history letters before ≡ after
unfolding play
updated_after s meta ws letters before after c =
    subst (λ (m : Option Meta). by_meta m (λ n. updated n s.history letters) before ≡ after) c.in_state.begun
    (changed_is s ws (by_meta s.meta (λ n. updated n s.history letters)) before after c.there (made_of s meta ws (Update ws letters) before after c))

-- no composite is open, and the choices fit
update_could : (s : State) (meta : Meta) (ws : ℕ) (letters : List ℕ) (before after : Workspace) → Changes s meta ws (Update ws letters) before after
    → (is_closed (Some before) ≡ true) × (are_choices letters (update_buckets meta s.history before) ≡ true)
update_could s meta ws letters before after c =
    let h : History = s.history in
    let can : can_update meta h letters (Some before) ≡ true =
    subst (λ (o : Option Workspace). can_update meta h letters o ≡ true) c.there (could_with s meta ws (Update ws letters) before after c) in
    let closed : Bool = is_closed (Some before) in
    let apart : Bool = not (nat_eq before.base (head h before.branch)) in
    let fit : Bool = are_choices letters (update_buckets meta h before) in
    (and_left closed apart (and_left (closed && apart) fit can), and_right (closed && apart) fit can)

pub updates_merge : UpdatesMerge
unfolding play
updates_merge s meta ws letters before after c =
    let h : History = s.history in
    let k : Orderly meta s = orderly_of s meta ws (Update ws letters) before after c in
    let q : IsOrderlyWorkspace meta h before = in_order_of s meta ws (Update ws letters) before after c in
    let could = update_could s meta ws letters before after c in
    let closed : is_closed (Some before) ≡ true = could.0 in
    let fits : are_choices letters (update_buckets meta h before) ≡ true = could.1 in
    (update_leads meta k.metamodel.sound h k.whole k.versions before q closed letters fits).2
    ∙ ap Some (sym (updated_led meta k.metamodel.sound h k.whole k.versions before q closed letters fits).model_is)
    ∙ ap (λ (w : Workspace). Some (model_of meta h w)) (updated_after s meta ws letters before after c)

pub updates_are_three_way : UpdatesAreThreeWay
updates_are_three_way s meta ws letters before after c =
    let h : History = s.history in
    let k : Orderly meta s = orderly_of s meta ws (Update ws letters) before after c in
    let q : IsOrderlyWorkspace meta h before = in_order_of s meta ws (Update ws letters) before after c in
    let could = update_could s meta ws letters before after c in
    is_merge meta (state_of meta h before.base) (state_of meta h (head h before.branch)) (model_of meta h before)
    (model_of meta (play s (Update ws letters)).history after) (theirs_of_update h before.branch before.base) before.operations (map side_of letters)
    (update_sides meta k.metamodel.sound h k.whole k.versions before q could.0 letters could.1)
    (updates_merge s meta ws letters before after c)

pub updates_lose_nothing : UpdatesLoseNothing
updates_lose_nothing s meta ws letters before after c none =
    let h : History = s.history in
    let k : Orderly meta s = orderly_of s meta ws (Update ws letters) before after c in
    let q : IsOrderlyWorkspace meta h before = in_order_of s meta ws (Update ws letters) before after c in
    let could = update_could s meta ws letters before after c in
    let m = updates_are_three_way s meta ws letters before after c in
    loses_nothing meta (state_of meta h before.base) (state_of meta h (head h before.branch)) (model_of meta h before)
    (model_of meta (play s (Update ws letters)).history after) (theirs_of_update h before.branch before.base) before.operations (map side_of letters)
    (update_sides meta k.metamodel.sound h k.whole k.versions before q could.0 letters could.1) (m.unconflicted none)

-- ---- Merge
merged_after : (s : State) (meta : Meta) (ws branch : ℕ) (letters : List ℕ) (before after : Workspace)
    → Changes s meta ws (Merge ws branch letters) before after
    → merged_with meta s.history (head s.history branch) letters before ≡ after
unfolding play
merged_after s meta ws branch letters before after c =
    subst (λ (m : Option Meta). by_meta m (λ n. merged_with n s.history (head s.history branch) letters) before ≡ after) c.in_state.begun
    (changed_is s ws (by_meta s.meta (λ n. merged_with n s.history (head s.history branch) letters)) before after c.there
    (made_of s meta ws (Merge ws branch letters) before after c))

-- no composite is open, and the choices fit
merge_could : (s : State) (meta : Meta) (ws branch : ℕ) (letters : List ℕ) (before after : Workspace)
    → Changes s meta ws (Merge ws branch letters) before after
    → (is_closed (Some before) ≡ true) × (are_choices letters (merge_buckets meta s.history before (head s.history branch)) ≡ true)
merge_could s meta ws branch letters before after c =
    let h : History = s.history in
    let can : can_merge meta h branch letters (Some before) ≡ true =
    subst (λ (o : Option Workspace). can_merge meta h branch letters o ≡ true) c.there
    (could_with s meta ws (Merge ws branch letters) before after c) in
    let closed : Bool = is_closed (Some before) in
    let apart : Bool = is_other_branch h before branch in
    let some : Bool = has_theirs h before (head h branch) in
    let fit : Bool = are_choices letters (merge_buckets meta h before (head h branch)) in
    (and_left closed apart (and_left (closed && apart) some (and_left (closed && apart && some) fit can)), and_right (closed && apart && some) fit can)

pub merges_merge : MergesMerge
unfolding play
merges_merge s meta ws branch letters before after c =
    let h : History = s.history in
    let k : Orderly meta s = orderly_of s meta ws (Merge ws branch letters) before after c in
    let q : IsOrderlyWorkspace meta h before = in_order_of s meta ws (Merge ws branch letters) before after c in
    let other : ℕ = head h branch in
    let there : other < length h.versions = head_within h branch k.whole in
    let could = merge_could s meta ws branch letters before after c in
    let closed : is_closed (Some before) ≡ true = could.0 in
    let fits : are_choices letters (merge_buckets meta h before other) ≡ true = could.1 in
    (merge_leads meta k.metamodel.sound h k.whole k.versions before q closed other there letters fits).2
    ∙ ap Some (sym (merged_led meta k.metamodel.sound h k.whole k.versions before q closed other there letters fits).model_is)
    ∙ ap (λ (w : Workspace). Some (model_of meta h w)) (merged_after s meta ws branch letters before after c)

pub merges_are_three_way : MergesAreThreeWay
merges_are_three_way s meta ws branch letters before after c =
    let h : History = s.history in
    let k : Orderly meta s = orderly_of s meta ws (Merge ws branch letters) before after c in
    let q : IsOrderlyWorkspace meta h before = in_order_of s meta ws (Merge ws branch letters) before after c in
    let other : ℕ = head h branch in
    let could = merge_could s meta ws branch letters before after c in
    is_merge meta (state_of meta h (merge_base h before.base before.pending other)) (state_of meta h other) (model_of meta h before)
    (model_of meta (play s (Merge ws branch letters)).history after) (merge_theirs h before other) (merge_mine meta h before other) (map side_of letters)
    (merge_sides meta k.metamodel.sound h k.whole k.versions before q could.0 other (head_within h branch k.whole) letters could.1)
    (merges_merge s meta ws branch letters before after c)

pub merges_lose_nothing : MergesLoseNothing
merges_lose_nothing s meta ws branch letters before after c none =
    let h : History = s.history in
    let k : Orderly meta s = orderly_of s meta ws (Merge ws branch letters) before after c in
    let q : IsOrderlyWorkspace meta h before = in_order_of s meta ws (Merge ws branch letters) before after c in
    let other : ℕ = head h branch in
    let could = merge_could s meta ws branch letters before after c in
    let m = merges_are_three_way s meta ws branch letters before after c in
    loses_nothing meta (state_of meta h (merge_base h before.base before.pending other)) (state_of meta h other) (model_of meta h before)
    (model_of meta (play s (Merge ws branch letters)).history after) (merge_theirs h before other) (merge_mine meta h before other) (map side_of letters)
    (merge_sides meta k.metamodel.sound h k.whole k.versions before q could.0 other (head_within h branch k.whole) letters could.1) (m.unconflicted none)

-- a version that is pending is where its merge begins, so nothing comes after
pub pending_settled : (h : History) → IsWhole h → (base : ℕ) (pending : List ℕ) (other : ℕ) → base < length h.versions → other < length h.versions
    → is_among pending other ≡ true → theirs_of_merge h base pending other ≡ []
pending_settled h whole base pending other first second among =
    let start : ℕ = merge_base h base pending other in
    let at : IsMergeBase h base pending other start = base_last h whole base pending other first second in
    let low : start ≤ other = on_path_low h whole start other second at.on_other in
    let high : other ≤ start = at.last other (path_ends h whole other second) (inr (ap (λ b. b || is_merged_by h (path h base) other) among)) in
    let same : other ≡ start = omega (arith, low, high) in
    subst (λ v. operations_after h v other ≡ []) same (ap (operations_of h.versions) (nothing_after h whole other second))

pub merges_count : MergesCount
unfolding play
merges_count s meta ws branch letters before after c =
    let h : History = s.history in
    let k : Orderly meta s = orderly_of s meta ws (Merge ws branch letters) before after c in
    let q : IsOrderlyWorkspace meta h before = in_order_of s meta ws (Merge ws branch letters) before after c in
    let other : ℕ = head h branch in
    subst (λ (w : Workspace). merge_theirs h w other ≡ []) (merged_after s meta ws branch letters before after c)
    (pending_settled h k.whole before.base (before.pending ++ other ∷ []) other q.stands.base (head_within h branch k.whole)
    (among_of (before.pending ++ other ∷ []) other (Contains-push before.pending other)))
