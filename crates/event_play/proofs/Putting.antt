-- What the events Tidy, Update and Merge make of a workspace, as other operations that are put into it.
use Rattle.std.proofs.Common.{◌≡◌, ℕ, zero, suc, List, [], ◌∷◌, true, Option, None, Some, is_some, refl, sym, ◌∙◌, ap, subst}
use Rattle.std.specs.Prelude.{◌==◌, ◌&&◌, not, slice_get, option_map}
use Rattle.std.proofs.lemmas.Option.{same_Some}
use Rattle.ecore_meta.specs.Meta.{Meta}
use Rattle.model_state.specs.declared.operation.Operation.{Operation}
use Rattle.history_tree.specs.History.{History, head}
use Rattle.history_tree.specs.States.{state_of}
use Rattle.history_tree.proofs.Heads.{head_within}
use Rattle.model_state.specs.Packages.{fold_package}
use Rattle.merge_laws.specs.Choices.{are_choices}
use Rattle.merge_laws.specs.Plans.{theirs_of_update}
use Rattle.merge_laws.specs.Tidy.{tidy}
use Rattle.op_form.specs.declared.event.Event.{Event}
use Rattle.op_form.specs.declared.event.Event.TheVariants.{Tidy, Update, Merge}
use Rattle.op_form.specs.Formed.{IsEvent}
use Rattle.plain_repository.specs.State.{State, Workspace, folded, is_closed, there, workspace_of, changed_at, with_changed}
use Rattle.plain_repository.specs.Events.{by_meta, effect, playable_with}
use Rattle.plain_repository.specs.Merging.{can_merge, can_update, has_theirs, is_other_branch, merge_buckets, merge_tail, merged_with, update_buckets, updated}
use Rattle.plain_repository.specs.Orderly.{IsOrderlyWorkspace, IsOrderly, Orderly}
use Rattle.plain_repository.specs.Tidying.{can_tidy, tidied}
use Rattle.plain_repository.proofs.Encodings.{and_left}
use Rattle.plain_repository.proofs.Kept.{effect_keeps}
use Rattle.plain_repository.proofs.Merged.{after_leads, tidied_led}
use Rattle.plain_repository.proofs.Reached.{in_order, kept, models_are_defined}
use Rattle.plain_repository.proofs.Runs.{workspace_folded, workspace_model}
use Rattle.repo_state.specs.Planning.{AreTheirs, KeepModel, replaced, restarted, taken_up}
use Rattle.repo_state.proofs.Could.{tested}
use Rattle.repo_state.proofs.Ordered.{is_there}

-- two changes that make the same of the workspace at a place
at_place : (f g : Workspace → Workspace) (ws : List (Option Workspace)) (n : ℕ) (w : Workspace) → there (slice_get ws n) ≡ Some w → f w ≡ g w
    → changed_at (option_map f) ws n ≡ changed_at (option_map g) ws n
at_place f g [] n w at same = refl
at_place f g (None ∷ ws) zero w at same = refl
at_place f g (Some v ∷ ws) zero w at same =
    let is : v ≡ w = same_Some v w at in
    ap (λ (x : Workspace). Some x ∷ ws) (ap f is ∙ same ∙ ap g (sym is))
at_place f g (o ∷ ws) (suc n) w at same = ap (λ (l : List (Option Workspace)). o ∷ l) (at_place f g ws n w at same)

-- and so of the one of a number
pub same_change : (f g : Workspace → Workspace) (s : State) (ws : ℕ) (w : Workspace) → workspace_of s ws ≡ Some w → f w ≡ g w
    → with_changed f ws s ≡ with_changed g ws s
same_change f g s zero w at same = refl
same_change f g s (suc n) w at same = ap (λ (l : List (Option Workspace)). record s { workspaces = l }) (at_place f g s.workspaces n w at same)

-- what goes by the metamodel that is there
by_its_meta : (m : Option Meta) (meta : Meta) (change : Meta → Workspace → Workspace) (w : Workspace) → m ≡ Some meta → by_meta m change w ≡ change meta w
by_its_meta m meta change w is = ap (λ (m : Option Meta). by_meta m change w) is

-- ---- what each event leads to
pub tidy_leads : (s : State) (meta : Meta) (ws : ℕ) (w : Workspace) (operations : List Operation) → s.meta ≡ Some meta → workspace_of s ws ≡ Some w
    → operations ≡ tidy meta w.operations
    → with_changed (replaced operations) ws s ≡ effect s (Tidy ws)
tidy_leads s meta ws w operations begun there is =
    same_change (replaced operations) (by_meta s.meta tidied) s ws w there
    (ap (λ (l : List Operation). replaced l w) is ∙ sym (by_its_meta s.meta meta tidied w begun))

pub update_leads : (s : State) (meta : Meta) (ws : ℕ) (letters : List ℕ) (w : Workspace) (base : ℕ) (operations : List Operation) → s.meta ≡ Some meta
    → workspace_of s ws ≡ Some w
    → base ≡ head s.history w.branch → operations ≡ (updated meta s.history letters w).operations
    → with_changed (restarted base operations) ws s ≡ effect s (Update ws letters)
update_leads s meta ws letters w base operations begun there at is =
    same_change (restarted base operations) (by_meta s.meta (λ meta. updated meta s.history letters)) s ws w there
    (ap (λ (l : List Operation). restarted base l w) is ∙ ap (λ (b : ℕ). restarted b (updated meta s.history letters w).operations w) at
    ∙ sym (by_its_meta s.meta meta (λ meta. updated meta s.history letters) w begun))

pub merge_leads : (s : State) (meta : Meta) (ws branch : ℕ) (letters : List ℕ) (w : Workspace) (more : List Operation) (version : ℕ)
    → s.meta ≡ Some meta → workspace_of s ws ≡ Some w
    → version ≡ head s.history branch → more ≡ merge_tail meta s.history w (head s.history branch) letters
    → with_changed (taken_up more version) ws s ≡ effect s (Merge ws branch letters)
merge_leads s meta ws branch letters w more version begun there at is =
    let change : Meta → Workspace → Workspace = λ meta. merged_with meta s.history (head s.history branch) letters in
    same_change (taken_up more version) (by_meta s.meta change) s ws w there
    (ap (λ (l : List Operation). taken_up l version w) is
    ∙ ap (λ (v : ℕ). taken_up (merge_tail meta s.history w (head s.history branch) letters) v w) at ∙ sym (by_its_meta s.meta meta change w begun))

-- ---- models
-- what holds of the metamodel and of the workspace that is there holds by whatever names they have
of_there : (P : Meta → Workspace → Type 0) (s : State) (meta : Meta) (ws : ℕ) (w : Workspace) → s.meta ≡ Some meta → workspace_of s ws ≡ Some w
    → P meta w → (n : Meta) (v : Workspace) → s.meta ≡ Some n → workspace_of s ws ≡ Some v → P n v
of_there P s meta ws w begun there holds n v is at =
    subst (λ (x : Meta). P x v) (same_Some meta n (sym begun ∙ is)) (subst (λ (x : Workspace). P meta x) (same_Some w v (sym there ∙ at)) holds)

-- tidying leaves the working model
pub tidy_keeps : (s : State) (meta : Meta) (ws : ℕ) (w : Workspace) (operations : List Operation) → IsOrderly s → s.meta ≡ Some meta
    → workspace_of s ws ≡ Some w → is_closed (Some w) ≡ true → operations ≡ tidy meta w.operations → KeepModel s ws operations
tidy_keeps s meta ws w operations orderly begun there closed is =
    let h = s.history in
    let t = is_there s meta ws w orderly begun there in
    let k : Orderly meta s = kept s meta t.in_state in
    let led = tidied_led meta k.metamodel.sound h k.whole k.versions w (in_order s meta w t) closed in
    of_there (λ n v. folded n h (replaced operations v) ≡ folded n h v) s meta ws w begun there
    (ap (λ (l : List Operation). folded meta h (replaced l w)) is ∙ workspace_folded meta h (tidied meta w) led.runs_to
    ∙ ap Some (sym (workspace_model meta h (tidied meta w) led.runs_to) ∙ led.model_is) ∙ sym (models_are_defined s meta w t))

-- theirs of an update lead from the state of the base to that of the head
pub update_theirs : (s : State) (meta : Meta) (ws : ℕ) (w : Workspace) (base : ℕ) (theirs : List Operation) → IsOrderly s → s.meta ≡ Some meta
    → workspace_of s ws ≡ Some w → base ≡ head s.history w.branch → theirs ≡ theirs_of_update s.history w.branch w.base
    → AreTheirs s ws base theirs
update_theirs s meta ws w base theirs orderly begun there at are =
    let h = s.history in
    let t = is_there s meta ws w orderly begun there in
    let k : Orderly meta s = kept s meta t.in_state in
    let q : IsOrderlyWorkspace meta h w = in_order s meta w t in
    of_there (λ n v. fold_package n (state_of n h v.base) theirs ≡ Some (state_of n h base)) s meta ws w begun there
    (ap (fold_package meta (state_of meta h w.base)) are
    ∙ after_leads meta k.metamodel.sound h k.whole k.versions w.base (head h w.branch) (head_within h w.branch k.whole) q.stands.on_path
    ∙ ap (λ (v : ℕ). Some (state_of meta h v)) (sym at))

-- ---- all stays in order
pub put_orderly : (s new : State) (e : Event) → playable_with s s.meta e ≡ true → IsEvent e → IsOrderly s → new ≡ effect s e → IsOrderly new
put_orderly s new e could spelled orderly is = subst IsOrderly (sym is) (effect_keeps s s.meta e refl could spelled orderly)

-- ---- the workspace is there
pub tidy_there : (s : State) (m : Option Meta) (ws : ℕ) → playable_with s m (Tidy ws) ≡ true → is_some (workspace_of s ws) ≡ true
tidy_there s None ws could = absurd cc
tidy_there s (Some meta) ws could = tested (can_tidy meta) refl (workspace_of s ws) could

pub update_there : (s : State) (m : Option Meta) (ws : ℕ) (letters : List ℕ) → playable_with s m (Update ws letters) ≡ true → is_some (workspace_of s ws) ≡ true
update_there s None ws letters could = absurd cc
update_there s (Some meta) ws letters could = tested (can_update meta s.history letters) refl (workspace_of s ws) could

pub merge_there : (s : State) (m : Option Meta) (ws branch : ℕ) (letters : List ℕ) → playable_with s m (Merge ws branch letters) ≡ true
    → is_some (workspace_of s ws) ≡ true
merge_there s None ws branch letters could = absurd cc
merge_there s (Some meta) ws branch letters could = tested (can_merge meta s.history branch letters) refl (workspace_of s ws) could

-- ---- no composite is open in it
update_closed_in : (meta : Meta) (h : History) (letters : List ℕ) (o : Option Workspace) → can_update meta h letters o ≡ true → is_closed o ≡ true
update_closed_in meta h letters None can = absurd cc
update_closed_in meta h letters (Some w) can =
    let apart = not (w.base == head h w.branch) in
    and_left (is_closed (Some w)) apart (and_left (is_closed (Some w) && apart) (are_choices letters (update_buckets meta h w)) can)

pub update_closed : (s : State) (m : Option Meta) (ws : ℕ) (letters : List ℕ) → playable_with s m (Update ws letters) ≡ true
    → is_closed (workspace_of s ws) ≡ true
update_closed s None ws letters could = absurd cc
update_closed s (Some meta) ws letters could = update_closed_in meta s.history letters (workspace_of s ws) could

merge_closed_in : (meta : Meta) (h : History) (branch : ℕ) (letters : List ℕ) (o : Option Workspace) → can_merge meta h branch letters o ≡ true
    → is_closed o ≡ true
merge_closed_in meta h branch letters None can = absurd cc
merge_closed_in meta h branch letters (Some w) can =
    let other = is_other_branch h w branch in
    let some = has_theirs h w (head h branch) in
    and_left (is_closed (Some w)) other
    (and_left (is_closed (Some w) && other) some
    (and_left (is_closed (Some w) && other && some) (are_choices letters (merge_buckets meta h w (head h branch))) can))

pub merge_closed : (s : State) (m : Option Meta) (ws branch : ℕ) (letters : List ℕ) → playable_with s m (Merge ws branch letters) ≡ true
    → is_closed (workspace_of s ws) ≡ true
merge_closed s None ws branch letters could = absurd cc
merge_closed s (Some meta) ws branch letters could = merge_closed_in meta s.history branch letters (workspace_of s ws) could
