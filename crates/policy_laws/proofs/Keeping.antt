-- What an event of a workspace leaves, and what a checkout leaves; and that such leavings follow one another.
use Rattle.std.proofs.Common.{◌≡◌, ◌≢◌, ◌⊎◌, inl, inr, ⊎_elim, arith, ℕ, zero, suc, List, [], ◌∷◌, ◌++◌, Bool, true, false, Option, None, Some, refl, sym}
use Rattle.std.proofs.Common.{◌∙◌, ap, subst, append_assoc}
use Rattle.std.specs.Prelude.{slice_get}
use Rattle.std.specs.List.{AllByRecursion}
use Rattle.std.specs.Option.{option_map_or}
use Rattle.std.proofs.lemmas.Bool.{eqb-true}
use Rattle.std.proofs.lemmas.List.{append-nil}
use Rattle.std.proofs.lemmas.Option.{same_Some, slice_get_within}
use Rattle.history_tree.specs.declared.version.Branch.{Branch}
use Rattle.history_tree.specs.declared.version.Signature.{Signature}
use Rattle.history_tree.specs.declared.version.Version.{Version}
use Rattle.history_tree.specs.History.{History, head, last_on}
use Rattle.history_tree.specs.Found.{branch_name}
use Rattle.history_tree.proofs.Heads.{head_other}
use Rattle.op_form.specs.declared.event.Event.{Event}
use Rattle.op_form.specs.declared.event.Event.TheVariants.{Init, Checkout, Edit, Begin, End, Undo, Discard, Tidy, Commit, Branch as MadeBranch, Tag, Update}
use Rattle.op_form.specs.declared.event.Event.TheVariants.{Merge}
use Rattle.op_form.specs.declared.event.Event.TheVariants.{Drop, Evolve, Upgrade, Signed}
use Rattle.plain_repository.specs.State.{State, Workspace, untouched, workspace_of}
use Rattle.plain_repository.specs.Commits.{version_of, with_commit, with_new_branch}
use Rattle.plain_repository.specs.Events.{effect, play, is_of}
use Rattle.plain_repository.specs.Laws.{IsPrefix}
use Rattle.plain_repository.proofs.Apart.{events_are_of_one, workspaces_stay_apart}
use Rattle.plain_repository.proofs.Numbers.{numbers_only_grow}
use Rattle.policy_laws.proofs.Workspaces.{number_left, own_branch, opened_only}
use Rattle.policy_laws.specs.Tables.{IsCheckout, IsWorkIn}
use Rattle.policy_laws.specs.Keeping.{KeepsCommon, IsFresh, IsNew, OnlyOpens, IsOn, OnlyOn}

-- ---- branches by number and by name
-- what stands at a place stays there when more comes behind
pub stays_at : {X : Type 0} (xs ys : List X) (k : ℕ) (x : X) → slice_get xs k ≡ Some x → slice_get (xs ++ ys) k ≡ Some x
stays_at [] ys k x is = absurd cc
stays_at (x ∷ xs) ys zero y is = is
stays_at (x ∷ xs) ys (suc k) y is = stays_at xs ys k y is

abbrev name_in : Option Branch → List ℕ
name_in o = option_map_or (λ b. b.name) o []

-- a branch that is there has its name
named : (h : History) (k : ℕ) (branch : Branch) → slice_get h.branches k ≡ Some branch → branch_name h k ≡ branch.name
named h k branch at = ap name_in at

-- a branch of a name that is not empty is there, and keeps its name when branches are added
pub name_stays : (h g : History) (k : ℕ) (name : List ℕ) → name ≢ [] → branch_name h k ≡ name → IsPrefix h.branches g.branches → branch_name g k ≡ name
name_stays h g k name some is more = by (slice_get h.branches k) refl
  where
    by : (o : Option Branch) → slice_get h.branches k ≡ o → branch_name g k ≡ name
    by None at = absurd (some (sym is ∙ ap name_in at))
    by (Some branch) at =
        let there : slice_get g.branches k ≡ Some branch = ap (λ (bs : List Branch). slice_get bs k) more.1 ∙ stays_at h.branches more.0 k branch at in
        named g k branch there ∙ sym (named h k branch at) ∙ is

same_prefix : {X : Type 0} (xs : List X) → IsPrefix xs xs
same_prefix xs = ([], sym (append-nil xs))

-- ---- the history
-- what an event of a workspace on the branch of that name leaves, beside the workspaces
record Leaves (name : List ℕ) (s t : State) : Type 0 where
  common : KeepsCommon s t
  branches : IsPrefix s.history.branches t.history.branches
  made : List Version
  versions : t.history.versions ≡ s.history.versions ++ made
  on : AllByRecursion (IsOn t.history name) made
  heads : (k : ℕ) (branch : Branch) → slice_get s.history.branches k ≡ Some branch → branch.name ≢ name → head t.history k ≡ head s.history k

-- where the history stays
same : {name : List ℕ} {s t : State} → t.meta ≡ s.meta → t.upgraded ≡ s.upgraded → t.history ≡ s.history → Leaves name s t
same {name} {s} {t} meta upgraded history = record {
  common = record { meta = meta; upgraded = upgraded; tags = ap (λ (h : History). h.tags) history };
  branches = ([], ap (λ (h : History). h.branches) history ∙ sym (append-nil s.history.branches));
  made = [];
  versions = ap (λ (h : History). h.versions) history ∙ sym (append-nil s.history.versions);
  on = tt;
  heads = λ k branch at other. ap (λ (h : History). head h k) history;
}

module _ (name : List ℕ) (s : State) (ws : ℕ) where
  -- a number that is that of the workspace's branch, with another name than that
  clash : (w : Workspace) (k : ℕ) (branch : Branch) → branch_name s.history w.branch ≡ name → slice_get s.history.branches k ≡ Some branch
      → branch.name ≢ name → w.branch ≢ k
  clash w k branch on at other is = other (sym (named s.history k branch at) ∙ ap (branch_name s.history) (sym is) ∙ on)

  commit_leaves : (signature : Option Signature) (message : List ℕ) (o : Option Workspace)
      → ((w : Workspace) → o ≡ Some w → branch_name s.history w.branch ≡ name)
      → Leaves name s (with_commit ws signature message o s)
  commit_leaves signature message None on = same refl refl refl
  commit_leaves signature message (Some w) on =
      let version = version_of w signature message in
      record {
        common = record { meta = refl; upgraded = refl; tags = refl };
        branches = same_prefix s.history.branches;
        made = version ∷ [];
        versions = refl;
        on = (on w refl, tt);
        heads = λ k branch at other. head_other s.history version k (clash w k branch (on w refl) at other);
      }

  branch_leaves : (new : List ℕ) (o : Option Workspace) → Leaves name s (with_new_branch ws new o s)
  branch_leaves new None = same refl refl refl
  branch_leaves new (Some w) =
      let added : Branch = record { name = new; start = w.base } in
      record {
        common = record { meta = refl; upgraded = refl; tags = refl };
        branches = (added ∷ [], refl);
        made = [];
        versions = sym (append-nil s.history.versions);
        on = tt;
        heads = λ k branch at other. ap (λ (o : Option Branch). last_on k s.history.versions 0 (option_map_or (λ b. b.start) o 0))
            (stays_at s.history.branches (added ∷ []) k branch at ∙ sym at);
      }

  -- each event of the workspace
  effect_leaves : (e : Event) → is_of ws e ≡ true → ((w : Workspace) → workspace_of s ws ≡ Some w → branch_name s.history w.branch ≡ name)
      → Leaves name s (effect s e)
  effect_leaves (Init text) of on = absurd cc
  effect_leaves (Checkout version branch) of on = absurd cc
  effect_leaves (Edit k operations) of on = same refl refl refl
  effect_leaves (Begin k composite) of on = same refl refl refl
  effect_leaves (End k) of on = same refl refl refl
  effect_leaves (Undo k) of on = same refl refl refl
  effect_leaves (Discard k) of on = same refl refl refl
  effect_leaves (Tidy k) of on = same refl refl refl
  effect_leaves (Commit k message) of on =
      let this : k ≡ ws = eqb-true k ws of in
      subst (λ (n : ℕ). Leaves name s (effect s (Commit n message))) (sym this) (commit_leaves None message (workspace_of s ws) on)
  effect_leaves (MadeBranch k new) of on =
      let this : k ≡ ws = eqb-true k ws of in
      subst (λ (n : ℕ). Leaves name s (effect s (MadeBranch n new))) (sym this) (branch_leaves new (workspace_of s ws))
  effect_leaves (Tag tag version) of on = absurd cc
  effect_leaves (Update k letters) of on = same refl refl refl
  effect_leaves (Merge k branch letters) of on = same refl refl refl
  effect_leaves (Drop k) of on = same refl refl refl
  effect_leaves (Evolve text) of on = absurd cc
  effect_leaves Upgrade of on = absurd cc
  effect_leaves (Signed k author moment message) of on =
      let this : k ≡ ws = eqb-true k ws of in
      subst (λ (n : ℕ). Leaves name s (effect s (Signed n author moment message))) (sym this)
      (commit_leaves (Some (record { author = author; moment = moment })) message (workspace_of s ws) on)

  -- ---- the workspaces of other branches
  module _ (e : Event) (work : IsWorkIn s ws e) (on : branch_name s.history work.workspace.branch ≡ name) where
    others_stay : (k : ℕ) (branch : Branch) → slice_get s.history.branches k ≡ Some branch → branch.name ≢ name
        → (n : ℕ) (v : Workspace) → workspace_of s n ≡ Some v → v.branch ≡ k → workspace_of (play s e) n ≡ Some v
    others_stay k branch at other n v there is = by (is_of n e) refl
      where
        by : (b : Bool) → is_of n e ≡ b → workspace_of (play s e) n ≡ Some v
        by false apart = workspaces_stay_apart s n v there e apart
        by true of =
            let this : n ≡ ws = events_are_of_one e n ws of work.of in
            let one : v ≡ work.workspace = same_Some v work.workspace (sym there ∙ ap (workspace_of s) this ∙ work.there) in
            absurd (clash work.workspace k branch on at other (ap (λ (w : Workspace). w.branch) (sym one) ∙ is))

    -- no workspace comes onto another branch that there was
    none_comes : (k : ℕ) (branch : Branch) → slice_get s.history.branches k ≡ Some branch → branch.name ≢ name
        → (n : ℕ) (v : Workspace) → workspace_of (play s e) n ≡ Some v → v.branch ≡ k → (workspace_of s n ≡ Some v) ⊎ IsNew s n v
    none_comes k branch at other n v there is = by (is_of n e) refl
      where
        by : (b : Bool) → is_of n e ≡ b → (workspace_of s n ≡ Some v) ⊎ IsNew s n v
        by false apart = inl (sym (number_left s ws n e work.of apart) ∙ there)
        by true of =
            let this : n ≡ ws = events_are_of_one e n ws of work.of in
            let now : workspace_of (play s e) ws ≡ Some v = ap (workspace_of (play s e)) (sym this) ∙ there in
            ⊎_elim (λ same. absurd (clash work.workspace k branch on at other (sym same ∙ is)))
            (λ new. absurd (omega (arith, slice_get_within s.history.branches k branch at, sym is ∙ new)))
            (own_branch s ws work.workspace v work.there e work.of now)

    -- all that an event of a workspace on the branch leaves
    pub work_stays : OnlyOn name s (play s e)
    unfolding play
    work_stays =
        let left = effect_leaves e work.of
        (λ w there. ap (λ (v : Workspace). branch_name s.history v.branch) (same_Some w work.workspace (sym there ∙ work.there)) ∙ on) in
        record {
          common = record { meta = left.common.meta; upgraded = left.common.upgraded; tags = left.common.tags };
          branches = left.branches;
          made = left.made;
          versions = left.versions;
          on = left.on;
          numbers = numbers_only_grow s e;
          others = λ k branch at other. record {
            head_is = left.heads k branch at other;
            workspaces = others_stay k branch at other;
            no_others = none_comes k branch at other;
          };
        }

-- ---- a checkout
opens : (s : State) (version branch : ℕ) → OnlyOpens s (play s (Checkout version branch))
unfolding play
opens s version branch = record {
  meta = refl;
  history = refl;
  upgraded = refl;
  opened = Some (untouched branch version) ∷ [];
  workspaces = refl;
  fresh = (record { branch = branch; base = version; is = refl }, tt);
}

pub checkout_opens : (s : State) (e : Event) → IsCheckout e → OnlyOpens s (play s e)
checkout_opens s e c = subst (λ (x : Event). OnlyOpens s (play s x)) (sym c.is) (opens s c.version c.branch)

opens_on : (name : List ℕ) (s : State) (version branch : ℕ) → OnlyOn name s (play s (Checkout version branch))
opens_on name s version branch =
    let o = opens s version branch in
    let left : Leaves name s (play s (Checkout version branch)) = same o.meta o.upgraded o.history in
    record {
      common = left.common;
      branches = left.branches;
      made = left.made;
      versions = left.versions;
      on = left.on;
      numbers = numbers_only_grow s (Checkout version branch);
      others = λ k b at other. record {
        head_is = left.heads k b at other;
        workspaces = λ n v there is. workspaces_stay_apart s n v there (Checkout version branch) refl;
        no_others = λ n v there is. opened_only s version branch n v there;
      };
    }

pub checkout_stays : (name : List ℕ) (s : State) (e : Event) → IsCheckout e → OnlyOn name s (play s e)
checkout_stays name s e c = subst (λ (x : Event). OnlyOn name s (play s x)) (sym c.is) (opens_on name s c.version c.branch)

-- ---- one after another
pub opens_none : (s : State) → OnlyOpens s s
opens_none s =
    record { meta = refl; history = refl; upgraded = refl; opened = []; workspaces = sym (append-nil s.workspaces); fresh = tt }

both : {X : Type 0} (P : X → Type 0) (xs ys : List X) → AllByRecursion P xs → AllByRecursion P ys → AllByRecursion P (xs ++ ys)
both P [] ys first second = second
both P (x ∷ xs) ys first second = (first.0, both P xs ys first.1 second)

pub opens_more : (s t u : State) → OnlyOpens s t → OnlyOpens t u → OnlyOpens s u
opens_more s t u a b = record {
  meta = b.meta ∙ a.meta;
  history = b.history ∙ a.history;
  upgraded = b.upgraded ∙ a.upgraded;
  opened = a.opened ++ b.opened;
  workspaces = b.workspaces ∙ ap (λ (l : List (Option Workspace)). l ++ b.opened) a.workspaces ∙ append_assoc s.workspaces a.opened b.opened;
  fresh = both IsFresh a.opened b.opened a.fresh b.fresh;
}

pub common_more : (s t u : State) → KeepsCommon s t → KeepsCommon t u → KeepsCommon s u
common_more s t u a b = record { meta = b.meta ∙ a.meta; upgraded = b.upgraded ∙ a.upgraded; tags = b.tags ∙ a.tags }

pub common_same : (s : State) → KeepsCommon s s
common_same s = record { meta = refl; upgraded = refl; tags = refl }

pub on_none : (name : List ℕ) (s : State) → OnlyOn name s s
on_none name s = record {
  common = common_same s;
  branches = same_prefix s.history.branches;
  made = [];
  versions = sym (append-nil s.history.versions);
  on = tt;
  numbers = omega arith;
  others = λ k branch at other. record { head_is = refl; workspaces = λ n v there is. there; no_others = λ n v there is. inl there };
}

module _ (name : List ℕ) (some : name ≢ []) (s t u : State) (a : OnlyOn name s t) (b : OnlyOn name t u) where
  on_still : (made : List Version) → AllByRecursion (IsOn t.history name) made → AllByRecursion (IsOn u.history name) made
  on_still [] all = tt
  on_still (v ∷ made) all = (name_stays t.history u.history v.branch name some all.0 b.branches, on_still made all.1)

  pub on_more : OnlyOn name s u
  on_more = record {
    common = common_more s t u a.common b.common;
    branches = (
      a.branches.0 ++ b.branches.0,
      b.branches.1 ∙ ap (λ (l : List Branch). l ++ b.branches.0) a.branches.1
          ∙ append_assoc s.history.branches a.branches.0 b.branches.0,
    );
    made = a.made ++ b.made;
    versions = b.versions ∙ ap (λ (l : List Version). l ++ b.made) a.versions ∙ append_assoc s.history.versions a.made b.made;
    on = both (IsOn u.history name) a.made b.made (on_still a.made a.on) b.on;
    numbers = omega (arith, a.numbers, b.numbers);
    others = λ k branch at other.
        let there : slice_get t.history.branches k ≡ Some branch =
        ap (λ (bs : List Branch). slice_get bs k) a.branches.1 ∙ stays_at s.history.branches a.branches.0 k branch at in
        let first = a.others k branch at other in
        let next = b.others k branch there other in
        record {
          head_is = next.head_is ∙ first.head_is;
          workspaces = λ n v is on. next.workspaces n v (first.workspaces n v is on) on;
          no_others = λ n v is on. ⊎_elim (λ there. first.no_others n v there on)
              (λ new. inr (record { number = omega (arith, a.numbers, new.number); is = new.is })) (next.no_others n v is on);
        };
  }
