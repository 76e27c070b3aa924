-- What was found of a merge and of an update, of the history that the repository has; and whether a merge could be made.
use Rattle.std.proofs.Common.{◌≡◌, ◌≢◌, ◌<◌, ℕ, zero, suc, Bool, true, false, List, map, length, nat_lt, Some, refl, sym, ◌∙◌, ap, arith}
use Rattle.std.specs.Prelude.{◌&&◌}
use Rattle.std.proofs.lemmas.Bool.{lt-ltb, ne_eqb}
use Rattle.ecore_meta.specs.Meta.{Meta}
use Rattle.footprint.specs.declared.bucket.Bucket.{Bucket}
use Rattle.history_tree.specs.History.{History, head}
use Rattle.merge_laws.specs.Merge.{merge_list, update_list}
use Rattle.merge_laws.specs.Choices.{are_choices, side_of}
use Rattle.merge_laws.specs.Plans.{theirs_of_update}
use Rattle.model_state.specs.declared.operation.Operation.{Operation}
use Rattle.op_form.specs.declared.event.Event.TheVariants.{Merge}
use Rattle.plain_repository.specs.Events.{playable_with}
use Rattle.plain_repository.specs.Merging.{has_theirs, is_other_branch, merge_buckets, merge_mine, merge_tail, merge_theirs, update_buckets, updated}
use Rattle.plain_repository.specs.State.{State, Workspace, is_closed, is_open, workspace_of}

-- ---- what a plan has, by the history that it was made from
pub plan_theirs : (h g : History) (w : Workspace) (branch v : ℕ) (theirs : List Operation) → h ≡ g → v ≡ head g branch → theirs ≡ merge_theirs g w v
    → theirs ≡ merge_theirs h w (head h branch)
plan_theirs h g w branch v theirs same at is = is ∙ ap (merge_theirs g w) at ∙ ap (λ (k : History). merge_theirs k w (head k branch)) (sym same)

pub plan_mine : (meta : Meta) (h g : History) (w : Workspace) (branch v : ℕ) (mine : List Operation) → h ≡ g → v ≡ head g branch
    → mine ≡ merge_mine meta g w v → mine ≡ merge_mine meta h w (head h branch)
plan_mine meta h g w branch v mine same at is = is ∙ ap (merge_mine meta g w) at ∙ ap (λ (k : History). merge_mine meta k w (head k branch)) (sym same)

pub plan_rows : (meta : Meta) (h g : History) (w : Workspace) (branch v : ℕ) (rows : List Bucket) → h ≡ g → v ≡ head g branch
    → rows ≡ merge_buckets meta g w v → rows ≡ merge_buckets meta h w (head h branch)
plan_rows meta h g w branch v rows same at is = is ∙ ap (merge_buckets meta g w) at ∙ ap (λ (k : History). merge_buckets meta k w (head k branch)) (sym same)

-- ---- the list that the choices make of it
pub merge_is : (meta : Meta) (h : History) (w : Workspace) (other : ℕ) (letters : List ℕ) (theirs mine list : List Operation) (rows : List Bucket)
    → theirs ≡ merge_theirs h w other → mine ≡ merge_mine meta h w other → rows ≡ merge_buckets meta h w other
    → list ≡ merge_list theirs mine rows (map side_of letters) → list ≡ merge_tail meta h w other letters
merge_is meta h w other letters theirs mine list rows theirs_are mine_are rows_are is =
    is ∙ ap (λ (l : List Operation). merge_list l mine rows (map side_of letters)) theirs_are
    ∙ ap (λ (l : List Operation). merge_list (merge_theirs h w other) l rows (map side_of letters)) mine_are
    ∙ ap (λ (l : List Bucket). merge_list (merge_theirs h w other) (merge_mine meta h w other) l (map side_of letters)) rows_are

pub update_is : (meta : Meta) (h g : History) (w : Workspace) (letters : List ℕ) (theirs mine list : List Operation) (rows : List Bucket) → h ≡ g
    → theirs ≡ theirs_of_update g w.branch w.base → mine ≡ w.operations → rows ≡ update_buckets meta g w
    → list ≡ update_list theirs mine rows (map side_of letters) → list ≡ (updated meta h letters w).operations
update_is meta h g w letters theirs mine list rows same theirs_are mine_are rows_are is =
    is ∙ ap (λ (l : List Operation). update_list l mine rows (map side_of letters)) theirs_are
    ∙ ap (λ (l : List Operation). update_list (theirs_of_update g w.branch w.base) l rows (map side_of letters)) mine_are
    ∙ ap (λ (l : List Bucket). update_list (theirs_of_update g w.branch w.base) w.operations l (map side_of letters)) rows_are
    ∙ ap (λ (k : History). (updated meta k letters w).operations) (sym same)

-- ---- whether there is something to merge
some_are : (n : ℕ) → n ≢ 0 → nat_lt 0 n ≡ true
some_are zero some = absurd (some refl)
some_are (suc n) some = lt-ltb 0 (suc n) (omega arith)

pub nothing_left : (h : History) (w : Workspace) (other : ℕ) (theirs : List Operation) → theirs ≡ merge_theirs h w other → length theirs ≡ 0
    → has_theirs h w other ≡ false
nothing_left h w other theirs is none = ap (λ (l : List Operation). nat_lt 0 (length l)) (sym is) ∙ ap (nat_lt 0) none

pub something_left : (h : History) (w : Workspace) (other : ℕ) (theirs : List Operation) → theirs ≡ merge_theirs h w other → length theirs ≢ 0
    → has_theirs h w other ≡ true
something_left h w other theirs is some = ap (λ (l : List Operation). nat_lt 0 (length l)) (sym is) ∙ some_are (length theirs) some

-- ---- whether it could be made
pub merge_could : (s : State) (meta : Meta) (ws branch : ℕ) (letters : List ℕ) (w : Workspace) → s.meta ≡ Some meta → workspace_of s ws ≡ Some w
    → is_open (Some w) ≡ false → branch < length s.history.branches → branch ≢ w.branch
    → has_theirs s.history w (head s.history branch) ≡ true → are_choices letters (merge_buckets meta s.history w (head s.history branch)) ≡ true
    → playable_with s s.meta (Merge ws branch letters) ≡ true
merge_could s meta ws branch letters w begun there shut low other some fit =
    rw (begun, there, shut, lt-ltb branch (length s.history.branches) low, ne_eqb branch w.branch other, some, fit) refl

and_off : (a b : Bool) → b ≡ false → (a && b) ≡ false
and_off true b is = is
and_off false b is = refl

pub cannot_nothing : (s : State) (meta : Meta) (ws branch : ℕ) (letters : List ℕ) (w : Workspace) → s.meta ≡ Some meta → workspace_of s ws ≡ Some w
    → has_theirs s.history w (head s.history branch) ≡ false → playable_with s s.meta (Merge ws branch letters) ≡ false
cannot_nothing s meta ws branch letters w begun there none =
    rw (begun, there) (ap (λ (b : Bool). b && are_choices letters (merge_buckets meta s.history w (head s.history branch)))
    (and_off (is_closed (Some w) && is_other_branch s.history w branch) (has_theirs s.history w (head s.history branch)) none))

pub cannot_misfit : (s : State) (meta : Meta) (ws branch : ℕ) (letters : List ℕ) (w : Workspace) → s.meta ≡ Some meta → workspace_of s ws ≡ Some w
    → are_choices letters (merge_buckets meta s.history w (head s.history branch)) ≡ false
    → playable_with s s.meta (Merge ws branch letters) ≡ false
cannot_misfit s meta ws branch letters w begun there misfit =
    rw (begun, there) (and_off (is_closed (Some w) && is_other_branch s.history w branch && has_theirs s.history w (head s.history branch))
    (are_choices letters (merge_buckets meta s.history w (head s.history branch))) misfit)
