-- What was answered to the choices of an update and of a merge.
use Rattle.std.proofs.Common.{◌≡◌, ◌≢◌, ℕ, true, false, List, [], Option, None, Some, refl, sym, ◌∙◌, ap, subst}
use Rattle.std.specs.Prelude.{IfNone, IfSome, unwrap_or}
use Rattle.std.specs.Fmt.{decimal}
use Rattle.std.proofs.lemmas.Bool.{ne_eqb}
use Rattle.ecore_meta.specs.Meta.{Meta}
use Rattle.footprint.specs.declared.bucket.Bucket.{Bucket}
use Rattle.history_tree.specs.History.{History, head}
use Rattle.history_tree.proofs.Heads.{same_number}
use Rattle.merge_laws.specs.Choices.{are_choices}
use Rattle.op_form.specs.declared.event.Event.TheVariants.{Merge, Update}
use Rattle.plain_repository.specs.Answers as plain
use Rattle.plain_repository.specs.Answers.{told, with_room}
use Rattle.plain_repository.specs.Choices.{chosen}
use Rattle.plain_repository.specs.Events.{playable_with}
use Rattle.plain_repository.specs.Merging.{decide_update, has_theirs, merge_buckets, merge_to, update_buckets, update_to}
use Rattle.plain_repository.specs.State.{State, Workspace, is_open, workspace_of}
use Rattle.repo_answers.specs.Decisions.{CanMakeIt, plain_decision}
use Rattle.repo_answers.specs.declared.deciding.answers.Decision.{Decision}
use Rattle.repo_state.proofs.Merges.{plan_rows}

pub merge_none : (s : State) (ws : ℕ) (w : Workspace) (branch : ℕ) (letters : List ℕ) (other : ℕ) → has_theirs s.history w other ≡ false
    → merge_to s ws w branch letters other ≡ told [] (decimal other)
merge_none s ws w branch letters other none = rw none refl

pub merge_some : (s : State) (ws : ℕ) (w : Workspace) (branch : ℕ) (letters : List ℕ) (other : ℕ) → has_theirs s.history w other ≡ true
    → merge_to s ws w branch letters other ≡ with_room s [] (decimal other) (Merge ws branch letters)
merge_some s ws w branch letters other some = rw some refl

-- ---- what was answered to the choices
pub refused_made : (o : Option Decision) (d : Decision) (s : State) → o ≡ Some d → IfSome o (λ d. (s : State) → CanMakeIt s d.made) → CanMakeIt s d.made
refused_made o d s is made = subst (λ (x : Option Decision). IfSome x (λ d. (s : State) → CanMakeIt s d.made)) is made s

pub refused_seen : (o : Option Decision) (d : Decision) (rows : List Bucket) (choices : Option (List ℕ)) (x : plain.Decision) → o ≡ Some d
    → IfSome o (λ d. (otherwise : plain.Decision) → plain_decision d ≡ chosen rows choices otherwise) → plain_decision d ≡ chosen rows choices x
refused_seen o d rows choices x is refused =
    subst (λ (y : Option Decision). IfSome y (λ d. (otherwise : plain.Decision) → plain_decision d ≡ chosen rows choices otherwise)) is refused x

pub passed_on : (o : Option Decision) (rows : List Bucket) (choices : Option (List ℕ)) (x : plain.Decision) → o ≡ None
    → IfNone o ((otherwise : plain.Decision) → chosen rows choices otherwise ≡ otherwise) → chosen rows choices x ≡ x
passed_on o rows choices x is passed =
    subst (λ (y : Option Decision). IfNone y ((otherwise : plain.Decision) → chosen rows choices otherwise ≡ otherwise)) is passed x

-- of a merge, by the buckets of a plan that was made of the branch's head
pub merge_passed : (meta : Meta) (s : State) (g : History) (ws : ℕ) (w : Workspace) (branch other : ℕ) (rows : List Bucket) (choices : Option (List ℕ))
    (o : Option Decision) → s.history ≡ g → other ≡ head g branch → rows ≡ merge_buckets meta g w other → o ≡ None
    → IfNone o ((otherwise : plain.Decision) → chosen rows choices otherwise ≡ otherwise)
    → chosen (merge_buckets meta s.history w (head s.history branch)) choices
    (merge_to s ws w branch (unwrap_or choices []) (head s.history branch))
    ≡ merge_to s ws w branch (unwrap_or choices []) (head s.history branch)
merge_passed meta s g ws w branch other rows choices o same at rows_are is passed =
    let answer = merge_to s ws w branch (unwrap_or choices []) (head s.history branch) in
    ap (λ (l : List Bucket). chosen l choices answer) (sym (plan_rows meta s.history g w branch other rows same at rows_are))
    ∙ passed_on o rows choices answer is passed

pub passed_fit : (o : Option Decision) (rows : List Bucket) (choices : Option (List ℕ)) → o ≡ None
    → IfNone o (are_choices (unwrap_or choices []) rows ≡ true) → are_choices (unwrap_or choices []) rows ≡ true
passed_fit o rows choices is fit = subst (λ (y : Option Decision). IfNone y (are_choices (unwrap_or choices []) rows ≡ true)) is fit

-- ---- what an update is answered, where no composite is open
pub update_goes : (s : State) (meta : Meta) (ws : ℕ) (w : Workspace) (choices : Option (List ℕ)) → workspace_of s ws ≡ Some w → is_open (Some w) ≡ false
    → chosen (update_buckets meta s.history w) choices (update_to s ws w (unwrap_or choices []) (head s.history w.branch)) ≡ decide_update s meta ws choices
unfolding decide_update
update_goes s meta ws w choices there closed = sym (rw (there, closed) refl)

pub update_none : (s : State) (ws : ℕ) (w : Workspace) (letters : List ℕ) (version : ℕ) → w.base ≡ version
    → update_to s ws w letters version ≡ told [] (decimal version)
update_none s ws w letters version same = rw (same, same_number version) refl

pub update_some : (s : State) (ws : ℕ) (w : Workspace) (letters : List ℕ) (version : ℕ) → w.base ≢ version
    → update_to s ws w letters version ≡ with_room s [] (decimal version) (Update ws letters)
update_some s ws w letters version other = rw (ne_eqb w.base version other) refl

pub update_could : (s : State) (meta : Meta) (ws : ℕ) (letters : List ℕ) (w : Workspace) → s.meta ≡ Some meta → workspace_of s ws ≡ Some w
    → is_open (Some w) ≡ false → w.base ≢ head s.history w.branch
    → are_choices letters (update_buckets meta s.history w) ≡ true → playable_with s s.meta (Update ws letters) ≡ true
update_could s meta ws letters w begun there shut other fit = rw (begun, there, shut, ne_eqb w.base (head s.history w.branch) other, fit) refl

-- the buckets of a plan, by the history of the state
pub plan_rows_are : (h g : History) (meta : Meta) (w : Workspace) (rows : List Bucket) → h ≡ g → rows ≡ update_buckets meta g w → rows ≡ update_buckets meta h w
plan_rows_are h g meta w rows same is = is ∙ ap (λ (k : History). update_buckets meta k w) (sym same)
