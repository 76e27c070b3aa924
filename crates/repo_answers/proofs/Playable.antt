-- Which events could be made, by what was found about them.
use Rattle.std.proofs.Common.{◌≡◌, ℕ, ◌<◌, ◌∷◌, List, [], Bool, true, false, length, Option, Some, None, is_some, Ok, refl}
use Rattle.std.specs.Prelude.{IfSome, is_ok, slice_get, nat_eq, ◌&&◌, ◌||◌}
use Rattle.std.specs.Option.{option_map_or}
use Rattle.std.proofs.lemmas.Bool.{lt-ltb}
use Rattle.ecore_meta.specs.Meta.{Meta}
use Rattle.ecore_json.specs.Metamodel.{metamodel_of}
use Rattle.model_state.specs.Packages.{fold_package}
use Rattle.model_state.specs.declared.operation.Operation.{Operation}
use Rattle.history_tree.specs.declared.found.Found.{Found}
use Rattle.history_tree.specs.declared.version.Version.{Version}
use Rattle.history_tree.specs.declared.version.Tag.{Tag}
use Rattle.history_tree.proofs.Heads.{same_number}
use Rattle.history_tree.specs.History.{History, head}
use Rattle.history_tree.specs.Found.{on_its_branch, at_its_head, of_its_version, branch_named, tag_named}
use Rattle.op_form.specs.declared.event.Event.TheVariants.{Init, Checkout, Edit}
use Rattle.script_lang.specs.declared.command.Spec.{Spec}
use Rattle.script_lang.specs.declared.command.Spec.TheVariants.{Number, Branch, Tag as TagNamed}
use Rattle.plain_repository.specs.State.{State, Composite, Workspace, workspace_of, model_of}
use Rattle.plain_repository.specs.Edits.{takes}
use Rattle.plain_repository.specs.Events.{playable_with}
use Rattle.plain_repository.specs.Specs.{found_by_spec}

pub init_could : (s : State) (meta : Option Meta) (text : List ℕ) → meta ≡ None → is_ok (metamodel_of text) ≡ true → playable_with s meta (Init text) ≡ true
init_could s meta text none is = rw none is

pub edit_could : (s : State) (m : Option Meta) (meta : Meta) (ws : ℕ) (w : Workspace) (o : Operation) → m ≡ Some meta → workspace_of s ws ≡ Some w
    → is_some (fold_package meta (model_of meta s.history w) (o ∷ [])) ≡ true
    → playable_with s m (Edit ws (o ∷ [])) ≡ true
edit_could s m meta ws w o is there can =
    rw (is, there) (and_true (takes w.composite (o ∷ [])) (is_some (fold_package meta (model_of meta s.history w) (o ∷ []))) (one_taken w.composite) can)
  where
    and_true : (b c : Bool) → b ≡ true → c ≡ true → (b && c) ≡ true
    and_true true c is also = also
    and_true false c is also = absurd cc

    one_taken : (c : Option Composite) → takes c (o ∷ []) ≡ true
    one_taken None = refl
    one_taken (Some c) = refl

-- the version that was found is of the branch that was found, or is its head
abbrev on_it : (h : History) (version branch : ℕ) → Bool
on_it h version branch = option_map_or (λ (v : Version). nat_eq v.branch branch) (slice_get h.versions version) false || nat_eq (head h branch) version

number_on : (h : History) (v : ℕ) (found : Found) (o : Option Version) → slice_get h.versions v ≡ o → on_its_branch v o ≡ Ok found
    → on_it h found.version found.branch ≡ true
number_on h v found None at is = absurd cc
number_on h v found (Some version) at is =
    let version_is : found.version ≡ v = cc in
    let branch_is : found.branch ≡ version.branch = cc in
    rw (version_is, branch_is, at, same_number version.branch) refl

or_true : (b : Bool) → (b || true) ≡ true
or_true true = refl
or_true false = refl

branch_on : (h : History) (found : Found) (o : Option ℕ) → at_its_head h o ≡ Ok found → on_it h found.version found.branch ≡ true
branch_on h found None is = absurd cc
branch_on h found (Some branch) is =
    let version_is : found.version ≡ head h branch = cc in
    let branch_is : found.branch ≡ branch = cc in
    rw (version_is, branch_is, same_number (head h branch))
    (or_true (option_map_or (λ (v : Version). nat_eq v.branch branch) (slice_get h.versions (head h branch)) false))

tag_on : (h : History) (found : Found) (o : Option Tag) → of_its_version h o ≡ Ok found → on_it h found.version found.branch ≡ true
tag_on h found None is = absurd cc
tag_on h found (Some tag) is = number_on h tag.version found (slice_get h.versions tag.version) refl is

spec_on : (h : History) (spec : Spec) (found : Found) → found_by_spec h spec ≡ Ok found → on_it h found.version found.branch ≡ true
spec_on h (Number n) found is = number_on h n found (slice_get h.versions n) refl is
spec_on h (Branch name) found is = branch_on h found (branch_named h name) is
spec_on h (TagNamed name) found is = tag_on h found (tag_named h name) is

pub checkout_could : (s : State) (meta : Meta) (spec : Spec) (found : Found) → s.meta ≡ Some meta → found_by_spec s.history spec ≡ Ok found
    → found.version < length s.history.versions → found.branch < length s.history.branches
    → playable_with s s.meta (Checkout found.version found.branch) ≡ true
checkout_could s meta spec found begun is version branch =
    rw (begun, lt-ltb found.version (length s.history.versions) version, lt-ltb found.branch (length s.history.branches) branch)
    (spec_on s.history spec found is)

-- what holds of the operation, where there is one
pub each_could : (o : Option Operation) (Holds : Operation → Type 0) → ((x : Operation) → o ≡ Some x → Holds x) → IfSome o Holds
each_could None Holds h = tt
each_could (Some x) Holds h = h x refl

-- where no composite is open, any operations are taken
pub takes_closed : (c : Option Composite) → is_some c ≡ false → (os : List Operation) → takes c os ≡ true
takes_closed None shut os = refl
takes_closed (Some c) shut os = absurd cc
