-- What names a version finds one that can be checked out.
use Rattle.std.proofs.Common.{◌≡◌, ℕ, ◌<◌, ◌&&◌, ◌||◌, nat_lt, nat_eq, List, [], length, Bool, true, false, Option, None, Some, Result, Ok, refl, subst}
use Rattle.std.specs.Prelude.{All, slice_get}
use Rattle.std.specs.Option.{option_map_or}
use Rattle.std.proofs.lemmas.Bool.{and_from, lt-ltb}
use Rattle.std.proofs.lemmas.List.Quantifiers.{position-Some}
use Rattle.std.proofs.lemmas.Option.{slice_get_within, get_or_from_slice_get}
use Rattle.history_tree.specs.declared.version.Tag.{Tag}
use Rattle.history_tree.specs.declared.version.Version.{Version}
use Rattle.history_tree.specs.declared.found.Found.{Found}
use Rattle.history_tree.specs.declared.found.FindFault.{FindFault}
use Rattle.history_tree.specs.History.{History, head}
use Rattle.history_tree.specs.Found.{is_branch_named, branch_named, tag_named, on_its_branch, at_its_head, of_its_version}
use Rattle.history_tree.specs.Whole.{IsWhole}
use Rattle.history_tree.proofs.Heads.{head_within, same_number}
use Rattle.script_lang.specs.declared.command.Spec.{Spec}
use Rattle.script_lang.specs.declared.command.Spec.TheVariants as specs
use Rattle.plain_repository.specs.Checkouts.{can_check_out}
use Rattle.plain_repository.specs.Specs.{found_by_spec}

-- the version is of that branch, or is its head
abbrev is_on : History → ℕ → ℕ → Bool
is_on h version branch = option_map_or (λ (v : Version). nat_eq v.branch branch) (slice_get h.versions version) false || nat_eq (head h branch) version

within_both : (h : History) (version branch : ℕ) → version < length h.versions → branch < length h.branches → is_on h version branch ≡ true
    → can_check_out h version branch ≡ true
within_both h version branch first second on =
    let there = and_from (nat_lt version (length h.versions)) (nat_lt branch (length h.branches)) (lt-ltb _ _ first) (lt-ltb _ _ second) in
    and_from (nat_lt version (length h.versions) && nat_lt branch (length h.branches)) (is_on h version branch) there on

at : {X : Type 0} (P : X → Type 0) (xs : List X) (k : ℕ) (x : X) → slice_get xs k ≡ Some x → All P xs → P x
at P xs k x there all = subst P (get_or_from_slice_get xs k x x there) (all k x (slice_get_within xs k x there))

same_found : (f g : Found) → ◌≡◌ {A = Result Found FindFault} (Ok f) (Ok g) → f ≡ g
same_found f g is = cc

or_true : (b : Bool) → (b || true) ≡ true
or_true true = refl
or_true false = refl

number_found : (h : History) → IsWhole h → (v : ℕ) (o : Option Version) → slice_get h.versions v ≡ o → (found : Found) → on_its_branch v o ≡ Ok found
    → can_check_out h found.version found.branch ≡ true
number_found h whole v None there found is = absurd cc
number_found h whole v (Some version) there found is =
    let on : is_on h v version.branch ≡ true = rw (there, same_number version.branch) refl in
    let within = at (λ (x : Version). x.branch < length h.branches) h.versions v version there whole.branches in
    subst (λ (f : Found). can_check_out h f.version f.branch ≡ true) (same_found (record { version = v; branch = version.branch }) found is)
    (within_both h v version.branch (slice_get_within h.versions v version there) within on)

branch_found : (h : History) → IsWhole h → (name : List ℕ) (o : Option ℕ) → branch_named h name ≡ o → (found : Found) → at_its_head h o ≡ Ok found
    → can_check_out h found.version found.branch ≡ true
branch_found h whole name None there found is = absurd cc
branch_found h whole name (Some branch) there found is =
    let within : branch < length h.branches = (position-Some (is_branch_named name) h.branches branch (record { name = []; start = 0 }) there).0 in
    let own : Bool = option_map_or (λ (v : Version). nat_eq v.branch branch) (slice_get h.versions (head h branch)) false in
    let on : is_on h (head h branch) branch ≡ true = rw (same_number (head h branch)) (or_true own) in
    subst (λ (f : Found). can_check_out h f.version f.branch ≡ true) (same_found (record { version = head h branch; branch = branch }) found is)
    (within_both h (head h branch) branch (head_within h branch whole) within on)

tag_is_found : (h : History) → IsWhole h → (o : Option Tag) (found : Found) → of_its_version h o ≡ Ok found → can_check_out h found.version found.branch ≡ true
tag_is_found h whole None found is = absurd cc
tag_is_found h whole (Some tag) found is = number_found h whole tag.version (slice_get h.versions tag.version) refl found is

pub named_there : (h : History) → IsWhole h → (spec : Spec) (found : Found) → found_by_spec h spec ≡ Ok found
    → can_check_out h found.version found.branch ≡ true
named_there h whole (specs.Number v) found is = number_found h whole v (slice_get h.versions v) refl found is
named_there h whole (specs.Branch name) found is = branch_found h whole name (branch_named h name) refl found is
named_there h whole (specs.Tag name) found is = tag_is_found h whole (tag_named h name) found is
