-- What `update`, `merge` and `package` say.
use Rattle.std.proofs.Common.{◌≡◌, ℕ, nat_eq, List, [], ◌∷◌, ◌++◌, Bool, true, false, Option, None, Some, Result, Ok, Err, refl, ap}
use Rattle.std.specs.Prelude.{codes, unwrap_or, if◌then◌else◌}
use Rattle.std.specs.Fmt.{decimal}
use Rattle.hex.specs.Hex.{encode_lower}
use Rattle.ecore_meta.specs.Meta.{Meta}
use Rattle.history_tree.specs.declared.found.Found.{Found}
use Rattle.history_tree.specs.declared.found.FindFault.{FindFault}
use Rattle.history_tree.specs.Found.{branch_named}
use Rattle.history_tree.specs.History.{head}
use Rattle.history_tree.specs.States.{package_of_version}
use Rattle.op_form.specs.Formed.{is_package}
use Rattle.op_form.specs.Packages.{package_encoding}
use Rattle.op_form.specs.declared.event.Event.TheVariants.{Update, Merge}
use Rattle.op_form.proofs.FormedLaws.{is_package_is}
use Rattle.op_reading.specs.Events.{whole_of}
use Rattle.op_reading.specs.Packages.{package_at}
use Rattle.op_reading.proofs.Codes.{whole_again}
use Rattle.op_reading.proofs.PackageCodes.{package_codes}
use Rattle.shown_lines.specs.Lines.{operation_lines}
use Rattle.shown_lines.specs.Versions.{package_lines}
use Rattle.script_lang.specs.declared.command.Command.TheVariants as commands
use Rattle.script_lang.specs.declared.command.Spec.{Spec}
use Rattle.script_lang.specs.declared.reply.Refusal.TheVariants as refusals
use Rattle.plain_repository.specs.State.{State, Workspace, workspace_of, is_open}
use Rattle.plain_repository.specs.Answers.{refused, told}
use Rattle.plain_repository.specs.Asked.{Names}
use Rattle.plain_repository.specs.Merging.{update_buckets, update_in, decide_update, has_theirs, merge_buckets, merge_named, merge_in}
use Rattle.plain_repository.specs.Merging.{decide_merge}
use Rattle.plain_repository.specs.Repository.{decide_with, decide_command}
use Rattle.plain_repository.specs.Specs.{found_by_spec}
use Rattle.plain_repository.specs.Views.{package_told, package_found, decide_package}
use Rattle.plain_repository.proofs.Asked.{names}
use Rattle.reply_laws.specs.Again.{UpdatesSayHeads, MergesSayHeads, PackagesAreSpelled}
use Rattle.reply_laws.proofs.Deciding.{Tells, choosing, refuses, roomy, tells, unless}

-- ---- heads
-- the head of the branch of the workspace
abbrev HeadOfOwn : State → ℕ → List ℕ → Type 0
HeadOfOwn s ws words = (w : Workspace) × (workspace_of s ws ≡ Some w) × (words ≡ decimal (head s.history w.branch))

-- the head of the branch of that name
abbrev HeadOf : State → List ℕ → List ℕ → Type 0
HeadOf s name words = (branch : ℕ) × (branch_named s.history name ≡ Some branch) × (words ≡ decimal (head s.history branch))

module _ (s : State) (meta : Meta) (ws : ℕ) where
  update_tells : (choices : Option (List ℕ)) (o : Option Workspace) → workspace_of s ws ≡ o → Tells (HeadOfOwn s ws) (update_in s meta ws choices o)
  update_tells choices None there = refuses _ refl
  update_tells choices (Some w) there =
      let version = head s.history w.branch in
      unless (is_open (Some w)) (refuses _ refl) (choosing (update_buckets meta s.history w) choices
      (unless (nat_eq w.base version) (tells (decimal version) refl (w, there, refl))
      (roomy s [] (decimal version) (Update ws (unwrap_or choices [])) (w, there, refl))))

  named_tells : (name : List ℕ) (choices : Option (List ℕ)) (w : Workspace) (o : Option ℕ) → branch_named s.history name ≡ o
      → Tells (HeadOf s name) (merge_named s meta ws w choices o)
  named_tells name choices w None named = refuses _ refl
  named_tells name choices w (Some branch) named =
      let other = head s.history branch in
      unless (nat_eq branch w.branch) (refuses _ refl) (choosing (merge_buckets meta s.history w other) choices
      (unless (has_theirs s.history w other) (roomy s [] (decimal other) (Merge ws branch (unwrap_or choices [])) (branch, named, refl))
      (tells (decimal other) refl (branch, named, refl))))

  merge_tells : (name : List ℕ) (choices : Option (List ℕ)) (o : Option Workspace) → Tells (HeadOf s name) (merge_in s meta ws name choices o)
  merge_tells name choices None = refuses _ refl
  merge_tells name choices (Some w) = unless (is_open (Some w)) (refuses _ refl) (named_tells name choices w (branch_named s.history name) refl)

pub updates_say_heads : UpdatesSayHeads
unfolding decide_command decide_update
updates_say_heads s block ws choices words says = (by s.meta).holds words says
  where
    by : (m : Option Meta) → Tells (HeadOfOwn s ws) (decide_with s m block (commands.Update ws choices))
    by None = refuses _ refl
    by (Some meta) = update_tells s meta ws choices (workspace_of s ws) refl

pub merges_say_heads : MergesSayHeads
unfolding decide_command decide_merge
merges_say_heads s block ws name choices words says = (by s.meta).holds words says
  where
    by : (m : Option Meta) → Tells (HeadOf s name) (decide_with s m block (commands.Merge ws name choices))
    by None = refuses _ refl
    by (Some meta) = merge_tells s meta ws name choices (workspace_of s ws)

-- ---- the bytes of a package
-- the lines of a reply end with the bytes of the version that SPEC names
record Spells (s : State) (spec : Spec) (lines : List (List ℕ)) : Type 0 where
  version : ℕ
  branch : ℕ
  named : Names s.history spec version branch
  front : List (List ℕ)
  bytes : List ℕ
  lines_are : lines ≡ front ++ (codes "hex " ++ encode_lower bytes) ∷ []
  read : whole_of package_at bytes ≡ Ok (package_of_version s.history.versions version)

module _ (s : State) (meta : Meta) (spec : Spec) where
  told_spelled : (found : Found) → found_by_spec s.history spec ≡ Ok found → (b : Bool)
      → is_package (package_of_version s.history.versions found.version) ≡ b
      → let d = package_told meta (package_of_version s.history.versions found.version) in Tells (λ words. Spells s spec d.reply.lines) d
  unfolding package_lines
  told_spelled found is true formed =
      let os = package_of_version s.history.versions found.version in
      record {
        holds = λ words says. record {
          version = found.version;
          branch = found.branch;
          named = names s.history spec found is;
          front = operation_lines meta os;
          bytes = package_encoding os;
          lines_are = ap (λ (b : Bool). (if b then told (package_lines meta os) [] else refused refusals.TooLarge).reply.lines) formed;
          read = whole_again package_codes os (is_package_is os formed);
        };
      }
  told_spelled found is false formed =
      let os = package_of_version s.history.versions found.version in
      refuses refusals.TooLarge (ap (λ (b : Bool). (if b then told (package_lines meta os) [] else refused refusals.TooLarge).reply.last) formed)

  package_spelled : (r : Result Found FindFault) → found_by_spec s.history spec ≡ r
      → let d = package_found meta s.history r in Tells (λ words. Spells s spec d.reply.lines) d
  package_spelled (Err fault) is = refuses _ refl
  package_spelled (Ok found) is = told_spelled found is (is_package (package_of_version s.history.versions found.version)) refl

pub packages_are_spelled : PackagesAreSpelled
unfolding decide_command decide_package
packages_are_spelled s block spec words says =
    let p = (by s.meta).holds words says in
    record { version = p.version; branch = p.branch; named = p.named; front = p.front; bytes = p.bytes; lines = p.lines_are; read = p.read }
  where
    by : (m : Option Meta) → let d = decide_with s m block (commands.Package spec) in Tells (λ words. Spells s spec d.reply.lines) d
    by None = refuses _ refl
    by (Some meta) = package_spelled s meta spec (found_by_spec s.history spec) refl
