-- What a reply says is what a later command finds.
use Rattle.std.specs.Prelude.{◌≡◌, ℕ, List, [], ◌∷◌, ◌++◌, codes, Option, Some, Ok}
use Rattle.std.specs.Fmt.{decimal}
use Rattle.std.specs.List.{join_with_byte}
use Rattle.hex.specs.Hex.{encode_lower}
use Rattle.history_tree.specs.declared.version.Signature.{Signature}
use Rattle.history_tree.specs.Found.{branch_named}
use Rattle.history_tree.specs.History.{head}
use Rattle.history_tree.specs.States.{package_of_version}
use Rattle.op_form.specs.declared.event.Event.{Event}
use Rattle.op_reading.specs.Events.{whole_of}
use Rattle.op_reading.specs.Packages.{package_at}
use Rattle.script_lang.specs.declared.command.Command.{Command}
use Rattle.script_lang.specs.declared.command.Command.TheVariants as commands
use Rattle.script_lang.specs.declared.command.Spec.{Spec}
use Rattle.script_lang.specs.declared.command.Spec.TheVariants as specs
use Rattle.plain_repository.specs.State.{State, Workspace, workspace_of}
use Rattle.plain_repository.specs.Orderly.{IsOrderly}
use Rattle.plain_repository.specs.Events.{play}
use Rattle.plain_repository.specs.Repository.{decide_command}
use Rattle.plain_repository.specs.Laws.{MakesEvent, version_command}
use Rattle.plain_repository.specs.Asked.{Names, Says}

-- the data lines of the reply to a command
abbrev pub lines_of : State → Option (List ℕ) → Command → List (List ℕ)
lines_of s block command = (decide_command s block command).reply.lines

-- the first command is answered in the first state as the second is in the second one
abbrev pub SameAnswer : State → Command → State → Command → Type 0
SameAnswer s command t other = (block more : Option (List ℕ)) → decide_command s block command ≡ decide_command t more other

-- `commit` and `signed` say a number, and `cat` of it then shows what `show` of the workspace showed
abbrev pub CommitsAreFound : Type 0
CommitsAreFound = (s : State) → IsOrderly s → (block : Option (List ℕ)) (ws : ℕ) (signature : Option Signature) (message : Option (List ℕ)) (event : Event)
    → MakesEvent s block (version_command ws signature message) event
    → (n : ℕ) × Says s block (version_command ws signature message) (decimal n)
    × SameAnswer (play s event) (commands.Cat (specs.Number n)) s (commands.Show ws)

-- `checkout SPEC` says a number first, and `show` of it then shows what `cat SPEC` shows, which the checkout has printed, too
pub record IsFoundOpen (s : State) (block : Option (List ℕ)) (spec : Spec) (event : Event) : Type 0 where
  pub ws : ℕ
  pub version : ℕ
  pub name : List ℕ
  pub says : Says s block (commands.Checkout spec) (join_with_byte 32 (decimal ws ∷ decimal version ∷ name ∷ []))
  pub shown : SameAnswer (play s event) (commands.Show ws) s (commands.Cat spec)
  pub printed : (more : Option (List ℕ)) → lines_of s block (commands.Checkout spec) ≡ lines_of s more (commands.Cat spec)

abbrev pub CheckoutsAreFound : Type 0
CheckoutsAreFound = (s : State) → IsOrderly s → (block : Option (List ℕ)) (spec : Spec) (event : Event) → MakesEvent s block (commands.Checkout spec) event
    → IsFoundOpen s block spec event

-- after `tag NAME SPEC` the name shows what SPEC showed
abbrev pub TagsAreFound : Type 0
TagsAreFound = (s : State) → IsOrderly s → (block : Option (List ℕ)) (name : List ℕ) (spec : Spec) (event : Event)
    → MakesEvent s block (commands.Tag name spec) event
    → SameAnswer (play s event) (commands.Cat (specs.Tag name)) s (commands.Cat spec)

-- an `update` that is not refused says the head of the workspace's branch, whether it makes an event or not
abbrev pub UpdatesSayHeads : Type 0
UpdatesSayHeads = (s : State) (block : Option (List ℕ)) (ws : ℕ) (choices : Option (List ℕ)) (words : List ℕ)
    → Says s block (commands.Update ws choices) words
    → (w : Workspace) × (workspace_of s ws ≡ Some w) × (words ≡ decimal (head s.history w.branch))

-- and a `merge` says that of the branch that it names
abbrev pub MergesSayHeads : Type 0
MergesSayHeads = (s : State) (block : Option (List ℕ)) (ws : ℕ) (name : List ℕ) (choices : Option (List ℕ)) (words : List ℕ)
    → Says s block (commands.Merge ws name choices) words
    → (branch : ℕ) × (branch_named s.history name ≡ Some branch) × (words ≡ decimal (head s.history branch))

-- The last data line of `package SPEC` is `hex` with some bytes. These read, as `apply` reads them, as the version's operations.
pub record IsSpelled (s : State) (block : Option (List ℕ)) (spec : Spec) : Type 0 where
  pub version : ℕ
  pub branch : ℕ
  pub named : Names s.history spec version branch
  pub front : List (List ℕ)
  pub bytes : List ℕ
  pub lines : lines_of s block (commands.Package spec) ≡ front ++ (codes "hex " ++ encode_lower bytes) ∷ []
  pub read : whole_of package_at bytes ≡ Ok (package_of_version s.history.versions version)

abbrev pub PackagesAreSpelled : Type 0
PackagesAreSpelled = (s : State) (block : Option (List ℕ)) (spec : Spec) (words : List ℕ) → Says s block (commands.Package spec) words
    → IsSpelled s block spec
