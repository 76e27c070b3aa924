-- What each command is for, and what it needs: one row a command.
use Rattle.std.specs.Prelude.{ℕ, Bool, true, false, Option, Some, None}
use Rattle.edits.specs.declared.edit.Edit.{Edit}
use Rattle.script_lang.specs.declared.command.Command.{Command}
use Rattle.script_lang.specs.declared.command.Command.TheVariants as commands
use Rattle.script_lang.specs.declared.command.Spec.{Spec}
use Rattle.command_facts.specs.declared.table.CommandKind.{CommandKind}
use Rattle.command_facts.specs.declared.table.CommandKind.TheVariants.{Looks, Works, Keeps}
use Rattle.command_facts.specs.declared.table.Needs.{Needs}
use Rattle.command_facts.specs.declared.table.Needs.TheVariants.{Nothing, Model, Steps, Opens, Shows}

-- What a command is for. The number of the workspace that it names, and the version, if it names one. The edit that it is, with its
-- workspace, if it is one. What it needs to be answered.
-- Whether it begins a repository, so that it is answered before there is a metamodel. Whether its data lines begin with ids, and
-- whether it gives the elements of its block ids.
pub record Facts : Type 0 where
  pub kind : CommandKind
  pub workspace : Option ℕ
  pub version : Option Spec
  pub edit : Option (ℕ × Edit)
  pub needs : Needs
  pub begins : Bool
  pub lists_ids : Bool
  pub gives_ids : Bool

-- a command of that kind that names none of these
abbrev plain : CommandKind → Facts
plain kind =
    record { kind = kind; workspace = None; version = None; edit = None; needs = Nothing; begins = false; lists_ids = false; gives_ids = false }

-- one that names a version
abbrev of_version : CommandKind → Spec → Facts
of_version kind spec = record (plain kind) { version = Some spec }

-- one of a workspace
abbrev in_workspace : CommandKind → ℕ → Facts
in_workspace kind ws = record (plain kind) { workspace = Some ws }

-- the table of commands
abbrev pub facts : Command → Facts
facts commands.Init = record (plain Keeps) { begins = true }
facts commands.Evolve = plain Keeps
facts (commands.Import ws) = record (in_workspace Works ws) { needs = Model; gives_ids = true }
facts (commands.Load ws) = record (in_workspace Works ws) { needs = Steps }
facts (commands.Checkout spec) = record (of_version Looks spec) { needs = Opens }
facts (commands.Edit ws edit) = record (in_workspace Works ws) { edit = Some (ws, edit); needs = Model }
facts (commands.Begin ws name) = in_workspace Works ws
facts (commands.End ws) = in_workspace Works ws
facts (commands.Undo ws) = in_workspace Works ws
facts (commands.Discard ws) = in_workspace Works ws
facts (commands.Tidy ws) = in_workspace Works ws
facts (commands.Apply ws bytes) = record (in_workspace Works ws) { needs = Steps }
facts (commands.Changes ws) = in_workspace Looks ws
facts (commands.Show ws) = record (in_workspace Looks ws) { needs = Model }
facts (commands.Cat spec) = record (of_version Looks spec) { needs = Shows }
facts (commands.Validate ws) = record (in_workspace Looks ws) { needs = Model; lists_ids = true }
facts (commands.Commit ws message) = in_workspace Works ws
facts (commands.Signed ws author moment message) = in_workspace Works ws
facts (commands.Branch ws name) = in_workspace Works ws
facts (commands.Tag name spec) = of_version Keeps spec
facts commands.Log = plain Looks
facts (commands.Package spec) = of_version Looks spec
facts (commands.Update ws choices) = in_workspace Works ws
facts (commands.Merge ws branch choices) = in_workspace Works ws
facts (commands.Revert ws version) = in_workspace Works ws
facts (commands.Drop ws) = in_workspace Works ws
facts commands.Upgrade = plain Keeps

-- the workspace whose working model is needed
abbrev pub model_needed : Needs → Option ℕ → Option ℕ
model_needed Nothing workspace = None
model_needed Model workspace = workspace
model_needed Steps workspace = None
model_needed Opens workspace = None
model_needed Shows workspace = None

-- is the state of a version needed
abbrev pub is_state_needed : Needs → Bool
is_state_needed Nothing = false
is_state_needed Model = false
is_state_needed Steps = true
is_state_needed Opens = true
is_state_needed Shows = true

-- the version whose text is shown
abbrev pub version_shown : Needs → Option Spec → Option Spec
version_shown Nothing version = None
version_shown Model version = None
version_shown Steps version = None
version_shown Opens version = version
version_shown Shows version = version

-- the version of whose text alone the answer is
abbrev pub version_alone : Needs → Option Spec → Option Spec
version_alone Nothing version = None
version_alone Model version = None
version_alone Steps version = None
version_alone Opens version = None
version_alone Shows version = version
