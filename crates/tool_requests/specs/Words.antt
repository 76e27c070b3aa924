-- The words of the command line, and what they ask for.
use Rattle.std.specs.Prelude.{◌≡◌, ℕ, ◌-◌, ◌^◌, nat_lt, List, [], ◌∷◌, ◌++◌, codes, length, option_map, Option, Some, None, Result, Ok, Err, if◌then◌else◌}
use Rattle.std.specs.Option.{option_and_then}
use Rattle.model_state.specs.Names.{is_name}
use Rattle.script_lang.specs.declared.command.Command.{Command}
use Rattle.script_lang.specs.declared.command.Spec.{Spec}
use Rattle.script_lang.specs.Command.{command_of}
use Rattle.command_facts.specs.Facts.{facts, version_alone}
use Rattle.finite_maps.specs.Equal.{text_eq}
use Rattle.access_rules.specs.declared.policy.Grant.{Grant}
use Rattle.access_rules.specs.Reading.{grants_of}
use Rattle.tool_requests.specs.declared.tool.Request.{Request}
use Rattle.tool_requests.specs.declared.tool.Request.TheVariants.{Replay, Work}
use Rattle.tool_requests.specs.declared.tool.Tool.{Tool}
use Rattle.tool_requests.specs.declared.tool.Tool.TheVariants.{Query, Blame, Guard, Serve}

-- ---- SPEC
-- what was read, where it is a command
abbrev pub if_read : Result Command ℕ → Option Command
if_read (Ok command) = Some command
if_read (Err column) = None

-- the command that a text spells as a line; one of more bytes than are read as a line spells none
abbrev pub command_in : List ℕ → Option Command
command_in text = if nat_lt (length text) (2 ^ 32 - 1) then if_read (command_of text) else None

-- the version that `cat` is asked for
abbrev pub shown_by : Command → Option Spec
shown_by command = version_alone (facts command).needs (facts command).version

-- a word names a version where `cat` and the word are a line that spells a command
abbrev pub spec_in : List ℕ → Option Spec
spec_in word = option_and_then shown_by (command_in (codes "cat " ++ word))

-- ---- POLICY
-- the grants of a policy that was read
abbrev pub if_policy : Result (List Grant) ℕ → Option (List Grant)
if_policy (Ok grants) = Some grants
if_policy (Err at) = None

-- the grants of a policy of fewer than 2^32 bytes
abbrev pub grants_in : List ℕ → Option (List Grant)
grants_in text = if nat_lt (length text) (2 ^ 32) then if_policy (grants_of text) else None

-- a user of the form of a name, and a policy
abbrev pub guard_in : List ℕ → List ℕ → Option Tool
guard_in user text = if is_name user then option_map (λ grants. Guard (record { user = user; policy = record { grants = grants } })) (grants_in text) else None

-- ---- all forms
-- what the words ask of a store that is open: `query SPEC ID CLASS FEATURE`, `blame SPEC ID`, `guard USER POLICY` or `serve POLICY`
abbrev pub tool_in : List (List ℕ) → Option Tool
tool_in (name ∷ spec ∷ element ∷ class ∷ feature ∷ []) =
    if text_eq name (codes "query") then option_map (λ s. Query s element class feature) (spec_in spec) else None
tool_in (name ∷ first ∷ second ∷ []) =
    if text_eq name (codes "blame") then option_map (λ s. Blame s second) (spec_in first)
    else if text_eq name (codes "guard") then guard_in first second
    else None
tool_in (name ∷ text ∷ []) = if text_eq name (codes "serve") then option_map (λ grants. Serve (record { grants = grants })) (grants_in text) else None
tool_in words = None

-- the words ask for this
abbrev pub AskFor : List (List ℕ) → Tool → Type 0
AskFor words tool = tool_in words ≡ Some tool

-- the words ask for the store as a script: there is one, `replay`
abbrev pub AskForReplay : List (List ℕ) → Type 0
AskForReplay words = words ≡ codes "replay" ∷ []

-- the words ask for nothing
abbrev pub AreBad : List (List ℕ) → Type 0
AreBad words = (tool_in words ≡ None) × ¬ AskForReplay words

-- the words ask for this, or for nothing
abbrev pub Asks : List (List ℕ) → Option Request → Type 0
Asks words None = AreBad words
Asks words (Some Replay) = AskForReplay words
Asks words (Some (Work tool)) = AskFor words tool
