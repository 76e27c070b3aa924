-- What commands show, as lines that an empty line is told from.
use Rattle.std.specs.Prelude.{◌≡◌, ℕ, ◌<◌, List, All, length, false, Option, None, Some}
use Rattle.std.specs.List.{list_any}
use Rattle.serde_json.specs.Data.{Data}
use Rattle.serde_json.specs.Written.{compact_text}
use Rattle.host_port.specs.Cut.{is_lf}
use Rattle.ecore_meta.specs.Meta.{Meta}
use Rattle.model_state.specs.Listing.{ids}
use Rattle.model_state.specs.Packages.{steps_of}
use Rattle.model_state.specs.State.{State}
use Rattle.model_state.specs.declared.operation.Operation.{Operation}
use Rattle.model_state.specs.declared.operation.Operation.TheVariants.{Simple, Composite}
use Rattle.model_state.specs.declared.step.Place.{Place}
use Rattle.model_state.specs.declared.step.Place.TheVariants.{Root, Inside}
use Rattle.model_state.specs.declared.step.Step.{Step}
use Rattle.model_state.specs.declared.step.Step.TheVariants.{Put, Ins, Del, Shift, Link, Unlink, RerankRow, New, Gone, Move, RerankPlace}
use Rattle.history_tree.specs.History.{History}
use Rattle.history_tree.specs.Found.{branch_name, tags_of}
use Rattle.model_texts.specs.Tree.{text}
use Rattle.footprint.specs.declared.bucket.Buckets.{Buckets}
use Rattle.shown_lines.specs.Buckets.{bucket_lines}
use Rattle.shown_lines.specs.Lines.{class_name, feature_name, operation_lines, open_lines}
use Rattle.shown_lines.specs.Validation.{validate_lines}
use Rattle.shown_lines.specs.Versions.{log_lines, package_lines}

-- a text without a line feed
abbrev pub IsWhole : List ℕ → Type 0
IsWhole text = list_any is_lf text ≡ false

-- a line: a byte at least, and no line feed
pub record IsLine (line : List ℕ) : Type 0 where
  pub some : 0 < length line
  pub whole : IsWhole line

-- JSON without spaces has no line feed, whatever its strings hold
abbrev pub JsonIsWhole : Type 0
JsonIsWhole = (d : Data) → IsWhole (compact_text d)

-- a text that may be missing
abbrev pub IsGivenWhole : Option (List ℕ) → Type 0
IsGivenWhole None = Unit {0}
IsGivenWhole (Some text) = IsWhole text

-- the names of branches, tags and authors have no line feed
pub record AreNamed (h : History) : Type 0 where
  pub branches : (branch : ℕ) → IsWhole (branch_name h branch)
  pub tags : (version : ℕ) → All IsWhole (tags_of h version)
  pub authors : All (λ v. IsGivenWhole v.author) h.versions

-- `log` shows lines
abbrev pub LogsAreLines : Type 0
LogsAreLines = (h : History) → AreNamed h → All IsLine (log_lines h)

-- the names of a metamodel have no line feed
pub record HasNames (meta : Meta) : Type 0 where
  pub classes : (c : ℕ) → IsWhole (class_name meta c)
  pub features : (f : ℕ) → IsWhole (feature_name meta f)

-- the ids of a place have no line feed
abbrev pub PlaceIsWhole : Place → Type 0
PlaceIsWhole Root = Unit {0}
PlaceIsWhole (Inside parent f) = IsWhole parent

-- nor have those of a step
abbrev pub StepIsWhole : Step → Type 0
StepIsWhole (Put e f old new) = IsWhole e
StepIsWhole (Ins e f at v) = IsWhole e
StepIsWhole (Del e f at v) = IsWhole e
StepIsWhole (Shift e f from to) = IsWhole e
StepIsWhole (Link a f ra b rb) = IsWhole a × IsWhole b
StepIsWhole (Unlink a f ra b rb) = IsWhole a × IsWhole b
StepIsWhole (RerankRow a f b old new) = IsWhole a × IsWhole b
StepIsWhole (New e class place rank) = IsWhole e × PlaceIsWhole place
StepIsWhole (Gone e class place rank) = IsWhole e × PlaceIsWhole place
StepIsWhole (Move e from from_rank to to_rank above_from above_to) = IsWhole e × PlaceIsWhole from × PlaceIsWhole to
StepIsWhole (RerankPlace e old new) = IsWhole e

-- a composite's name has no line feed
abbrev pub NameIsWhole : Operation → Type 0
NameIsWhole (Simple kind steps) = Unit {0}
NameIsWhole (Composite name steps) = IsWhole name

-- an operation's name and ids have no line feed
abbrev pub OperationIsWhole : Operation → Type 0
OperationIsWhole o = NameIsWhole o × All StepIsWhole (steps_of o)

-- `changes` and `package` show operations as lines
abbrev pub OperationsAreLines : Type 0
OperationsAreLines = (meta : Meta) (operations : List Operation) → HasNames meta → All OperationIsWhole operations → All IsLine
    (operation_lines meta operations)

-- and so an open composite
abbrev pub OpenAreLines : Type 0
OpenAreLines = (meta : Meta) (name : List ℕ) (steps : List Step) → HasNames meta → IsWhole name → All StepIsWhole steps → All IsLine
    (open_lines meta name steps)

-- `package` shows its operations and their bytes as lines
abbrev pub PackagesAreLines : Type 0
PackagesAreLines = (meta : Meta) (operations : List Operation) → HasNames meta → All OperationIsWhole operations → All IsLine (package_lines meta operations)

-- `validate` shows lines, where the ids of the live elements have no line feed
abbrev pub ShortagesAreLines : Type 0
ShortagesAreLines = (meta : Meta) (m : State) → HasNames meta → All IsWhole (ids m) → All IsLine (validate_lines meta m)

-- operations in conflict are shown as lines
abbrev pub BucketsAreLines : Type 0
BucketsAreLines = (buckets : Buckets) → All IsLine (bucket_lines buckets)

-- a model is shown as one line, whatever it holds
abbrev pub TextsAreLines : Type 0
TextsAreLines = (meta : Meta) (m : State) → IsLine (text meta m)
