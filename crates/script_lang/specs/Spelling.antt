-- How a command is spelled: the words of its line, one after another.
use Rattle.std.specs.Prelude.{◌≡◌, ◌≢◌, ◌==◌, ℕ, Bool, ◌<◌, ◌≤◌, ◌^◌, List, [], ◌∷◌, ◌++◌, codes, Option, Some, None, Ok, length, true, false}
use Rattle.std.specs.List.{list_any}
use Rattle.std.specs.Fmt.{decimal}
use Rattle.script_lang.specs.declared.command.Spec.{Spec}
use Rattle.script_lang.specs.declared.command.Spec.TheVariants.{Number, Branch, Tag}
use Rattle.script_lang.specs.declared.command.Command.{Command}
use Rattle.script_lang.specs.declared.command.Command.TheVariants as commands
use Rattle.edits.specs.declared.edit.Edit.{Edit}
use Rattle.edits.specs.declared.edit.Edit.TheVariants.{Create, Delete, Set, Unset, Add, Remove, Shift, Link, Unlink, Reorder, Move}
use Rattle.edits.specs.declared.edit.Destination.{Destination}
use Rattle.edits.specs.declared.edit.Destination.TheVariants.{Root, Inside}
use Rattle.model_state.specs.Names.{is_name}
use Rattle.hex.specs.Hex.{IsBytes, decode_of, encode_lower}
use Rattle.script_lang.specs.Words.{is_space}
use Rattle.script_lang.specs.Command.{command_of}

-- a line feed
abbrev pub is_line_feed : ℕ → Bool
is_line_feed b = b == 10

-- the bytes of a line: no line feed is among them
abbrev pub IsLine : List ℕ → Type 0
IsLine line = list_any is_line_feed line ≡ false

-- a word: at least one byte, and no space
abbrev pub IsWord : List ℕ → Type 0
IsWord word = (0 < length word) × (list_any is_space word ≡ false)

-- a number of 32 bits
abbrev pub IsNumber : ℕ → Type 0
IsNumber n = n < 2 ^ 32

-- a number of 64 bits
abbrev pub IsMoment : ℕ → Type 0
IsMoment n = n < 2 ^ 64

-- a version as a word can name it
abbrev pub IsSpec : Spec → Type 0
IsSpec (Number n) = IsNumber n
IsSpec (Branch name) = is_name name ≡ true
IsSpec (Tag name) = is_name name ≡ true

-- a word, or none
abbrev pub IsOptionalWord : Option (List ℕ) → Type 0
IsOptionalWord None = Unit {0}
IsOptionalWord (Some word) = IsWord word

-- a text that ends its line: at least one byte; it may hold spaces
abbrev pub IsText : List ℕ → Type 0
IsText text = 0 < length text

-- such a text, or none
abbrev pub IsOptionalText : Option (List ℕ) → Type 0
IsOptionalText None = Unit {0}
IsOptionalText (Some text) = IsText text

-- a number, or none
abbrev pub IsOptionalNumber : Option ℕ → Type 0
IsOptionalNumber None = Unit {0}
IsOptionalNumber (Some n) = IsNumber n

-- a place that words can name: a parent is not `/`, which names the root
abbrev pub IsDestination : Destination → Type 0
IsDestination Root = Unit {0}
IsDestination (Inside parent feature) = IsWord parent × (parent ≢ codes "/") × IsWord feature

-- an edit that a line can spell
abbrev pub IsEdit : Edit → Type 0
IsEdit (Create class destination id) = IsWord class × IsDestination destination × IsOptionalWord id
IsEdit (Delete id) = IsWord id
IsEdit (Move id destination index) = IsWord id × IsDestination destination × IsOptionalNumber index
IsEdit (Set id feature value) = IsWord id × IsWord feature × IsText value
IsEdit (Unset id feature) = IsWord id × IsWord feature
IsEdit (Add id feature at value) = IsWord id × IsWord feature × IsOptionalNumber at × IsText value
IsEdit (Remove id feature index) = IsWord id × IsWord feature × IsNumber index
IsEdit (Shift id feature from to) = IsWord id × IsWord feature × IsNumber from × IsNumber to
IsEdit (Link id feature target index) = IsWord id × IsWord feature × IsWord target × IsOptionalNumber index
IsEdit (Unlink id feature target) = IsWord id × IsWord feature × IsWord target
IsEdit (Reorder id feature target index) = IsWord id × IsWord feature × IsWord target × IsNumber index

-- bytes that a word can spell: at least one
abbrev pub IsSomeBytes : List ℕ → Type 0
IsSomeBytes bytes = (0 < length bytes) × IsBytes bytes

-- workspaces are counted from 1
abbrev pub IsWorkspace : ℕ → Type 0
IsWorkspace ws = (1 ≤ ws) × IsNumber ws

-- a command that a line can spell
abbrev pub IsCommand : Command → Type 0
IsCommand commands.Init = Unit {0}
IsCommand commands.Evolve = Unit {0}
IsCommand (commands.Import ws) = IsWorkspace ws
IsCommand (commands.Load ws) = IsWorkspace ws
IsCommand (commands.Checkout spec) = IsSpec spec
IsCommand (commands.Edit ws edit) = IsWorkspace ws × IsEdit edit
IsCommand (commands.Begin ws name) = IsWorkspace ws × (is_name name ≡ true)
IsCommand (commands.End ws) = IsWorkspace ws
IsCommand (commands.Undo ws) = IsWorkspace ws
IsCommand (commands.Discard ws) = IsWorkspace ws
IsCommand (commands.Tidy ws) = IsWorkspace ws
IsCommand (commands.Apply ws bytes) = IsWorkspace ws × IsSomeBytes bytes
IsCommand (commands.Changes ws) = IsWorkspace ws
IsCommand (commands.Show ws) = IsWorkspace ws
IsCommand (commands.Cat spec) = IsSpec spec
IsCommand (commands.Validate ws) = IsWorkspace ws
IsCommand (commands.Commit ws message) = IsWorkspace ws × IsOptionalText message
IsCommand (commands.Signed ws author moment message) = IsWorkspace ws × (is_name author ≡ true) × IsMoment moment × IsOptionalText message
IsCommand (commands.Branch ws name) = IsWorkspace ws × (is_name name ≡ true)
IsCommand (commands.Tag name spec) = (is_name name ≡ true) × IsSpec spec
IsCommand commands.Log = Unit {0}
IsCommand (commands.Package spec) = IsSpec spec
IsCommand (commands.Update ws choices) = IsWorkspace ws × IsOptionalWord choices
IsCommand (commands.Merge ws branch choices) = IsWorkspace ws × (is_name branch ≡ true) × IsOptionalWord choices
IsCommand (commands.Revert ws version) = IsWorkspace ws × IsNumber version
IsCommand (commands.Drop ws) = IsWorkspace ws
IsCommand commands.Upgrade = Unit {0}

-- the word that names a version
abbrev pub spec_word : Spec → List ℕ
spec_word (Number n) = decimal n
spec_word (Branch name) = name
spec_word (Tag name) = 64 ∷ name

-- a word, where there is one
abbrev pub optional_word : Option (List ℕ) → List (List ℕ)
optional_word None = []
optional_word (Some word) = word ∷ []

-- an index, or `end` where there is none
abbrev pub index_word : Option ℕ → List ℕ
index_word None = codes "end"
index_word (Some index) = decimal index

-- an index, where there is one
abbrev pub index_if_any : Option ℕ → List (List ℕ)
index_if_any None = []
index_if_any (Some index) = decimal index ∷ []

-- the words of a place
abbrev pub destination_words : Destination → List (List ℕ)
destination_words Root = codes "/" ∷ []
destination_words (Inside parent feature) = parent ∷ feature ∷ []

-- the word that names an edit
abbrev pub edit_word : Edit → List ℕ
edit_word (Create class destination id) = codes "create"
edit_word (Delete id) = codes "delete"
edit_word (Move id destination index) = codes "move"
edit_word (Set id feature value) = codes "set"
edit_word (Unset id feature) = codes "unset"
edit_word (Add id feature at value) = codes "add"
edit_word (Remove id feature index) = codes "remove"
edit_word (Shift id feature from to) = codes "shift"
edit_word (Link id feature target index) = codes "link"
edit_word (Unlink id feature target) = codes "unlink"
edit_word (Reorder id feature target index) = codes "reorder"

-- the words of an edit after the workspace's number; a value is the last
abbrev pub edit_fields : Edit → List (List ℕ)
edit_fields (Create class destination id) = class ∷ (destination_words destination ++ optional_word id)
edit_fields (Delete id) = id ∷ []
edit_fields (Move id destination index) = id ∷ (destination_words destination ++ index_if_any index)
edit_fields (Set id feature value) = id ∷ feature ∷ value ∷ []
edit_fields (Unset id feature) = id ∷ feature ∷ []
edit_fields (Add id feature at value) = id ∷ feature ∷ index_word at ∷ value ∷ []
edit_fields (Remove id feature index) = id ∷ feature ∷ decimal index ∷ []
edit_fields (Shift id feature from to) = id ∷ feature ∷ decimal from ∷ decimal to ∷ []
edit_fields (Link id feature target index) = id ∷ feature ∷ target ∷ index_if_any index
edit_fields (Unlink id feature target) = id ∷ feature ∷ target ∷ []
edit_fields (Reorder id feature target index) = id ∷ feature ∷ target ∷ decimal index ∷ []

-- the words of a command's line; bytes are in digits of lower case
abbrev pub words_of : Command → List (List ℕ)
words_of commands.Init = codes "init" ∷ []
words_of commands.Evolve = codes "evolve" ∷ []
words_of (commands.Import ws) = codes "import" ∷ decimal ws ∷ []
words_of (commands.Load ws) = codes "load" ∷ decimal ws ∷ []
words_of (commands.Checkout spec) = codes "checkout" ∷ spec_word spec ∷ []
words_of (commands.Edit ws edit) = edit_word edit ∷ decimal ws ∷ edit_fields edit
words_of (commands.Begin ws name) = codes "begin" ∷ decimal ws ∷ name ∷ []
words_of (commands.End ws) = codes "end" ∷ decimal ws ∷ []
words_of (commands.Undo ws) = codes "undo" ∷ decimal ws ∷ []
words_of (commands.Discard ws) = codes "discard" ∷ decimal ws ∷ []
words_of (commands.Tidy ws) = codes "tidy" ∷ decimal ws ∷ []
words_of (commands.Apply ws bytes) = codes "apply" ∷ decimal ws ∷ encode_lower bytes ∷ []
words_of (commands.Changes ws) = codes "changes" ∷ decimal ws ∷ []
words_of (commands.Show ws) = codes "show" ∷ decimal ws ∷ []
words_of (commands.Cat spec) = codes "cat" ∷ spec_word spec ∷ []
words_of (commands.Validate ws) = codes "validate" ∷ decimal ws ∷ []
words_of (commands.Commit ws message) = codes "commit" ∷ decimal ws ∷ optional_word message
words_of (commands.Signed ws author moment message) = codes "signed" ∷ decimal ws ∷ author ∷ decimal moment ∷ optional_word message
words_of (commands.Branch ws name) = codes "branch" ∷ decimal ws ∷ name ∷ []
words_of (commands.Tag name spec) = codes "tag" ∷ name ∷ spec_word spec ∷ []
words_of commands.Log = codes "log" ∷ []
words_of (commands.Package spec) = codes "package" ∷ spec_word spec ∷ []
words_of (commands.Update ws choices) = codes "update" ∷ decimal ws ∷ optional_word choices
words_of (commands.Merge ws branch choices) = codes "merge" ∷ decimal ws ∷ branch ∷ optional_word choices
words_of (commands.Revert ws version) = codes "revert" ∷ decimal ws ∷ decimal version ∷ []
words_of (commands.Drop ws) = codes "drop" ∷ decimal ws ∷ []
words_of commands.Upgrade = codes "upgrade" ∷ []

-- words with single spaces between them
abbrev pub spaced : List (List ℕ) → List ℕ
spaced [] = []
spaced (word ∷ []) = word
spaced (word ∷ next ∷ words) = word ++ (32 ∷ spaced (next ∷ words))

-- the line is the command's words; the bytes of `apply` have several spellings, since a digit is of either case
abbrev pub IsLineOf : List ℕ → Command → Type 0
IsLineOf line (commands.Apply ws bytes) =
    (digits : List ℕ) × IsWord digits × (decode_of digits ≡ Ok bytes) × (line ≡ spaced (codes "apply" ∷ decimal ws ∷ digits ∷ []))
IsLineOf line command = line ≡ spaced (words_of command)

-- the line spells the command
pub record Spells (line : List ℕ) (command : Command) : Type 0 where
  pub is_line : IsLine line
  pub form : IsCommand command
  pub words : IsLineOf line command

-- a line that is read as a command spells it
abbrev pub LinesAreSpelled : Type 0
LinesAreSpelled = (line : List ℕ) (command : Command) → IsLine line → command_of line ≡ Ok command → Spells line command

-- a line that spells a command is read as that one
abbrev pub LinesAreRead : Type 0
LinesAreRead = (line : List ℕ) (command : Command) → Spells line command → command_of line ≡ Ok command

-- each command that a line can spell is spelled by the line of its words, which must hold no line feed
abbrev pub CommandsHaveLines : Type 0
CommandsHaveLines = (command : Command) → IsCommand command → IsLine (spaced (words_of command)) → Spells (spaced (words_of command)) command
