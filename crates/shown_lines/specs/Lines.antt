-- The lines that show operations and their steps.
use Rattle.std.specs.Prelude.{ℕ, suc, List, [], ◌∷◌, ◌++◌, Option, None, Some, codes, map, slice_get}
use Rattle.std.specs.Fmt.{decimal}
use Rattle.std.specs.Option.{option_map_or}
use Rattle.ecore_meta.specs.Meta.{Meta, name_at}
use Rattle.ecore_meta.specs.Typing.{kind_of}
use Rattle.ecore_meta.specs.declared.meta.Kind.{Kind}
use Rattle.ecore_meta.specs.declared.meta.Kind.TheVariants.{Attr, AttrMany, Bounded, Free, Contains, Container, Skip}
use Rattle.ecore_meta.specs.declared.meta.Value.{Value}
use Rattle.emfjson_values.specs.Values.{value_text}
use Rattle.model_state.specs.Packages.{steps_of}
use Rattle.model_state.specs.declared.operation.OpKind.{OpKind}
use Rattle.model_state.specs.declared.operation.OpKind.TheVariants as kinds
use Rattle.model_state.specs.declared.operation.Operation.{Operation}
use Rattle.model_state.specs.declared.operation.Operation.TheVariants.{Simple, Composite}
use Rattle.model_state.specs.declared.step.Place.{Place}
use Rattle.model_state.specs.declared.step.Place.TheVariants.{Root, Inside}
use Rattle.model_state.specs.declared.step.Step.{Step}
use Rattle.model_state.specs.declared.step.Step.TheVariants.{Put, Ins, Del, Shift, Link, Unlink, RerankRow, New, Gone, Move, RerankPlace}

-- words, each after a space
abbrev pub after_spaces : List (List ℕ) → List ℕ
after_spaces [] = []
after_spaces (word ∷ words) = 32 ∷ (word ++ after_spaces words)

-- `-` where something is missing
abbrev pub optional : {X : Type 0} → (X → List ℕ) → Option X → List ℕ
optional word None = codes "-"
optional word (Some x) = word x

-- the name of the class of that number
abbrev pub class_name : Meta → ℕ → List ℕ
class_name meta c = option_map_or (λ class. class.name) (slice_get meta.classes c) []

-- the name of the feature of that number
abbrev pub feature_name : Meta → ℕ → List ℕ
feature_name meta f = name_at meta.features f

-- the text of a value of a feature of the kind, empty where such a feature has no values
abbrev pub shown_text : Meta → Kind → Value → List ℕ
shown_text meta (Attr scalar default) v = value_text meta scalar v
shown_text meta (AttrMany scalar unique) v = value_text meta scalar v
shown_text meta (Bounded target opposite) v = []
shown_text meta (Free target opposite) v = []
shown_text meta (Contains target opposite) v = []
shown_text meta (Container target opposite) v = []
shown_text meta Skip v = []

-- the text of a value of the feature of that number
abbrev pub value_word : Meta → ℕ → Value → List ℕ
value_word meta f v = shown_text meta (kind_of meta f) v

-- `/` for the root, else the parent, `/` and the feature that the element stands in
abbrev pub place_word : Meta → Place → List ℕ
place_word meta Root = codes "/"
place_word meta (Inside parent f) = parent ++ (47 ∷ feature_name meta f)

-- the words of a step: its kind, and its fields but the chains of a move
unfoldable pub step_words : Meta → Step → List (List ℕ)
step_words meta (Put e f old new) = codes "put" ∷ e ∷ feature_name meta f ∷ optional (value_word meta f) old ∷ optional (value_word meta f) new ∷ []
step_words meta (Ins e f at v) = codes "ins" ∷ e ∷ feature_name meta f ∷ decimal at ∷ value_word meta f v ∷ []
step_words meta (Del e f at v) = codes "del" ∷ e ∷ feature_name meta f ∷ decimal at ∷ value_word meta f v ∷ []
step_words meta (Shift e f from to) = codes "shift" ∷ e ∷ feature_name meta f ∷ decimal from ∷ decimal to ∷ []
step_words meta (Link a f ra b rb) = codes "link" ∷ a ∷ feature_name meta f ∷ decimal ra ∷ b ∷ optional decimal rb ∷ []
step_words meta (Unlink a f ra b rb) = codes "unlink" ∷ a ∷ feature_name meta f ∷ decimal ra ∷ b ∷ optional decimal rb ∷ []
step_words meta (RerankRow a f b old new) = codes "rerank" ∷ a ∷ feature_name meta f ∷ b ∷ decimal old ∷ decimal new ∷ []
step_words meta (New e class place rank) = codes "new" ∷ e ∷ class_name meta class ∷ place_word meta place ∷ decimal rank ∷ []
step_words meta (Gone e class place rank) = codes "gone" ∷ e ∷ class_name meta class ∷ place_word meta place ∷ decimal rank ∷ []
step_words meta (Move e from from_rank to to_rank above_from above_to) =
    codes "move" ∷ e ∷ place_word meta from ∷ decimal from_rank ∷ place_word meta to ∷ decimal to_rank ∷ []
step_words meta (RerankPlace e old new) = codes "place" ∷ e ∷ decimal old ∷ decimal new ∷ []

-- a step's line begins with a space
abbrev pub step_line : Meta → Step → List ℕ
step_line meta s = after_spaces (step_words meta s)

-- the word for a kind of operation
abbrev pub kind_word : OpKind → List ℕ
kind_word kinds.Create = codes "create"
kind_word kinds.Delete = codes "delete"
kind_word kinds.Attribute = codes "attribute"
kind_word kinds.ManyAttribute = codes "many-attribute"
kind_word kinds.Reference = codes "reference"
kind_word kinds.Move = codes "move"

-- the words after an operation's number
abbrev pub kind_words : Operation → List (List ℕ)
kind_words (Simple kind steps) = kind_word kind ∷ []
kind_words (Composite name steps) = codes "composite" ∷ name ∷ []

-- `op`, the operation's number and its kind
abbrev pub operation_line : ℕ → Operation → List ℕ
operation_line n o = codes "op" ++ after_spaces (decimal n ∷ kind_words o)

-- the lines of operations, the first of them with the number n: each one's own line and then those of its steps
abbrev pub lines_from : Meta → ℕ → List Operation → List (List ℕ)
lines_from meta n [] = []
lines_from meta n (o ∷ os) = operation_line n o ∷ (map (step_line meta) (steps_of o) ++ lines_from meta (suc n) os)

-- the lines of a package, whose operations are numbered from 1
unfoldable pub operation_lines : Meta → List Operation → List (List ℕ)
operation_lines meta operations = lines_from meta 1 operations

-- the lines of an open composite: `open` with its name, and then those of its steps
unfoldable pub open_lines : Meta → List ℕ → List Step → List (List ℕ)
open_lines meta name steps = (codes "open" ++ after_spaces (name ∷ [])) ∷ map (step_line meta) steps
