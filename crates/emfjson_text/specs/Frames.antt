-- What is left to write, by what is begun.
use Rattle.std.specs.Prelude.{◌≡◌, ℕ, ◌+◌, ◌≤◌, nat_lt, nat_eq, Bool, true, false, List, [], ◌∷◌, ◌++◌, Option, None, Some, map, drop, length, unwrap_or, cond}
use Rattle.std.specs.Option.{option_map}
use Rattle.json.specs.Print.{quoted}
use Rattle.serde_json.specs.Data.{Data, Members, no_members}
use Rattle.serde_json.specs.View.{items_of}
use Rattle.serde_json.specs.Written.{compact_text, items_text, members_text, comma_if}
use Rattle.ecore_meta.specs.Meta.{Meta}
use Rattle.ecore_meta.specs.declared.meta.Scalar.{Scalar}
use Rattle.ecore_meta.specs.declared.meta.Value.{Value}
use Rattle.model_state.specs.declared.entry.Entry.{Entry}
use Rattle.model_state.specs.Keys.{IdBytes}
use Rattle.model_state.specs.State.{State}
use Rattle.emfjson_values.specs.Values.{data_of}
use Rattle.emfjson_text.specs.declared.frame.Frame.{Frame}
use Rattle.emfjson_text.specs.declared.frame.Frame.TheVariants.{Object as ObjectFrame, Array as ArrayFrame}
use Rattle.model_texts.specs.declared.key.Key.{Key}
use Rattle.emfjson_text.specs.declared.part.Found.{Found}
use Rattle.emfjson_text.specs.declared.part.Part.{Part}
use Rattle.emfjson_text.specs.declared.part.Part.TheVariants.{Absent, Leaf, Elements}
use Rattle.model_texts.specs.Keys.{key_name}
use Rattle.model_texts.specs.Tree.{entry_ids, listed, members, part, reference, whole, with_member}

-- ---- one key

-- the text of what may stand under a key
abbrev pub text_if : Option Data → Option (List ℕ)
text_if o = option_map compact_text o

-- the text of a part, None where nothing stands there
abbrev pub shown : (IdBytes → Data) → Part → Option (List ℕ)
shown below Absent = None
shown below (Leaf t) = Some t
shown below (Elements single entries) = text_if (listed single (map below (entry_ids entries)))

-- nothing stands there: an empty list is absent too
abbrev pub is_absent : Part → Bool
is_absent Absent = true
is_absent (Leaf t) = false
is_absent (Elements single entries) = nat_eq (length entries) 0

-- the text of a part, empty where it is absent
abbrev pub part_text : Meta → State → Part → List ℕ
part_text meta m p = unwrap_or (shown (whole meta m) p) []

-- a key with its colon, after a comma where it is not the first
abbrev pub key_text : Bool → List ℕ → List ℕ
key_text later k = comma_if later ++ (quoted k ++ 58 ∷ [])

-- the one entry of a list that may hold one alone
abbrev pub only : Bool → List Entry → Option Entry
only single [] = None
only single (e ∷ []) = cond single (Some e) None
only single (e ∷ d ∷ es) = None

-- the values of an array, with the closing bracket
abbrev pub values_text : Meta → Scalar → Bool → List Value → List ℕ
values_text meta scalar later vs = items_text later (items_of (map (data_of meta scalar) vs))

-- the references of an array, with the closing bracket
abbrev pub references_text : Bool → List Entry → List ℕ
references_text later es = items_text later (items_of (map reference (entry_ids es)))

-- the members from a key on
unfoldable pub members_from : Meta → State → IdBytes → ℕ → List Key → ℕ → Members
members_from meta m e c keys next = members (key_name meta) (part meta m (whole meta m) e c) (drop next keys)

-- the first key from next on under which something stands, with what stands there and the place after it
abbrev pub Finds : Meta → State → IdBytes → ℕ → List Key → ℕ → Option Found → Type 0
Finds meta m e c keys next None = members_from meta m e c keys next ≡ no_members
Finds meta m e c keys next (Some found) =
    (members_from meta m e c keys next ≡ with_member (key_name meta found.key) (part meta m (whole meta m) e c found.key)
    (members_from meta m e c keys found.after))
    × (shown (whole meta m) found.part ≡ text_if (part meta m (whole meta m) e c found.key))
    × (is_absent found.part ≡ false)

-- ---- the stack

-- what is left to write of an object or an array that is begun
abbrev pub frame_text : Meta → State → Frame → List ℕ
frame_text meta m (ObjectFrame o) = members_text o.later (members_from meta m o.id o.class o.keys o.next)
frame_text meta m (ArrayFrame entries next) = items_text (nat_lt 0 next) (items_of (map (whole meta m) (entry_ids (drop next entries))))

-- the last that was begun is written first
unfoldable pub stack_text : Meta → State → List Frame → List ℕ
stack_text meta m [] = []
stack_text meta m (frame ∷ frames) = stack_text meta m frames ++ frame_text meta m frame

-- the text is written or begun: at least so many bytes are written, and what is left of it stands before what was left
pub record Writes (least : ℕ) (meta : Meta) (m : State) (text : List ℕ) (old new : List Frame) (before now : List ℕ) : Type 0 where
  pub all : now ++ stack_text meta m new ≡ before ++ (text ++ stack_text meta m old)
  pub longer : length before + least ≤ length now
