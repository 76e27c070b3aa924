-- The command that a line spells, or the column of the first word that does not fit.
use Rattle.std.specs.Prelude.{◌≡◌, ℕ, ◌==◌, ◌&&◌, List, [], ◌∷◌, codes, Option, Some, None, Result, Ok, Err, if◌then◌else◌}
use Rattle.script_lang.specs.declared.fault.ParseFault.{ParseFault}
use Rattle.script_lang.specs.declared.command.Spec.{Spec}
use Rattle.script_lang.specs.declared.command.Spec.TheVariants.{Number, Branch, Tag}
use Rattle.script_lang.specs.declared.command.Command.{Command}
use Rattle.script_lang.specs.declared.command.Command.TheVariants as commands
use Rattle.edits.specs.declared.edit.Destination.{Destination}
use Rattle.edits.specs.declared.edit.Destination.TheVariants.{Root, Inside}
use Rattle.edits.specs.declared.edit.Edit.TheVariants.{Create, Delete, Set, Unset, Add, Remove, Shift, Link, Unlink, Reorder, Move}
use Rattle.script_lang.specs.Left.{Left}
use Rattle.model_state.specs.Names.{is_name}
use Rattle.hex.specs.Hex.{decode_of}
use Rattle.hex.specs.declared.error.FromHexError.{FromHexError}
use Rattle.script_lang.specs.Words.{◌>>=◌, word_at, number_of, number_at, found_at, end_at, name_at, optional_at, optional_number_at, rest_at}
use Rattle.script_lang.specs.Words.{optional_rest_at, index_or_end_at, moment_at, IsBad}
use Rattle.finite_maps.specs.Equal.{text_eq}

-- `@` and a name is a tag's
abbrev pub tag_of : List ℕ → Option Spec
tag_of [] = None
tag_of (b ∷ bs) = if (b == 64) && is_name bs then Some (Tag bs) else None

-- a name is a branch's, and else a tag's after `@`
abbrev pub name_or_tag : List ℕ → Option Spec
name_or_tag word = if is_name word then Some (Branch word) else tag_of word

-- a number names a version, a name a branch
abbrev pub spec_from : Option ℕ → List ℕ → Option Spec
spec_from (Some n) word = Some (Number n)
spec_from None word = name_or_tag word

-- the version that a word names, if it is of the form
unfoldable pub spec_of : List ℕ → Option Spec
spec_of word = spec_from (number_of word) word

-- the next word, which names a version
unfoldable pub spec_at : Left → Result (Spec × Left) ℕ
spec_at left = do
  word ← word_at left
  found_at left.column (spec_of word.0) word.1

-- after `init`: nothing
unfoldable pub init_at : Left → Result Command ℕ
init_at left = do
  end ← end_at left
  Ok commands.Init

-- after `evolve`: nothing
unfoldable pub evolve_at : Left → Result Command ℕ
evolve_at left = do
  end ← end_at left
  Ok commands.Evolve

-- after `import`: WS
unfoldable pub import_at : Left → Result Command ℕ
import_at left = do
  ws ← number_at 1 left
  end ← end_at ws.1
  Ok (commands.Import ws.0)

-- after `load`: WS
unfoldable pub load_at : Left → Result Command ℕ
load_at left = do
  ws ← number_at 1 left
  end ← end_at ws.1
  Ok (commands.Load ws.0)

-- after `checkout`: SPEC
unfoldable pub checkout_at : Left → Result Command ℕ
checkout_at left = do
  spec ← spec_at left
  end ← end_at spec.1
  Ok (commands.Checkout spec.0)

-- after the first word of a place: nothing where that is `/`, else FEATURE
abbrev pub destination_from : List ℕ → Left → Result (Destination × Left) ℕ
destination_from first left = if text_eq first (codes "/") then Ok (Root, left) else word_at left >>= λ feature. Ok (Inside first feature.0, feature.1)

-- the next words, which name a place: `/`, or PARENT FEATURE
unfoldable pub destination_at : Left → Result (Destination × Left) ℕ
destination_at left = do
  first ← word_at left
  destination_from first.0 first.1

-- after `create`: WS CLASS DESTINATION [ID]
unfoldable pub create_at : Left → Result Command ℕ
create_at left = do
  ws ← number_at 1 left
  class ← word_at ws.1
  destination ← destination_at class.1
  id ← optional_at destination.1
  end ← end_at id.1
  Ok (commands.Edit ws.0 (Create class.0 destination.0 id.0))

-- after `delete`: WS ID
unfoldable pub delete_at : Left → Result Command ℕ
delete_at left = do
  ws ← number_at 1 left
  id ← word_at ws.1
  end ← end_at id.1
  Ok (commands.Edit ws.0 (Delete id.0))

-- after `move`: WS ID DESTINATION [INDEX]
unfoldable pub move_at : Left → Result Command ℕ
move_at left = do
  ws ← number_at 1 left
  id ← word_at ws.1
  destination ← destination_at id.1
  index ← optional_number_at destination.1
  end ← end_at index.1
  Ok (commands.Edit ws.0 (Move id.0 destination.0 index.0))

-- after `set`: WS ID FEATURE VALUE
unfoldable pub set_at : Left → Result Command ℕ
set_at left = do
  ws ← number_at 1 left
  id ← word_at ws.1
  feature ← word_at id.1
  value ← rest_at feature.1
  Ok (commands.Edit ws.0 (Set id.0 feature.0 value))

-- after `unset`: WS ID FEATURE
unfoldable pub unset_at : Left → Result Command ℕ
unset_at left = do
  ws ← number_at 1 left
  id ← word_at ws.1
  feature ← word_at id.1
  end ← end_at feature.1
  Ok (commands.Edit ws.0 (Unset id.0 feature.0))

-- after `add`: WS ID FEATURE AT VALUE
unfoldable pub add_at : Left → Result Command ℕ
add_at left = do
  ws ← number_at 1 left
  id ← word_at ws.1
  feature ← word_at id.1
  at ← index_or_end_at feature.1
  value ← rest_at at.1
  Ok (commands.Edit ws.0 (Add id.0 feature.0 at.0 value))

-- after `remove`: WS ID FEATURE INDEX
unfoldable pub remove_at : Left → Result Command ℕ
remove_at left = do
  ws ← number_at 1 left
  id ← word_at ws.1
  feature ← word_at id.1
  index ← number_at 0 feature.1
  end ← end_at index.1
  Ok (commands.Edit ws.0 (Remove id.0 feature.0 index.0))

-- after `shift`: WS ID FEATURE FROM TO
unfoldable pub shift_at : Left → Result Command ℕ
shift_at left = do
  ws ← number_at 1 left
  id ← word_at ws.1
  feature ← word_at id.1
  from ← number_at 0 feature.1
  to ← number_at 0 from.1
  end ← end_at to.1
  Ok (commands.Edit ws.0 (Shift id.0 feature.0 from.0 to.0))

-- after `link`: WS ID FEATURE TARGET [INDEX]
unfoldable pub link_at : Left → Result Command ℕ
link_at left = do
  ws ← number_at 1 left
  id ← word_at ws.1
  feature ← word_at id.1
  target ← word_at feature.1
  index ← optional_number_at target.1
  end ← end_at index.1
  Ok (commands.Edit ws.0 (Link id.0 feature.0 target.0 index.0))

-- after `unlink`: WS ID FEATURE TARGET
unfoldable pub unlink_at : Left → Result Command ℕ
unlink_at left = do
  ws ← number_at 1 left
  id ← word_at ws.1
  feature ← word_at id.1
  target ← word_at feature.1
  end ← end_at target.1
  Ok (commands.Edit ws.0 (Unlink id.0 feature.0 target.0))

-- after `reorder`: WS ID FEATURE TARGET INDEX
unfoldable pub reorder_at : Left → Result Command ℕ
reorder_at left = do
  ws ← number_at 1 left
  id ← word_at ws.1
  feature ← word_at id.1
  target ← word_at feature.1
  index ← number_at 0 target.1
  end ← end_at index.1
  Ok (commands.Edit ws.0 (Reorder id.0 feature.0 target.0 index.0))

-- after `begin`: WS NAME
unfoldable pub begin_at : Left → Result Command ℕ
begin_at left = do
  ws ← number_at 1 left
  name ← name_at ws.1
  end ← end_at name.1
  Ok (commands.Begin ws.0 name.0)

-- after `end`: WS
unfoldable pub end_line_at : Left → Result Command ℕ
end_line_at left = do
  ws ← number_at 1 left
  end ← end_at ws.1
  Ok (commands.End ws.0)

-- after `undo`: WS
unfoldable pub undo_at : Left → Result Command ℕ
undo_at left = do
  ws ← number_at 1 left
  end ← end_at ws.1
  Ok (commands.Undo ws.0)

-- after `discard`: WS
unfoldable pub discard_at : Left → Result Command ℕ
discard_at left = do
  ws ← number_at 1 left
  end ← end_at ws.1
  Ok (commands.Discard ws.0)

-- after `tidy`: WS
unfoldable pub tidy_at : Left → Result Command ℕ
tidy_at left = do
  ws ← number_at 1 left
  end ← end_at ws.1
  Ok (commands.Tidy ws.0)

-- what decoding gave, where it gave bytes
abbrev pub if_decoded : Result (List ℕ) FromHexError → Option (List ℕ)
if_decoded (Ok bytes) = Some bytes
if_decoded (Err e) = None

-- the next word, which spells bytes, two hexadecimal digits of either case a byte
unfoldable pub bytes_at : Left → Result (List ℕ × Left) ℕ
bytes_at left = do
  word ← word_at left
  found_at left.column (if_decoded (decode_of word.0)) word.1

-- after `apply`: WS HEX
unfoldable pub apply_at : Left → Result Command ℕ
apply_at left = do
  ws ← number_at 1 left
  bytes ← bytes_at ws.1
  end ← end_at bytes.1
  Ok (commands.Apply ws.0 bytes.0)

-- after `changes`: WS
unfoldable pub changes_at : Left → Result Command ℕ
changes_at left = do
  ws ← number_at 1 left
  end ← end_at ws.1
  Ok (commands.Changes ws.0)

-- after `show`: WS
unfoldable pub show_at : Left → Result Command ℕ
show_at left = do
  ws ← number_at 1 left
  end ← end_at ws.1
  Ok (commands.Show ws.0)

-- after `cat`: SPEC
unfoldable pub cat_at : Left → Result Command ℕ
cat_at left = do
  spec ← spec_at left
  end ← end_at spec.1
  Ok (commands.Cat spec.0)

-- after `validate`: WS
unfoldable pub validate_at : Left → Result Command ℕ
validate_at left = do
  ws ← number_at 1 left
  end ← end_at ws.1
  Ok (commands.Validate ws.0)

-- after `commit`: WS [MESSAGE]
unfoldable pub commit_at : Left → Result Command ℕ
commit_at left = do
  ws ← number_at 1 left
  message ← optional_rest_at ws.1
  Ok (commands.Commit ws.0 message)

-- after `signed`: WS AUTHOR MOMENT [MESSAGE]
unfoldable pub signed_at : Left → Result Command ℕ
signed_at left = do
  ws ← number_at 1 left
  author ← name_at ws.1
  moment ← moment_at author.1
  message ← optional_rest_at moment.1
  Ok (commands.Signed ws.0 author.0 moment.0 message)

-- after `branch`: WS NAME
unfoldable pub branch_at : Left → Result Command ℕ
branch_at left = do
  ws ← number_at 1 left
  name ← name_at ws.1
  end ← end_at name.1
  Ok (commands.Branch ws.0 name.0)

-- after `tag`: NAME SPEC
unfoldable pub tag_at : Left → Result Command ℕ
tag_at left = do
  name ← name_at left
  spec ← spec_at name.1
  end ← end_at spec.1
  Ok (commands.Tag name.0 spec.0)

-- after `log`: nothing
unfoldable pub log_at : Left → Result Command ℕ
log_at left = do
  end ← end_at left
  Ok commands.Log

-- after `package`: SPEC
unfoldable pub package_at : Left → Result Command ℕ
package_at left = do
  spec ← spec_at left
  end ← end_at spec.1
  Ok (commands.Package spec.0)

-- after `update`: WS [CHOICES]
unfoldable pub update_at : Left → Result Command ℕ
update_at left = do
  ws ← number_at 1 left
  choices ← optional_at ws.1
  end ← end_at choices.1
  Ok (commands.Update ws.0 choices.0)

-- after `merge`: WS BRANCH [CHOICES]
unfoldable pub merge_at : Left → Result Command ℕ
merge_at left = do
  ws ← number_at 1 left
  branch ← name_at ws.1
  choices ← optional_at branch.1
  end ← end_at choices.1
  Ok (commands.Merge ws.0 branch.0 choices.0)

-- after `revert`: WS VERSION
unfoldable pub revert_at : Left → Result Command ℕ
revert_at left = do
  ws ← number_at 1 left
  version ← number_at 0 ws.1
  end ← end_at version.1
  Ok (commands.Revert ws.0 version.0)

-- after `drop`: WS
unfoldable pub drop_at : Left → Result Command ℕ
drop_at left = do
  ws ← number_at 1 left
  end ← end_at ws.1
  Ok (commands.Drop ws.0)

-- after `upgrade`: nothing
unfoldable pub upgrade_at : Left → Result Command ℕ
upgrade_at left = do
  end ← end_at left
  Ok commands.Upgrade

-- the commands by which versions are shared: each its word, and how what stands after it is read
unfoldable pub version_commands : List (List ℕ × (Left → Result Command ℕ))
version_commands =
    (codes "commit", commit_at) ∷
    (codes "signed", signed_at) ∷
    (codes "branch", branch_at) ∷
    (codes "tag", tag_at) ∷
    (codes "log", log_at) ∷
    (codes "package", package_at) ∷
    (codes "update", update_at) ∷
    (codes "merge", merge_at) ∷
    (codes "revert", revert_at) ∷
    (codes "drop", drop_at) ∷
    (codes "upgrade", upgrade_at) ∷ []

-- those of a workspace's local work and of what is shown, and those after them
unfoldable pub work_commands : List (List ℕ × (Left → Result Command ℕ))
work_commands =
    (codes "begin", begin_at) ∷
    (codes "end", end_line_at) ∷
    (codes "undo", undo_at) ∷
    (codes "discard", discard_at) ∷
    (codes "tidy", tidy_at) ∷
    (codes "apply", apply_at) ∷
    (codes "changes", changes_at) ∷
    (codes "show", show_at) ∷
    (codes "cat", cat_at) ∷
    (codes "validate", validate_at) ∷ version_commands

-- those that edit a feature, and those after them
unfoldable pub feature_commands : List (List ℕ × (Left → Result Command ℕ))
feature_commands =
    (codes "set", set_at) ∷
    (codes "unset", unset_at) ∷
    (codes "add", add_at) ∷
    (codes "remove", remove_at) ∷
    (codes "shift", shift_at) ∷
    (codes "link", link_at) ∷
    (codes "unlink", unlink_at) ∷
    (codes "reorder", reorder_at) ∷ work_commands

-- each command: its word, and how what stands after it is read
abbrev pub commands_by_word : List (List ℕ × (Left → Result Command ℕ))
commands_by_word =
    (codes "init", init_at) ∷
    (codes "evolve", evolve_at) ∷
    (codes "import", import_at) ∷
    (codes "load", load_at) ∷
    (codes "checkout", checkout_at) ∷
    (codes "create", create_at) ∷
    (codes "delete", delete_at) ∷
    (codes "move", move_at) ∷ feature_commands

-- the command of that word, read as its row of these says
abbrev pub command_of_word : List (List ℕ × (Left → Result Command ℕ)) → List ℕ → Left → Result Command ℕ
command_of_word [] word left = Err 1
command_of_word (row ∷ rows) word left = if text_eq word row.0 then row.1 left else command_of_word rows word left

-- a whole line: the first word names the command
unfoldable pub command_of : List ℕ → Result Command ℕ
command_of line = do
  first ← word_at (record { rest = Some line; column = 1 })
  command_of_word commands_by_word first.0 first.1

-- a call gave the command that reading gives, or its column
abbrev pub GivesCommand : Result Command ParseFault → Result Command ℕ → Type 0
GivesCommand (Ok c) read = read ≡ Ok c
GivesCommand (Err e) read = IsBad e read

-- a call gave the version that reading gives, and stands after it, or its column
abbrev pub GivesSpec : Left → Result Spec ParseFault → Result (Spec × Left) ℕ → Type 0
GivesSpec new (Ok spec) read = read ≡ Ok (spec, new)
GivesSpec new (Err e) read = IsBad e read
