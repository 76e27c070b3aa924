-- An item by which an event is made again: it may stand in a script, and is answered with that event.
use Rattle.std.proofs.Common.{◌≡◌, ℕ, List, Bool, true, false, Option, None, Some, Ok}
use Rattle.std.proofs.lemmas.List.Folds.{list_any_none}
use Rattle.host_port.specs.Cut.{is_lf}
use Rattle.op_form.specs.declared.event.Event.{Event}
use Rattle.script_lang.specs.declared.command.Command.{Command}
use Rattle.script_lang.specs.Command.{command_of}
use Rattle.script_lang.specs.Spelling.{IsCommand, IsLineOf}
use Rattle.script_lang.proofs.LineLemmas.{line_read}
use Rattle.plain_repository.specs.State.{State}
use Rattle.plain_repository.specs.Lines.{is_skipped, takes_block}
use Rattle.plain_repository.specs.Repository.{decide, decide_line, decide_command, decide_with}
use Rattle.printed_items.specs.Printed.{IsWholeLine, IsWholeBlock}
use Rattle.replay_laws.specs.Remaking.{Remakes}
use Rattle.replay_laws.proofs.Deciding.{Makes}

-- what a line of a command is: it is not skipped, and takes a block or takes none
pub record IsCommandLine (line : List ℕ) (takes : Bool) : Type 0 where
  pub kept : is_skipped line ≡ false
  pub block : takes_block line ≡ takes

read : (line : List ℕ) (command : Command) → IsWholeLine line → IsCommand command → IsLineOf line command → command_of line ≡ Ok command
read line command whole is words = line_read line command (record { is_line = list_any_none is_lf line whole.no_feed; form = is; words = words })

decided : (s : State) (line : List ℕ) (block : Option (List ℕ)) (command : Command) (takes : Bool) → IsCommandLine line takes → command_of line ≡ Ok command
    → (event : Event) → Makes (decide_with s s.meta block command) event
    → ((decide s (record { line = line; block = block })).event ≡ Some event) × ((decide s (record { line = line; block = block })).refused ≡ false)
unfolding decide decide_line decide_command
decided s line block command takes is spells event makes = rw (is.kept, spells) (makes.makes, makes.accepts)

-- a command without a block
pub remade : (s : State) (line : List ℕ) (command : Command) (event : Event) → IsWholeLine line → IsCommandLine line false → IsCommand command
    → IsLineOf line command
    → Makes (decide_with s s.meta None command) event → Remakes s (record { line = line; block = None }) event
remade s line command event whole is form words makes =
    let d = decided s line None command false is (read line command whole form words) event makes in
    record { stands = record { line = whole; block = is.block }; makes = d.0; accepts = d.1 }

-- and one with a block
pub remade_with : (s : State) (line text : List ℕ) (command : Command) (event : Event) → IsWholeLine line → IsCommandLine line true → IsCommand command
    → IsLineOf line command → IsWholeBlock text
    → Makes (decide_with s s.meta (Some text) command) event → Remakes s (record { line = line; block = Some text }) event
remade_with s line text command event whole is form words block makes =
    let d = decided s line (Some text) command true is (read line command whole form words) event makes in
    record { stands = record { line = whole; block = (is.block, block) }; makes = d.0; accepts = d.1 }
