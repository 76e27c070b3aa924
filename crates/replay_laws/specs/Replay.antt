-- A repository's script, run on the empty repository, makes the events again.
use Rattle.std.specs.Prelude.{◌≡◌, ℕ, ◌^◌, ◌<◌, List, false, None, IsTrue, length}
use Rattle.host_port.specs.Cut.{Script, script_of}
use Rattle.command_runs.specs.Runs.{answers, events as made, refuses, played}
use Rattle.op_form.specs.declared.event.Event.{Event}
use Rattle.plain_repository.specs.State.{empty}
use Rattle.plain_repository.specs.Store.{StandsForEvents}
use Rattle.plain_repository.specs.Events.{play, are_playable}
use Rattle.plain_repository.specs.Lines.{takes_block}
use Rattle.plain_repository.specs.Repository.{decide}
use Rattle.replay_laws.specs.Scripts.{script_again, are_printable}

-- Events that each could be made and can be printed, and the store of which ends below 2^40, as that of each file does. Their script
-- is below 2^40, too.
pub record MayReplay (events : List Event) : Type 0 where
  pub could : IsTrue (are_playable empty events)
  pub printable : IsTrue (are_printable empty events)
  pub stored : (played play empty events).end < 2 ^ 40
  pub short : length (script_again events) < 2 ^ 40

-- the script is cut without a fault into items that make just these events, and none of them is refused
pub record Replays (script : Script) (events : List Event) : Type 0 where
  pub whole : script.fault ≡ None
  pub same : made (answers decide play empty script.items) ≡ events
  pub accepted : refuses (answers decide play empty script.items) ≡ false

-- such a script makes the events again
abbrev pub ScriptsReplay : Type 0
ScriptsReplay = (events : List Event) → MayReplay events → Replays (script_of takes_block (script_again events)) events

-- So does the script of the events that a file stands for, where each can be printed and the script is below 2^40: with it, the history
-- of a store is made again on an empty one.
abbrev pub StoresReplay : Type 0
StoresReplay = (file : List ℕ) (events : List Event) → StandsForEvents file events → IsTrue (are_printable empty events) → length (script_again events) < 2 ^ 40
    → Replays (script_of takes_block (script_again events)) events
