-- Which entry of the cache a command leaves first.
use Rattle.std.specs.Prelude.{ℕ, Bool, Option, Some, None, Result, Ok, Err}
use Rattle.ecore_meta.specs.Meta.{Meta}
use Rattle.history_tree.specs.declared.found.FindFault.{FindFault}
use Rattle.history_tree.specs.declared.found.Found.{Found}
use Rattle.history_tree.specs.History.{History}
use Rattle.state_cache.specs.Entries.{Entries}
use Rattle.version_states.specs.Cached.{LeavesFirst}
use Rattle.script_lang.specs.declared.command.Command.{Command}
use Rattle.script_lang.specs.declared.command.Spec.{Spec}
use Rattle.command_facts.specs.Facts.{facts, is_state_needed, version_shown}
use Rattle.plain_repository.specs.State.{State}
use Rattle.plain_repository.specs.Specs.{found_by_spec}

-- the command reads the state of a version
abbrev pub reads_version : Command → Bool
reads_version command = is_state_needed (facts command).needs

-- where a version was found, its entry stands first, if its state has not too many bytes
abbrev pub FoundFirst : Meta → History → Result Found FindFault → Entries → Type 0
FoundFirst meta h (Err fault) cache = Unit {0}
FoundFirst meta h (Ok found) cache = LeavesFirst meta h found.version cache

-- so does the one of a version that is shown
abbrev pub VersionFirst : State → Meta → Option Spec → Entries → Type 0
VersionFirst s meta None cache = Unit {0}
VersionFirst s meta (Some spec) cache = FoundFirst meta s.history (found_by_spec s.history spec) cache

-- the entry of the version that `checkout` or `cat` shows stands first
abbrev pub CommandFirst : State → Meta → Command → Entries → Type 0
CommandFirst s meta command cache = VersionFirst s meta (version_shown (facts command).needs (facts command).version) cache

-- the same, once there is a metamodel
abbrev pub ShownFirst : State → Option Meta → Command → Entries → Type 0
ShownFirst s None command cache = Unit {0}
ShownFirst s (Some meta) command cache = CommandFirst s meta command cache

-- the same, of a line that is read as a command
abbrev pub LineFirst : State → Result Command ℕ → Entries → Type 0
LineFirst s (Ok command) cache = ShownFirst s s.meta command cache
LineFirst s (Err column) cache = Unit {0}
