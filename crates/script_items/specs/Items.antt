-- What is read of a script.
use Rattle.std.specs.Prelude.{◌≡◌, ℕ, ◌-◌, ◌<◌, ◌^◌, List, length, false, Option, Some, None, IfSome, Result, Ok, Err}
use Rattle.host_port.specs.Cut.{Item, Script, script_of, with_item, ends_by}
use Rattle.host_port.specs.Reads.{EndsScript}
use Rattle.plain_repository.specs.Lines.{is_skipped, takes_block}
use Rattle.host_port.specs.declared.lines.LineFault.{LineFault}

-- the script that an input is
abbrev pub script : List ℕ → Script
script input = script_of takes_block input

-- the texts of an item are short enough to be read
abbrev pub IsShortItem : Item → Type 0
IsShortItem item = (length item.line < 2 ^ 32 - 1) × IfSome item.block (λ text. length text < 2 ^ 32 - 1)

-- an item that is short enough to be read, and gets a reply
abbrev pub IsAnswered : Item → Type 0
IsAnswered item = IsShortItem item × (is_skipped item.line ≡ false)

-- the script's next item, with what is left of the script after it; or its end; or its fault
abbrev pub GotItem : Result (Option Item) LineFault → Script → Script → Type 0
GotItem (Ok (Some item)) whole rest = whole ≡ with_item item.line item.block rest
GotItem (Ok None) whole rest = whole ≡ ends_by None
GotItem (Err fault) whole rest = EndsScript fault whole
