-- The lines of an event, or why it has none.
use Rattle.std.specs.Prelude.{◌≡◌, ◌⊎◌, ℕ, List, not, true, false, Option, Some, None, Result, Ok, Err, if◌then◌else◌}
use Rattle.std.specs.Borrow.{Bor}
use Rattle.printed_items.specs.Printed.{printed_item}
use Rattle.op_form.specs.declared.event.Event.{Event}
use Rattle.history_tree.specs.Room.{HistoryState}
use Rattle.history_tree.specs.History.{History, no_history}
use Rattle.script_lang.specs.Spelling.{spaced}
use Rattle.replay_script.specs.Lines.{words_again, block_again, item_again}
use Rattle.replay_script.specs.Printable.{is_known, is_too_long, is_not_printable}
use Rattle.replay_script.specs.declared.fault.PrintFault.{PrintFault}
use Rattle.replay_script.specs.declared.fault.PrintFault.TheVariants.{Unknown, TooLong, NotPrintable, Memory}

-- the history, which has no version and no branch before the first event
abbrev pub history_of : Option (Bor HistoryState) → History
history_of None = no_history
history_of (Some h) = h.now.history

-- the lines of the event, or the first reason why it has none
abbrev pub lines_again : History → Event → Result (List ℕ) PrintFault
lines_again h event =
    if not (is_known h event) then Err Unknown
    else if is_too_long event then Err TooLong
    else if is_not_printable h event then Err NotPrintable
    else Ok (printed_item (item_again h event))

-- the line of an event that names what is there, else Unknown, unless there is no memory
abbrev pub GivesLine : Result (List ℕ) PrintFault → History → Event → Type 0
GivesLine (Ok line) h event = (is_known h event ≡ true) × (line ≡ spaced (words_again h event))
GivesLine (Err fault) h event = (fault ≡ Memory) ⊎ ((fault ≡ Unknown) × (is_known h event ≡ false))

-- the block of an event, if it has one, that is no longer than a block, else TooLong, unless there is no memory
abbrev pub GivesBlock : Result (Option (List ℕ)) PrintFault → Event → Type 0
GivesBlock (Ok block) event = (is_too_long event ≡ false) × (block ≡ block_again event)
GivesBlock (Err fault) event = (fault ≡ Memory) ⊎ ((fault ≡ TooLong) × (is_too_long event ≡ true))
