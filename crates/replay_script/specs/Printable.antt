-- Which events a script can't hold: a package that is longer than a block, and a text that would be cut otherwise than it stands.
use Rattle.std.specs.Prelude.{◌&&◌, ◌||◌, nat_lt, Bool, true, false, length}
use Rattle.host_port.specs.Limits.{line_limit}
use Rattle.op_form.specs.declared.event.Event.{Event}
use Rattle.op_form.specs.declared.event.Event.TheVariants.{Init, Checkout, Edit, Begin, End, Undo, Discard, Tidy, Commit, Branch, Tag, Update, Merge}
use Rattle.op_form.specs.declared.event.Event.TheVariants.{Drop, Evolve, Upgrade, Signed}
use Rattle.op_form.specs.Packages.{package_encoding}
use Rattle.history_tree.specs.History.{History}
use Rattle.script_lang.specs.Spelling.{spaced}
use Rattle.replay_texts.specs.Texts.{breaks_line, breaks_block}
use Rattle.replay_script.specs.Lines.{words_again}

-- each version and each branch that the event names is there
abbrev pub is_known : History → Event → Bool
is_known h (Init text) = true
is_known h (Checkout version branch) = nat_lt version (length h.versions) && nat_lt branch (length h.branches)
is_known h (Edit ws operations) = true
is_known h (Begin ws name) = true
is_known h (End ws) = true
is_known h (Undo ws) = true
is_known h (Discard ws) = true
is_known h (Tidy ws) = true
is_known h (Commit ws message) = true
is_known h (Branch ws name) = true
is_known h (Tag name version) = nat_lt version (length h.versions)
is_known h (Update ws letters) = true
is_known h (Merge ws branch letters) = nat_lt branch (length h.branches)
is_known h (Drop ws) = true
is_known h (Evolve text) = true
is_known h Upgrade = true
is_known h (Signed ws author moment message) = true

-- the package's digits and their line feed pass a block's limit: it has more than 4,194,303 bytes
abbrev pub is_too_long : Event → Bool
is_too_long (Init text) = false
is_too_long (Checkout version branch) = false
is_too_long (Edit ws operations) = nat_lt 4194303 (length (package_encoding operations))
is_too_long (Begin ws name) = false
is_too_long (End ws) = false
is_too_long (Undo ws) = false
is_too_long (Discard ws) = false
is_too_long (Tidy ws) = false
is_too_long (Commit ws message) = false
is_too_long (Branch ws name) = false
is_too_long (Tag name version) = false
is_too_long (Update ws letters) = false
is_too_long (Merge ws branch letters) = false
is_too_long (Drop ws) = false
is_too_long (Evolve text) = false
is_too_long Upgrade = false
is_too_long (Signed ws author moment message) = false

-- the text of the event is one that its line or its block can't hold
abbrev pub breaks : Event → Bool
breaks (Init text) = breaks_block text
breaks (Checkout version branch) = false
breaks (Edit ws operations) = false
breaks (Begin ws name) = false
breaks (End ws) = false
breaks (Undo ws) = false
breaks (Discard ws) = false
breaks (Tidy ws) = false
breaks (Commit ws message) = breaks_line message
breaks (Branch ws name) = false
breaks (Tag name version) = false
breaks (Update ws letters) = false
breaks (Merge ws branch letters) = false
breaks (Drop ws) = false
breaks (Evolve text) = breaks_block text
breaks Upgrade = false
breaks (Signed ws author moment message) = breaks_line message

-- or its line is too long
abbrev pub is_not_printable : History → Event → Bool
is_not_printable h event = breaks event || nat_lt line_limit (length (spaced (words_again h event)))
