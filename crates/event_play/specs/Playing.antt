-- What is tested of an event before it is made.
use Rattle.std.specs.Prelude.{◌==◌, Bool, Option, Some, None, true, false}
use Rattle.history_tree.specs.History.{History, head}
use Rattle.op_form.specs.declared.event.Event.{Event}
use Rattle.op_form.specs.declared.event.Event.TheVariants.{Init, Checkout, Edit, Begin, End, Undo, Discard, Tidy, Commit, Branch, Tag, Update, Merge}
use Rattle.op_form.specs.declared.event.Event.TheVariants.{Drop, Evolve, Upgrade, Signed}
use Rattle.plain_repository.specs.State.{Workspace}

-- the events whose test is a part of making them: a text is read, steps are taken, or operations are compared
abbrev pub is_tested_late : Event → Bool
is_tested_late (Init text) = true
is_tested_late (Edit ws operations) = true
is_tested_late (Tidy ws) = true
is_tested_late (Update ws letters) = true
is_tested_late (Merge ws branch letters) = true
is_tested_late (Evolve text) = true
is_tested_late (Checkout version branch) = false
is_tested_late (Begin ws name) = false
is_tested_late (End ws) = false
is_tested_late (Undo ws) = false
is_tested_late (Discard ws) = false
is_tested_late (Commit ws message) = false
is_tested_late (Branch ws name) = false
is_tested_late (Tag name version) = false
is_tested_late (Drop ws) = false
is_tested_late Upgrade = false
is_tested_late (Signed ws author moment message) = false

-- the workspace is there, and its base is the head of its branch
abbrev pub is_at_head : History → Option Workspace → Bool
is_at_head h None = false
is_at_head h (Some w) = w.base == head h w.branch
