-- What a line of a script is answered: one line a command.
use Rattle.std.specs.Prelude.{ℕ, List, [], false, Option, Some, None, Result, Ok, Err, if◌then◌else◌}
use Rattle.host_port.specs.Cut.{Item}
use Rattle.command_runs.specs.Runs.{Answer}
use Rattle.ecore_meta.specs.Meta.{Meta}
use Rattle.op_form.specs.declared.event.Event.{Event}
use Rattle.script_lang.specs.declared.command.Command.{Command}
use Rattle.script_lang.specs.declared.command.Command.TheVariants as commands
use Rattle.script_lang.specs.declared.reply.Refusal.TheVariants as refusals
use Rattle.script_lang.specs.Command.{command_of}
use Rattle.script_lang.specs.Reply.{printed}
use Rattle.command_facts.specs.Facts.{facts}
use Rattle.plain_repository.specs.Lines.{is_skipped}
use Rattle.plain_repository.specs.State.{State}
use Rattle.plain_repository.specs.Answers.{Decision, refused, is_refusal}
use Rattle.plain_repository.specs.Metamodels.{decide_init, decide_evolve}
use Rattle.plain_repository.specs.Checkouts.{decide_checkout, decide_drop}
use Rattle.plain_repository.specs.Commits.{decide_commit, decide_signed, decide_upgrade, decide_branch, decide_tag}
use Rattle.plain_repository.specs.Edits.{decide_edit, decide_import}
use Rattle.plain_repository.specs.Composites.{decide_begin, decide_end}
use Rattle.plain_repository.specs.Local.{decide_undo, decide_discard}
use Rattle.plain_repository.specs.Tidying.{decide_tidy}
use Rattle.plain_repository.specs.Applying.{decide_apply, decide_load, decide_revert}
use Rattle.plain_repository.specs.Merging.{decide_update, decide_merge}
use Rattle.plain_repository.specs.Views.{decide_changes, decide_show, decide_validate, decide_cat, decide_package, decide_log}

-- the text of a block, empty where there is none
abbrev pub block_text : Option (List ℕ) → List ℕ
block_text None = []
block_text (Some text) = text

-- a command where there is a metamodel
abbrev pub decide_begun : State → Meta → Option (List ℕ) → Command → Decision
decide_begun s meta block commands.Init = decide_init s (Some meta) (block_text block)
decide_begun s meta block commands.Evolve = decide_evolve s meta (block_text block)
decide_begun s meta block (commands.Checkout spec) = decide_checkout s meta spec
decide_begun s meta block (commands.Edit ws edit) = decide_edit s meta ws edit
decide_begun s meta block (commands.Import ws) = decide_import s meta ws (block_text block)
decide_begun s meta block (commands.Load ws) = decide_load s meta ws (block_text block)
decide_begun s meta block (commands.Begin ws name) = decide_begin s ws name
decide_begun s meta block (commands.End ws) = decide_end s ws
decide_begun s meta block (commands.Undo ws) = decide_undo s ws
decide_begun s meta block (commands.Discard ws) = decide_discard s ws
decide_begun s meta block (commands.Tidy ws) = decide_tidy s meta ws
decide_begun s meta block (commands.Apply ws bytes) = decide_apply s meta ws bytes
decide_begun s meta block (commands.Changes ws) = decide_changes s meta ws
decide_begun s meta block (commands.Show ws) = decide_show s meta ws
decide_begun s meta block (commands.Cat spec) = decide_cat s meta spec
decide_begun s meta block (commands.Validate ws) = decide_validate s meta ws
decide_begun s meta block (commands.Commit ws message) = decide_commit s ws message
decide_begun s meta block (commands.Signed ws author moment message) = decide_signed s ws author moment message
decide_begun s meta block (commands.Branch ws name) = decide_branch s ws name
decide_begun s meta block (commands.Tag name spec) = decide_tag s name spec
decide_begun s meta block commands.Log = decide_log s
decide_begun s meta block (commands.Package spec) = decide_package s meta spec
decide_begun s meta block (commands.Update ws choices) = decide_update s meta ws choices
decide_begun s meta block (commands.Merge ws branch choices) = decide_merge s meta ws branch choices
decide_begun s meta block (commands.Revert ws version) = decide_revert s meta ws version
decide_begun s meta block (commands.Drop ws) = decide_drop s ws
decide_begun s meta block commands.Upgrade = decide_upgrade s

-- before there is a metamodel, `init` alone is answered otherwise than so
abbrev pub decide_with : State → Option Meta → Option (List ℕ) → Command → Decision
decide_with s (Some meta) block command = decide_begun s meta block command
decide_with s None block command = if (facts command).begins then decide_init s None (block_text block) else refused refusals.NotInit

-- a command on a state
unfoldable pub decide_command : State → Option (List ℕ) → Command → Decision
decide_command s block command = decide_with s s.meta block command

-- a line that is no command is refused first
abbrev pub decide_read : State → Option (List ℕ) → Result Command ℕ → Decision
decide_read s block (Ok command) = decide_command s block command
decide_read s block (Err column) = refused (refusals.BadLine column)

-- a line with its block, on a state
unfoldable pub decide_line : State → List ℕ → Option (List ℕ) → Decision
decide_line s line block = decide_read s block (command_of line)

-- a decision, with its reply printed
abbrev pub answer_of : Decision → Answer Event
answer_of decision = record { reply = printed decision.reply; refused = is_refusal decision.reply; event = decision.event }

-- what an item of a script is answered
unfoldable pub decide : State → Item → Answer Event
decide s item = if is_skipped item.line then record { reply = []; refused = false; event = None } else answer_of (decide_line s item.line item.block)
