-- Worked rows: what the definitions say of a few lines, computed.
use Rattle.std.proofs.Common.{◌≡◌, [], ◌∷◌, true, false, None, Some, refl, codes, arith}
use Rattle.std.specs.Fmt.{digits}
use lib.Utf8.{encode}
use Rattle.byte_form.specs.Fields.{u32_encoding, u64_encoding, text_encoding}
use Rattle.op_form.specs.Events.{event_encoding}
use Rattle.op_form.specs.Formed.{is_event}
use Rattle.op_form.specs.Packages.{package_encoding, operation_encoding}
use Rattle.op_form.specs.Steps.{step_encoding}
use Rattle.command_runs.specs.Runs.{played}
use Rattle.std.specs.Str.{is_utf8}
use Rattle.std.proofs.lemmas.Str.{is_utf8-from_IsUtf8, IsUtf8-from_ascii}
use Rattle.std.proofs.lemmas.Str.Ascii.{IsAscii-nil, IsAscii-cons}
use Rattle.ecore_meta.specs.Meta.{Meta}
use Rattle.model_state.specs.declared.step.Step.TheVariants.{RerankPlace}
use Rattle.model_state.specs.declared.operation.OpKind.TheVariants.{Move}
use Rattle.model_state.specs.declared.operation.Operation.{Operation}
use Rattle.model_state.specs.declared.operation.Operation.TheVariants.{Simple}
use Rattle.history_tree.specs.History.{first_history, path, head}
use Rattle.footprint.specs.Buckets.{labels, buckets}
use Rattle.op_form.specs.declared.event.Event.TheVariants.{Checkout, Edit, Commit, Branch, Tag, Drop, Upgrade}
use Rattle.script_lang.specs.declared.command.Spec.TheVariants as specs
use Rattle.script_lang.specs.declared.command.Command.{Command}
use Rattle.script_lang.specs.declared.command.Command.TheVariants as commands
use Rattle.script_lang.specs.declared.reply.Refusal.TheVariants as refusals
use Rattle.script_lang.specs.declared.reply.Last.{Last}
use Rattle.script_lang.specs.declared.reply.Last.TheVariants as last
use Rattle.plain_repository.specs.State.{State}
use Rattle.plain_repository.specs.Answers.{with_room}
use Rattle.plain_repository.specs.Checkouts.{decide_checkout}
use Rattle.plain_repository.specs.Commits.{decide_commit, decide_signed, decide_branch, decide_tag}
use Rattle.plain_repository.specs.Applying.{decide_revert}
use Rattle.plain_repository.specs.Merging.{decide_update, decide_merge}
use Rattle.plain_repository.specs.Events.{play}
use Rattle.plain_repository.specs.Repository.{decide_command}

-- a repository with any metamodel, right after `init`
abbrev begun : Meta → State
begun meta = record { meta = Some meta; history = first_history; workspaces = []; upgraded = false; events = 1; end = 100 }

-- some operation
abbrev some_operation : Operation
some_operation = Simple Move (RerankPlace (codes "b") 1 2 ∷ [])

-- version 1, made by workspace 1, and workspace 2 at it
abbrev two : Meta → State
two meta = played play (begun meta) (Checkout 0 0 ∷ Edit 1 (some_operation ∷ []) ∷ Commit 1 (codes "a") ∷ Checkout 1 0 ∷ [])

-- the line that ends the answer
abbrev said : State → Command → Last
said s command = (decide_command s None command).reply.last

nothing_local : (meta : Meta) → said (two meta) (commands.Commit 2 (Some (codes "n"))) ≡ last.No refusals.NothingLocal
unfolding decide_command play decide_commit
nothing_local meta = refl

-- at the head there is no bucket, so no letter fits, and without one nothing changes
no_letter_fits : (meta : Meta) → said (two meta) (commands.Update 2 (Some (codes "m"))) ≡ last.No (refusals.BadChoice 0 1)
unfolding decide_command play decide_update buckets labels
no_letter_fits meta = refl

up_to_date : (meta : Meta) → said (two meta) (commands.Update 2 None) ≡ last.Ok (codes "1")
unfolding decide_command play decide_update buckets labels digits
up_to_date meta = refl

own_branch : (meta : Meta) → said (two meta) (commands.Merge 2 (codes "trunk") None) ≡ last.No refusals.SameBranch
unfolding decide_command play decide_merge
own_branch meta = refl

-- then workspace 1 makes version 2
abbrev three : Meta → State
three meta = played play (two meta) (Edit 1 (some_operation ∷ []) ∷ Commit 1 (codes "m") ∷ [])

is_stale : (meta : Meta) → said (three meta) (commands.Commit 2 (Some (codes "n"))) ≡ last.No (refusals.Stale 1 2)
unfolding decide_command play decide_commit
is_stale meta = refl

-- and workspace 2 makes version 3 on a branch of its own
abbrev four : Meta → State
four meta = played play (three meta) (Branch 2 (codes "dev") ∷ Edit 2 (some_operation ∷ []) ∷ [])

off_path : (meta : Meta) → said (four meta) (commands.Revert 2 2) ≡ last.No refusals.NotOnPath
unfolding decide_command play decide_revert
off_path meta = refl

no_version : (meta : Meta) → said (four meta) (commands.Revert 2 9) ≡ last.No refusals.NoVersion
unfolding decide_command play decide_revert
no_version meta = refl

message_is : is_utf8 (codes "k") ≡ true
message_is = is_utf8-from_IsUtf8 (codes "k") (IsUtf8-from_ascii (codes "k") (IsAscii-cons 107 [] (omega arith) IsAscii-nil))

third : (meta : Meta) → said (four meta) (commands.Commit 2 (Some (codes "k"))) ≡ last.Ok (codes "3")
unfolding decide_command play decide_commit with_room is_event event_encoding u32_encoding u64_encoding text_encoding package_encoding
    operation_encoding step_encoding digits encode
third meta = rw (said, message_is) refl

-- paths and heads
abbrev five : Meta → State
five meta = played play (four meta) (Commit 2 (codes "k") ∷ Tag (codes "t") 1 ∷ Tag (codes "u") 1 ∷ Drop 1 ∷ [])

paths : (meta : Meta) → path (five meta).history 3 ≡ 0 ∷ 1 ∷ 3 ∷ []
unfolding play
paths meta = refl

heads : (meta : Meta) → (head (five meta).history 0 ≡ 2) × (head (five meta).history 1 ≡ 3)
unfolding play
heads meta = (refl, refl)

exists : (meta : Meta) → said (five meta) (commands.Branch 2 (codes "dev")) ≡ last.No refusals.BranchExists
unfolding decide_command play decide_branch
exists meta = refl

tagged : (meta : Meta) → said (five meta) (commands.Tag (codes "t") (specs.Number 0)) ≡ last.No refusals.TagExists
unfolding decide_command play decide_tag
tagged meta = refl

gone : (meta : Meta) → said (five meta) (commands.Commit 1 None) ≡ last.No refusals.NoWorkspace
unfolding decide_command play decide_commit
gone meta = refl

checked_out : (meta : Meta) → said (five meta) (commands.Checkout (specs.Tag (codes "t"))) ≡ last.Ok (codes "3 1 trunk")
unfolding decide_command play decide_checkout with_room is_event event_encoding u32_encoding u64_encoding text_encoding package_encoding
    operation_encoding step_encoding digits
checked_out meta = refl

on_dev : (meta : Meta) → said (five meta) (commands.Checkout (specs.Branch (codes "dev"))) ≡ last.Ok (codes "3 3 dev")
unfolding decide_command play decide_checkout with_room is_event event_encoding u32_encoding u64_encoding text_encoding package_encoding
    operation_encoding step_encoding digits
on_dev meta = refl

-- a version is signed once the store is upgraded, and not before
old_form : (meta : Meta) → said (four meta) (commands.Signed 2 (codes "ann") 5 None) ≡ last.No refusals.OldForm
unfolding decide_command play decide_signed
old_form meta = refl

abbrev upgraded : Meta → State
upgraded meta = play (four meta) Upgrade

unsigned : (meta : Meta) → said (upgraded meta) (commands.Commit 2 None) ≡ last.No refusals.Unsigned
unfolding decide_command play decide_commit
unsigned meta = refl

author_is : is_utf8 (codes "ann") ≡ true
author_is = is_utf8-from_IsUtf8 (codes "ann") (IsUtf8-from_ascii (codes "ann") (IsAscii-cons 97 (codes "nn") (omega arith)
    (IsAscii-cons 110 (codes "n") (omega arith) (IsAscii-cons 110 [] (omega arith) IsAscii-nil))))

nothing_is : is_utf8 [] ≡ true
nothing_is = is_utf8-from_IsUtf8 [] (IsUtf8-from_ascii [] IsAscii-nil)

signed : (meta : Meta) → said (upgraded meta) (commands.Signed 2 (codes "ann") 5 None) ≡ last.Ok (codes "3")
unfolding decide_command play decide_signed with_room is_event event_encoding u32_encoding u64_encoding text_encoding package_encoding
    operation_encoding step_encoding digits encode
signed meta = rw (said, author_is, nothing_is) refl
