-- Workspaces are made and dropped: the commands `checkout` and `drop`, and the events Checkout and Drop.
use Rattle.std.specs.Prelude.{ℕ, ◌+◌, ◌&&◌, ◌||◌, ◌==◌, nat_lt, List, [], ◌∷◌, ◌++◌, Bool, false, length, slice_get, Option, Some, None, Result, Ok, Err}
use Rattle.std.specs.Fmt.{decimal}
use Rattle.std.specs.List.{join_with_byte}
use Rattle.std.specs.Option.{option_map_or}
use Rattle.ecore_meta.specs.Meta.{Meta}
use Rattle.history_tree.specs.declared.found.Found.{Found}
use Rattle.history_tree.specs.declared.found.FindFault.{FindFault}
use Rattle.history_tree.specs.History.{History, head}
use Rattle.history_tree.specs.Found.{branch_name}
use Rattle.history_tree.specs.States.{state_of}
use Rattle.model_texts.specs.Tree.{text}
use Rattle.op_form.specs.declared.event.Event.TheVariants as events
use Rattle.script_lang.specs.declared.command.Spec.{Spec}
use Rattle.script_lang.specs.declared.reply.Refusal.TheVariants as refusals
use Rattle.plain_repository.specs.State.{State, Workspace, untouched, workspace_of, changed_by_number}
use Rattle.plain_repository.specs.Answers.{Decision, refused, with_room}
use Rattle.plain_repository.specs.Specs.{found_by_spec, unknown}

-- a new workspace, numbered one above those made so far
abbrev pub with_checkout : ℕ → ℕ → State → State
with_checkout version branch s = record s { workspaces = s.workspaces ++ Some (untouched branch version) ∷ [] }

-- the version and the branch are there, and the version is of that branch, or is its head
abbrev pub can_check_out : History → ℕ → ℕ → Bool
can_check_out h version branch =
    nat_lt version (length h.versions) && nat_lt branch (length h.branches)
    && (option_map_or (λ v. v.branch == branch) (slice_get h.versions version) false || (head h branch == version))

-- the workspace is dropped, and its number is never used again
abbrev pub with_drop : ℕ → State → State
with_drop ws s = record s { workspaces = changed_by_number (λ workspace. None) s.workspaces ws }

-- the number of the next workspace, the version, and the branch's name
abbrev pub checkout_words : State → Found → List ℕ
checkout_words s found = join_with_byte 32 (decimal (length s.workspaces + 1) ∷ decimal found.version ∷ branch_name s.history found.branch ∷ [])

-- a new workspace, where a version was found
abbrev pub checkout_found : State → Meta → Result Found FindFault → Decision
checkout_found s meta (Err fault) = refused (unknown fault)
checkout_found s meta (Ok found) =
    with_room s (text meta (state_of meta s.history found.version) ∷ []) (checkout_words s found) (events.Checkout found.version found.branch)

-- `checkout SPEC`: a workspace at the version, whose text is printed
unfoldable pub decide_checkout : State → Meta → Spec → Decision
decide_checkout s meta spec = checkout_found s meta (found_by_spec s.history spec)

-- the workspace is dropped, where it is there
abbrev pub drop_in : State → ℕ → Option Workspace → Decision
drop_in s ws None = refused refusals.NoWorkspace
drop_in s ws (Some workspace) = with_room s [] [] (events.Drop ws)

-- `drop WS`: the workspace is dropped
unfoldable pub decide_drop : State → ℕ → Decision
decide_drop s ws = drop_in s ws (workspace_of s ws)
