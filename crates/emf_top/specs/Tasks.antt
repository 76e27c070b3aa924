-- What is asked for, as tasks.
use Rattle.std.specs.Prelude.{◌≡◌, refl, ℕ, List, [], ◌∷◌, ◌++◌, codes, not, false, length, count_by}
use Rattle.std.specs.Fmt.{decimal}
use Rattle.host_port.specs.Cut.{Item}
use Rattle.command_runs.specs.Runs.{Answer, answers, events, played}
use Rattle.op_form.specs.declared.event.Event.{Event}
use Rattle.plain_repository.specs.State.{State}
use Rattle.plain_repository.specs.Events.{play}
use Rattle.plain_repository.specs.Repository.{decide}
use Rattle.repo_state.specs.Counting.{live_workspaces}
use Rattle.repo_answers.specs.Counting.{element_count}
use Rattle.script_items.specs.Items.{script}
use Rattle.script_items.specs.Generator.{generated}
use Rattle.script_items.specs.declared.words.Request.{Request}
use Rattle.script_items.specs.declared.words.Request.TheVariants.{Serve, Check, Generate}
use Rattle.store_session.specs.Tasks.{Task, serving, printing}
use Rattle.store_session.specs.declared.status.Status.TheVariants.{Accepted}

-- ---- --check
-- how many there are of each, as a line
abbrev pub check_line : State → List ℕ
check_line s = codes "check events " ++ (decimal s.events ++ (codes " versions " ++ (decimal (length s.history.versions)
    ++ (codes " branches " ++ (decimal (length s.history.branches) ++ (codes " tags " ++ (decimal (length s.history.tags)
    ++ (codes " workspaces " ++ (decimal (live_workspaces s) ++ (10 ∷ []))))))))))

-- a store is looked at: the one line is printed, and the input stays unread
abbrev pub checking : State → Task
checking s = record { answers = printing (check_line s) ∷ []; end = Accepted; reads = false }

-- ---- --generate
-- an answer whose reply is not printed
abbrev pub silenced : Answer Event → Answer Event
silenced answer = record { reply = []; refused = answer.refused; event = answer.event }

-- an item is answered as ever, and the reply is not printed
abbrev pub quietly : State → Item → Answer Event
quietly s item = silenced (decide s item)

-- how many answers are refusals, and how many are not
abbrev pub refusals_in : List (Answer Event) → ℕ
refusals_in given = count_by (λ a. a.refused) given

abbrev pub others_in : List (Answer Event) → ℕ
others_in given = count_by (λ a. not a.refused) given

-- how many lines were accepted and how many refused, and what there is in the end, as a line
abbrev pub outcome_line : ℕ → ℕ → State → List ℕ
outcome_line accepted refused s = codes "accepted " ++ (decimal accepted ++ (codes " refused " ++ (decimal refused
    ++ (codes " versions " ++ (decimal (length s.history.versions) ++ (codes " elements " ++ (decimal (element_count s) ++ (10 ∷ []))))))))

-- what is printed of some answers, and of the state that they lead to
abbrev pub outcome : State → List (Answer Event) → List ℕ
outcome s given = outcome_line (others_in given) (refusals_in given) (played play s (events given))

-- items are answered in place of the input, and of their replies nothing is printed but the outcome
abbrev pub filling : State → List Item → Task
filling s items =
    let given = answers quietly play s items in
    record { answers = given ++ printing (outcome s given) ∷ []; end = Accepted; reads = false }

-- ---- all forms
-- what is asked for, on the state of the store and the input
abbrev pub task_of : Request → State → List ℕ → Task
task_of Serve s input = serving s (script input)
task_of Check s input = checking s
task_of (Generate seed count) s input = filling s (generated seed count)

-- whether the input is read goes by what is asked for alone
pub same_reads : (request : Request) (s t : State) (one two : List ℕ) → (task_of request s one).reads ≡ (task_of request t two).reads
same_reads Serve s t one two = refl
same_reads Check s t one two = refl
same_reads (Generate seed count) s t one two = refl
