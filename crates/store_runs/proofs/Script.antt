-- The loop over the lines of the input.
use Rattle.std.proofs.Common.{◌≡◌, inl, inr, ⊎_elim, ℕ, List, [], ◌∷◌, ◌++◌, Bool, true, false, ◌||◌, Option, Some, None, Err, refl, sym, ◌∙◌, ap, subst}
use Rattle.std.specs.Prelude.{IsTrue, IsSome}
use Rattle.std.proofs.lemmas.List.{append-nil}
use Rattle.host_port.specs.Host.{MayLeave, Told, GoesOn, Throughout, KeepsDisk, KeepsSaid, KeepsInput, AddsPart, disk_now, said_now}
use Rattle.host_port.specs.Cut.{Item, Script, script_from, with_item, ends_by}
use Rattle.host_port.specs.declared.lines.LineFault.{LineFault}
use Rattle.host_port.specs.declared.lines.LineFault.TheVariants as faults
use Rattle.host_port.proofs.Course.{at_last, course_on, course_still, still_disk, still_said, still_input, adds_none, told_next, kept_now}
use Rattle.command_runs.specs.Runs.{Answer, listed, after, answers, replies, events, refuses, events_due}
use Rattle.command_runs.specs.Crashes.{IsRunning, IsStepping}
use Rattle.command_runs.proofs.RunLaws.{or_assoc, or_false}
use Rattle.command_runs.proofs.Going.{Going, Steps, quietly, begins, one_more, stepped_part, stepped_moments, stepped_still, answers_more}
use Rattle.op_form.specs.declared.event.Event.{Event}
use Rattle.plain_repository.specs.Lines.{takes_block, is_skipped}
use Rattle.plain_repository.specs.State.{State}
use Rattle.plain_repository.specs.Events.{play}
use Rattle.plain_repository.specs.Repository.{decide}
use Rattle.plain_repository.specs.Store.{StandsForEvents}
use Rattle.store_session.specs.declared.answered.SessionFault.{SessionFault}
use Rattle.store_session.specs.declared.answered.SessionFault.TheVariants as session
use Rattle.store_session.specs.declared.answered.Answered.TheVariants as answers_as
use Rattle.store_session.specs.Session.{answer_to, answered_as, IsStoreOf, IfMade}
use Rattle.store_session.proofs.Entering.{rest_leaves, holds_stands, none_added, quiet_step, say_step}
use Rattle.store_session.specs.declared.status.Status.{Status}
use Rattle.store_session.specs.declared.status.Status.TheVariants.{Accepted, Refused, ReadFault}
use Rattle.script_items.specs.Items.{GotItem}
use Rattle.store_session.specs.Endings.{IsServed, IsUnsaid, IsUnanswered, IsHalted, Ends, IsDone, session_status}
use Rattle.store_session.specs.Tasks.{Task, serving_by, input_status, end_of, telling_one, gated, gated_by}
use Rattle.store_runs.proofs.Halting.{halted, kept_too, unanswered}

-- the store has the answer's event after those that it had
abbrev pub AddsEvent : Told → Told → State → State → Answer Event → Type 0
AddsEvent b d state now answer =
    IsTrue b.tells → (made : List Event) → IsStoreOf (disk_now b) state made → IsStoreOf (disk_now d) now (made ++ listed answer.event)

-- a run between two commands, where the store rests
pub record Between (rule : State → Item → Answer Event) (entry now : Told) (made : List Event) (task : Task) (left : Script) (state : State)
    (refused : Bool) : Type 0 where
  pub going : Going StandsForEvents entry now made task.answers (answers rule play state left.items) (λ events. IsStoreOf (disk_now now) state events)
  pub end : task.end ≡ end_of left.fault (refused || refuses (answers rule play state left.items))

-- where the loop stands: the reader's place and its bytes at hand, the repository's state, and whether the session is broken
pub record Serving (rule : State → Item → Answer Event) (entry now : Told) (s0 : State) (whole : Script) (failed : Bool) (offset : ℕ)
    (pending : List ℕ) (refused : Bool) (state : State) (broken : Bool) : Type 0 where
  pub fresh : failed ≡ false
  pub unbroken : broken ≡ false
  pub course : GoesOn entry now
  pub holds : IsTrue entry.tells → (made : List Event) × IsStoreOf (disk_now now) state made
  pub going : IsTrue entry.tells → (made : List Event) → IsStoreOf (disk_now entry) s0 made
      → Between rule entry now made (serving_by rule s0 whole) (script_from takes_block offset (pending ++ now.left)) state refused

pub serving_starts : (rule : State → Item → Answer Event) (entry : Told) (s0 : State) (failed : Bool) (offset : ℕ) (pending : List ℕ) (broken : Bool)
    → failed ≡ false → broken ≡ false
    → (IsTrue entry.tells → (made : List Event) × IsStoreOf (disk_now entry) s0 made)
    → Serving rule entry entry s0 (script_from takes_block offset (pending ++ entry.left)) failed offset pending false s0 broken
serving_starts rule entry s0 failed offset pending broken fresh unbroken holds = record {
  fresh = fresh;
  unbroken = unbroken;
  course = course_still entry;
  holds = holds;
  going = λ told made rest. record {
    going = begins StandsForEvents entry made (answers rule play s0 (script_from takes_block offset (pending ++ entry.left)).items)
        (λ events. IsStoreOf (disk_now entry) s0 events)
        (λ holds_made. rest_leaves (disk_now entry) s0 made holds_made) rest;
    end = refl;
  };
}

-- the input was looked at
module _ (rule : State → Item → Answer Event) (entry a b : Told) (made : List Event) (task : Task) (left : Script) (state : State) (refused : Bool)
    (between : Between rule entry a made task left state refused)
    (course : GoesOn entry a) (on : GoesOn a b) (disk : KeepsDisk a b) (said : KeepsSaid a b) (told : IsTrue entry.tells) where
  pub looked : (next : Script) → left ≡ next → Between rule entry b made task next state refused
  looked next is = subst (λ (s : Script). Between rule entry b made task s state refused) is (record {
    going = quietly StandsForEvents entry made task.answers a b (answers rule play state left.items)
        (λ events. IsStoreOf (disk_now a) state events) between.going course on disk said
        (λ events holds. rest_leaves (disk_now a) state events holds) told (λ events. IsStoreOf (disk_now b) state events)
        (λ events holds. subst (λ d. IsStoreOf d state events) (sym (kept_now a b on disk (told_next entry a course told))) holds);
    end = between.end;
  })

-- the script ends there
module _ (rule : State → Item → Answer Event) (entry b : Told) (made : List Event) (task : Task) (state : State) (refused : Bool)
    (fault : Option LineFault) (between : Between rule entry b made task (ends_by fault) state refused) where
  all_done : task.answers ≡ between.going.done
  all_done = between.going.whole_is ∙ append-nil between.going.done

  pub served : IsServed task made entry b
  served = record {
    said = between.going.said ∙ ap (λ (l : List (Answer Event)). said_now entry ++ replies l) (sym all_done);
    stands = subst (λ (l : List (Answer Event)). StandsForEvents (disk_now b).now (made ++ events l)) (sym all_done)
        (holds_stands (disk_now b) state (made ++ events between.going.done) between.going.rest);
  }

  pub end_is : task.end ≡ end_of fault refused
  end_is = between.end ∙ ap (λ (r : Bool). end_of fault r) (or_false refused)

-- an item was asked for
module _ (rule : State → Item → Answer Event) (entry a b : Told) (made : List Event) (task : Task) (left : Script) (state : State) (refused : Bool)
    (between : Between rule entry a made task left state refused)
    (course : GoesOn entry a) (on : GoesOn a b) (disk : KeepsDisk a b) (said : KeepsSaid a b) (told : IsTrue entry.tells) where
  still_left : Between rule entry b made task left state refused
  still_left = looked rule entry a b made task left state refused between course on disk said told left refl

  at_fault : (fault : LineFault) → left ≡ ends_by (Some fault) → IsServed task made entry b × (task.end ≡ input_status fault)
  at_fault fault is =
      let there = looked rule entry a b made task left state refused between course on disk said told (ends_by (Some fault)) is in
      (served rule entry b made task state refused (Some fault) there, end_is rule entry b made task state refused (Some fault) there)

  halted_here : IsHalted task made entry b
  halted_here = halted entry b made task (answers rule play state left.items) state
      still_left.going

  fault_ends : (fault : LineFault) (rest : Script) → IsTrue task.reads → GotItem (Err fault) left rest → Ends task made entry b (input_status fault)
  fault_ends (faults.LineTooLong at) rest reads is = at_fault (faults.LineTooLong at) is
  fault_ends (faults.BlockTooLong at) rest reads is = at_fault (faults.BlockTooLong at) is
  fault_ends (faults.NotText at) rest reads is = at_fault (faults.NotText at) is
  fault_ends (faults.UnendedBlock at) rest reads is = at_fault (faults.UnendedBlock at) is
  fault_ends (faults.InputTooLong at) rest reads is = at_fault (faults.InputTooLong at) is
  fault_ends faults.Failed rest reads is = (halted_here, reads)
  fault_ends faults.Memory rest reads is = halted_here

  end_ends : left ≡ ends_by None → IsServed task made entry b × (task.end ≡ end_of None refused)
  end_ends is =
      let there = looked rule entry a b made task left state refused between course on disk said told (ends_by None) is in
      (served rule entry b made task state refused None there, end_is rule entry b made task state refused None there)

  looked_part : Throughout entry b (λ disk said. AddsPart (said_now entry) (replies task.answers) said)
  looked_part = still_left.going.part

  looked_moments : Throughout entry b (IsRunning StandsForEvents made (events task.answers) (events_due task.answers) (said_now entry))
  looked_moments = still_left.going.moments

  looked_still : events task.answers ≡ [] → KeepsDisk entry b
  looked_still = still_left.going.still

-- an item was answered
module _ (rule : State → Item → Answer Event) (entry b d : Told) (made : List Event) (task : Task) (next : Script) (item : Item) (state : State)
    (refused : Bool) (answer : Answer Event) (answer_is : rule state item ≡ answer)
    (between : Between rule entry b made task (with_item item.line item.block next) state refused) (course : GoesOn entry b) (on : GoesOn b d)
    (part : Throughout b d (λ disk said. AddsPart (said_now b) answer.reply said))
    (moments : (made : List Event) → IsStoreOf (disk_now b) state made → Throughout b d (IsStepping StandsForEvents made answer.event (said_now b)))
    (still : answer.event ≡ None → KeepsDisk b d) where
  left_is : answers rule play state (item ∷ next.items) ≡ answer ∷ answers rule play (after play state answer.event) next.items
  left_is = ap (λ (a : Answer Event). a ∷ answers rule play (after play state a.event) next.items) answer_is

  steps : Steps StandsForEvents b d answer (λ events. IsStoreOf (disk_now b) state events)
  steps = record { course = on; part = part; moments = moments; still = still }

  pub answered_part : Throughout entry d (λ disk said. AddsPart (said_now entry) (replies task.answers) said)
  answered_part = stepped_part StandsForEvents entry made task.answers b d (answers rule play state (item ∷ next.items))
      (λ events. IsStoreOf (disk_now b) state events) between.going course answer
      (answers rule play (after play state answer.event) next.items) left_is steps

  pub answered_moments : Throughout entry d (IsRunning StandsForEvents made (events task.answers) (events_due task.answers) (said_now entry))
  answered_moments = stepped_moments StandsForEvents entry made task.answers b d (answers rule play state (item ∷ next.items))
      (λ events. IsStoreOf (disk_now b) state events) between.going course answer
      (answers rule play (after play state answer.event) next.items) left_is steps

  pub answered_still : events task.answers ≡ [] → KeepsDisk entry d
  answered_still = stepped_still StandsForEvents entry made task.answers b d (answers rule play state (item ∷ next.items))
      (λ events. IsStoreOf (disk_now b) state events) between.going course answer
      (answers rule play (after play state answer.event) next.items) left_is steps

  whole_more : task.answers ≡ (between.going.done ++ answer ∷ []) ++ answers rule play (after play state answer.event) next.items
  whole_more = answers_more StandsForEvents entry made task.answers b d (answers rule play state (item ∷ next.items))
      (λ events. IsStoreOf (disk_now b) state events) between.going course answer
      (answers rule play (after play state answer.event) next.items) left_is steps

  -- it was being written, and is kept or not
  pub unanswered_here : IsTrue b.tells → KeepsSaid b d × IsSome answer.event → MayLeave (disk_now d) (disk_now d).now → IsUnanswered task made entry d
  unanswered_here told_b quiet left =
      let stood = at_last b d (IsStepping StandsForEvents (made ++ events between.going.done) answer.event (said_now b)) on
      (moments (made ++ events between.going.done) between.going.rest) told_b (disk_now d).now left in
      unanswered entry b d made task between.going.done answer
      (answers rule play (after play state answer.event) next.items) whole_more between.going.said on quiet.0 told_b quiet.1
      (⊎_elim (λ (before, same). inl before) (λ both. inr both) stood)

  module _ (now : State) (added : (made : List Event) → IsStoreOf (disk_now b) state made → IsStoreOf (disk_now d) now (made ++ listed answer.event)) where
    -- its reply was not printed whole, and it is kept
    pub unsaid : IsTrue b.tells → IsUnsaid task made entry d
    unsaid told_b = record {
      done = between.going.done;
      answer = answer;
      left = answers rule play (after play state answer.event) next.items;
      whole = whole_more;
      said = subst (λ (l : List ℕ). AddsPart l answer.reply (said_now d)) between.going.said
          (at_last b d (λ disk said. AddsPart (said_now b) answer.reply said) on part told_b);
      stands = kept_too d made between.going.done answer
          (holds_stands (disk_now d) now ((made ++ events between.going.done) ++ listed answer.event)
          (added (made ++ events between.going.done) between.going.rest));
    }

    -- the reply was printed
    pub answered_one : now ≡ after play state answer.event → said_now d ≡ said_now b ++ answer.reply
        → Between rule entry d made task next now (refused || answer.refused)
    answered_one now_is said = subst (λ (s : State). Between rule entry d made task next s (refused || answer.refused)) (sym now_is) (record {
      going = one_more StandsForEvents entry made task.answers b d (answers rule play state (item ∷ next.items))
          (λ events. IsStoreOf (disk_now b) state events) between.going course answer
          (answers rule play (after play state answer.event) next.items) left_is steps
          (λ events. IsStoreOf (disk_now d) (after play state answer.event) events) said
          (λ made holds. subst (λ (s : State). IsStoreOf (disk_now d) s (made ++ listed answer.event)) now_is (added made holds));
      end = between.end ∙ ap (λ (l : List (Answer Event)). end_of next.fault (refused || refuses l)) left_is
          ∙ ap (λ (r : Bool). end_of next.fault r)
          (sym (or_assoc refused answer.refused (refuses (answers rule play (after play state answer.event) next.items))));
    })

pub status_failed : (fault : LineFault) → input_status fault ≡ ReadFault → fault ≡ faults.Failed
status_failed (faults.LineTooLong at) is = absurd cc
status_failed (faults.BlockTooLong at) is = absurd cc
status_failed (faults.NotText at) is = absurd cc
status_failed (faults.UnendedBlock at) is = absurd cc
status_failed (faults.InputTooLong at) is = absurd cc
status_failed faults.Failed is = refl
status_failed faults.Memory is = absurd cc

-- ---- a gate
-- an item that is skipped is answered with nothing
decide_skipped : (s : State) (item : Item) → is_skipped item.line ≡ true → decide s item ≡ telling_one [] false
unfolding decide
decide_skipped s item is = rw is refl

pub decide_read : (s : State) (item : Item) → is_skipped item.line ≡ false → decide s item ≡ answer_to s item.line item.block
unfolding decide
decide_read s item is = rw is refl

pub gated_skipped : (s : State) (item : Item) → is_skipped item.line ≡ true → (refusal : Option (List ℕ)) → gated_by s item refusal ≡ telling_one [] false
gated_skipped s item is None = decide_skipped s item is
gated_skipped s item is (Some reply) = rw is refl

-- it is refused
gated_refused : (s : State) (item : Item) → is_skipped item.line ≡ false → (refusal : Option (List ℕ)) (reply : List ℕ) → Some reply ≡ refusal
    → gated_by s item refusal ≡ telling_one reply true
gated_refused s item is refusal reply some = subst (λ (o : Option (List ℕ)). gated_by s item o ≡ telling_one reply true) some (by is)
  where
    by : is_skipped item.line ≡ false → gated_by s item (Some reply) ≡ telling_one reply true
    by not_skipped = rw not_skipped refl

-- or let in
gated_let_in : (s : State) (item : Item) → is_skipped item.line ≡ false → (refusal : Option (List ℕ)) → None ≡ refusal
    → gated_by s item refusal ≡ answer_to s item.line item.block
gated_let_in s item is refusal none = subst (λ (o : Option (List ℕ)). gated_by s item o ≡ answer_to s item.line item.block) none (decide_read s item is)

-- the same of a gate that was asked for the line, over the repository that it was shown
module _ (refusal : State → List ℕ → Option (List ℕ)) (s shown : State) (item : Item) (line : List ℕ) (read : is_skipped item.line ≡ false)
    (shown_is : shown ≡ s) (line_is : line ≡ item.line) where
  asked : refusal shown line ≡ refusal s item.line
  asked = ap (λ (x : State). refusal x line) shown_is ∙ ap (λ (l : List ℕ). refusal s l) line_is

  pub let_in : (block : Option (List ℕ)) → block ≡ item.block → None ≡ refusal shown line → answer_to s line block ≡ gated refusal s item
  let_in block block_is none = ap (λ (l : List ℕ). answer_to s l block) line_is ∙ ap (λ (b : Option (List ℕ)). answer_to s item.line b) block_is
      ∙ sym (gated_let_in s item read (refusal s item.line) (none ∙ asked))

  pub refused_by : (reply : List ℕ) → Some reply ≡ refusal shown line → gated refusal s item ≡ telling_one reply true
  refused_by reply some = gated_refused s item read (refusal s item.line) reply (some ∙ asked)

-- its refusal is printed, and was its answer
module _ (a b : Told) (s : State) (answer : Answer Event) (reply bytes : List ℕ) (answer_is : answer ≡ telling_one reply true)
    (bytes_are : bytes ≡ reply) (on : GoesOn a b) (disk : KeepsDisk a b)
    (part : Throughout a b (λ disk said. AddsPart (said_now a) bytes said)) where
  pub refusal_added : IsTrue a.tells → (made : List Event) → IsStoreOf (disk_now a) s made → IsStoreOf (disk_now b) s (made ++ listed answer.event)
  refusal_added told made holds = subst (λ (x : Answer Event). IsStoreOf (disk_now b) s (made ++ listed x.event)) (sym answer_is)
      (none_added (disk_now b) s made (subst (λ d. IsStoreOf d s made) (sym (kept_now a b on disk told)) holds))

  pub refusal_part : Throughout a b (λ disk said. AddsPart (said_now a) answer.reply said)
  refusal_part = subst (λ (x : Answer Event). Throughout a b (λ disk said. AddsPart (said_now a) x.reply said)) (sym answer_is)
      (subst (λ (l : List ℕ). Throughout a b (λ disk said. AddsPart (said_now a) l said)) bytes_are part)

  pub refusal_moments : (made : List Event) → IsStoreOf (disk_now a) s made → Throughout a b (IsStepping StandsForEvents made answer.event (said_now a))
  refusal_moments made holds = subst (λ (x : Answer Event). Throughout a b (IsStepping StandsForEvents made x.event (said_now a))) (sym answer_is)
      (say_step a b s made None (said_now a) (none_added (disk_now a) s made holds) disk)

  pub refusal_said : (IsTrue a.tells → said_now b ≡ said_now a ++ bytes) → IsTrue a.tells → said_now b ≡ said_now a ++ answer.reply
  refusal_said whole told = whole told ∙ ap (λ (l : List ℕ). said_now a ++ l) (bytes_are ∙ sym (ap (λ (x : Answer Event). x.reply) answer_is))

  pub refusal_state : s ≡ after play s answer.event
  refusal_state = sym (ap (λ (x : Answer Event). after play s x.event) answer_is)

  pub refusal_refused : answers_as.Refused ≡ answered_as answer.refused
  refusal_refused = sym (ap (λ (x : Answer Event). answered_as x.refused) answer_is)

-- ---- the loop
-- the input was looked at, and the run ends
module _ (rule : State → Item → Answer Event) (entry a b : Told) (s0 : State) (whole : Script) (failed : Bool) (offset : ℕ) (pending : List ℕ)
    (refused : Bool) (state : State) (broken : Bool)
    (serving_a : Serving rule entry a s0 whole failed offset pending refused state broken) (on : GoesOn a b) (disk : KeepsDisk a b) (said : KeepsSaid a b)
    (made : List Event) (holds : IsStoreOf (disk_now entry) s0 made) where
  abbrev ahead : Script
  ahead = script_from takes_block offset (pending ++ a.left)

  there : IsTrue entry.tells → Between rule entry a made (serving_by rule s0 whole) ahead state refused
  there told = serving_a.going told made holds

  told_a : IsTrue entry.tells → IsTrue a.tells
  told_a told = told_next entry a serving_a.course told

  looked_done : (status : Status) → (IsTrue entry.tells → Ends (serving_by rule s0 whole) made entry b status)
      → IsDone (serving_by rule s0 whole) made entry b status
  looked_done status ends = record {
    ends = ends;
    part = λ told. looked_part rule entry a b made (serving_by rule s0 whole) ahead state refused (there told) serving_a.course on disk said told told;
    moments = λ told. looked_moments rule entry a b made (serving_by rule s0 whole) ahead state refused (there told) serving_a.course on disk said told told;
    still = λ none told. looked_still rule entry a b made (serving_by rule s0 whole) ahead state refused
        (there told) serving_a.course on disk said told none told;
  }

  pub fault_done : (fault : LineFault) (rest : Script) → (IsTrue a.tells → GotItem (Err fault) ahead rest)
      → IsDone (serving_by rule s0 whole) made entry b (input_status fault)
  fault_done fault rest got =
      looked_done (input_status fault)
      (λ told. fault_ends rule entry a b made (serving_by rule s0 whole) ahead state refused
      (there told) serving_a.course on disk said told fault rest refl (got (told_a told)))

  module _ (got : IsTrue a.tells → ahead ≡ ends_by None) (empty : IsTrue a.tells → b.left ≡ []) where
    ended : IsTrue entry.tells → IsServed (serving_by rule s0 whole) made entry b × ((serving_by rule s0 whole).end ≡ end_of None refused)
    ended told = end_ends rule entry a b made (serving_by rule s0 whole) ahead state refused (there told) serving_a.course on disk said told (got (told_a told))

    pub refused_done : refused ≡ true → IsDone (serving_by rule s0 whole) made entry b Refused
    refused_done is = looked_done Refused (λ told. ((ended told).0, (ended told).1 ∙ ap (λ (r : Bool). end_of None r) is, λ reads. empty (told_a told)))

    pub accepted_done : refused ≡ false → IsDone (serving_by rule s0 whole) made entry b Accepted
    accepted_done is = looked_done Accepted (λ told. ((ended told).0, (ended told).1 ∙ ap (λ (r : Bool). end_of None r) is, λ reads. empty (told_a told)))

-- the loop at an item
module _ (rule : State → Item → Answer Event) (entry a b : Told) (s0 : State) (whole : Script) (failed : Bool) (offset : ℕ) (pending : List ℕ)
    (refused : Bool) (state : State) (broken : Bool)
    (serving_a : Serving rule entry a s0 whole failed offset pending refused state broken) (on : GoesOn a b) (disk : KeepsDisk a b) (said : KeepsSaid a b)
    (item : Item) (place_b : ℕ) (pending_b : List ℕ)
    (got : IsTrue a.tells → script_from takes_block offset (pending ++ a.left) ≡ with_item item.line item.block
    (script_from takes_block place_b (pending_b ++ b.left))) where
  course_b : GoesOn entry b
  course_b = course_on entry a b serving_a.course on

  item_between : IsTrue entry.tells → (made : List Event) → IsStoreOf (disk_now entry) s0 made
      → Between rule entry b made (serving_by rule s0 whole)
      (with_item item.line item.block (script_from takes_block place_b (pending_b ++ b.left))) state refused
  item_between told made holds =
      looked rule entry a b made (serving_by rule s0 whole) (script_from takes_block offset (pending ++ a.left)) state refused
      (serving_a.going told made holds) serving_a.course on disk said told
      (with_item item.line item.block (script_from takes_block place_b (pending_b ++ b.left))) (got (told_next entry a serving_a.course told))

  holds_b : IsTrue entry.tells → (made : List Event) × IsStoreOf (disk_now b) state made
  holds_b told = let had = serving_a.holds told
      in (had.0, subst (λ x. IsStoreOf x state had.0) (sym (kept_now a b on disk (told_next entry a serving_a.course told))) had.1)

  -- the session can answer it
  pub open_for : IsTrue b.tells → (made : List Event) × IsStoreOf (disk_now b) state made
  open_for told = holds_b (subst IsTrue course_b.tells told)

  module _ (d : Told) (answer : Answer Event) (answer_is : rule state item ≡ answer) (step_on : GoesOn b d)
      (part : Throughout b d (λ disk said. AddsPart (said_now b) answer.reply said))
      (moments : (made : List Event) → IsStoreOf (disk_now b) state made → Throughout b d (IsStepping StandsForEvents made answer.event (said_now b)))
      (still : answer.event ≡ None → KeepsDisk b d) where
    item_part : (made : List Event) → IsStoreOf (disk_now entry) s0 made
        → Throughout entry d (λ disk said. AddsPart (said_now entry) (replies (serving_by rule s0 whole).answers) said)
    item_part made holds told =
        answered_part rule entry b d made (serving_by rule s0 whole)
        (script_from takes_block place_b (pending_b ++ b.left)) item state refused answer answer_is
        (item_between told made holds) course_b step_on part moments still told

    item_moments : (made : List Event) → IsStoreOf (disk_now entry) s0 made
        → Throughout entry d (IsRunning StandsForEvents made (events (serving_by rule s0 whole).answers)
        (events_due (serving_by rule s0 whole).answers) (said_now entry))
    item_moments made holds told =
        answered_moments rule entry b d made (serving_by rule s0 whole)
        (script_from takes_block place_b (pending_b ++ b.left)) item state refused answer answer_is
        (item_between told made holds) course_b step_on part moments still told

    item_still : (made : List Event) → IsStoreOf (disk_now entry) s0 made → events (serving_by rule s0 whole).answers ≡ [] → KeepsDisk entry d
    item_still made holds none told =
        answered_still rule entry b d made (serving_by rule s0 whole)
        (script_from takes_block place_b (pending_b ++ b.left)) item state refused answer answer_is
        (item_between told made holds) course_b step_on part moments still none told

    step_fault_ends : (fault : SessionFault) (now : State)
        → IfMade (Err fault) (AddsEvent b d state now answer)
        → ((at : ℕ) → fault ≡ session.Damaged at → ⊥) → (fault ≡ session.Memory → KeepsDisk b d × KeepsSaid b d)
        → (fault ≡ session.DiskFault → KeepsSaid b d × IsSome answer.event) → (IsTrue d.tells → MayLeave (disk_now d) (disk_now d).now)
        → IsTrue entry.tells → (made : List Event) → IsStoreOf (disk_now entry) s0 made → Ends (serving_by rule s0 whole) made entry d (session_status fault)
    step_fault_ends session.DiskFault now added never quiet unsaid_yet left told made holds =
        let told_b = told_next entry b course_b told in
        inr (unanswered_here rule entry b d made (serving_by rule s0 whole)
        (script_from takes_block place_b (pending_b ++ b.left)) item state refused answer answer_is
        (item_between told made holds) course_b step_on part moments still told_b (unsaid_yet refl) (left (told_next b d step_on told_b)))
    step_fault_ends session.SayFault now added never quiet unsaid_yet left told made holds =
        let told_b = told_next entry b course_b told in
        unsaid rule entry b d made (serving_by rule s0 whole)
        (script_from takes_block place_b (pending_b ++ b.left)) item state refused answer answer_is
        (item_between told made holds) course_b step_on part moments still now (added told_b) told_b
    step_fault_ends (session.Damaged at) now added never quiet unsaid_yet left told made holds = absurd (never at refl)
    step_fault_ends session.Memory now added never quiet unsaid_yet left told made holds =
        let item_left = with_item item.line item.block (script_from takes_block place_b (pending_b ++ b.left)) in
        let keeps = quiet refl in
        halted entry d made (serving_by rule s0 whole) (answers rule play state item_left.items) state
        (looked rule entry b d made (serving_by rule s0 whole) item_left state refused
        (item_between told made holds) course_b step_on keeps.0 keeps.1 told item_left refl).going

    pub serving_on : (failed_b : Bool) (now : State) (broken_d refused_d : Bool) → failed_b ≡ false → broken_d ≡ false → KeepsInput b d
        → (refused || answer.refused) ≡ refused_d → now ≡ after play state answer.event
        → (IsTrue b.tells → said_now d ≡ said_now b ++ answer.reply)
        → AddsEvent b d state now answer → Serving rule entry d s0 whole failed_b place_b pending_b refused_d now broken_d
    serving_on failed_b now broken_d refused_d fresh unbroken input refused_is now_is replied added = record {
      fresh = fresh;
      unbroken = unbroken;
      course = course_on entry b d course_b step_on;
      holds = λ told. let had = holds_b told in (had.0 ++ listed answer.event, added (told_next entry b course_b told) had.0 had.1);
      going = λ told made holds.
          let told_b = told_next entry b course_b told in
          subst (λ (l : List ℕ).
          Between rule entry d made (serving_by rule s0 whole) (script_from takes_block place_b (pending_b ++ l)) now refused_d) (sym input.left)
          (subst (λ (r : Bool). Between rule entry d made (serving_by rule s0 whole) (script_from takes_block place_b (pending_b ++ b.left)) now r) refused_is
          (answered_one rule entry b d made (serving_by rule s0 whole)
          (script_from takes_block place_b (pending_b ++ b.left)) item state refused answer answer_is
          (item_between told made holds) course_b step_on part moments still now (added told_b) now_is (replied told_b)));
    }

    pub step_fault_done : (fault : SessionFault) (now : State)
        → IfMade (Err fault) (AddsEvent b d state now answer)
        → ((at : ℕ) → fault ≡ session.Damaged at → ⊥) → (fault ≡ session.Memory → KeepsDisk b d × KeepsSaid b d)
        → (fault ≡ session.DiskFault → KeepsSaid b d × IsSome answer.event) → (IsTrue d.tells → MayLeave (disk_now d) (disk_now d).now)
        → (made : List Event) → IsStoreOf (disk_now entry) s0 made → IsDone (serving_by rule s0 whole) made entry d (session_status fault)
    step_fault_done fault now added never quiet unsaid_yet left made holds = record {
      ends = λ told. step_fault_ends fault now added never quiet unsaid_yet left told made holds;
      part = item_part made holds;
      moments = item_moments made holds;
      still = item_still made holds;
    }

  -- it is skipped
  pub skipped_on : (failed_b : Bool) → failed_b ≡ false → rule state item ≡ telling_one [] false
      → Serving rule entry b s0 whole failed_b place_b pending_b refused state broken
  skipped_on failed_b fresh skipped = serving_on b (telling_one [] false) skipped (course_still b) (adds_none b b [] (still_said b))
      (λ made holds. quiet_step b b state made None holds (still_disk b) (still_said b))
      (λ none. still_disk b) failed_b state broken refused fresh serving_a.unbroken (still_input b) (or_false refused) refl
      (λ told. sym (append-nil (said_now b))) (λ told made holds. none_added (disk_now b) state made holds)
