-- The loop over items that are answered quietly.
use Rattle.std.proofs.Common.{◌≡◌, ◌⊎◌, inl, inr, ⊎_elim, ℕ, suc, ◌+◌, ◌-◌, ◌<◌, ◌≤◌, List, [], ◌∷◌, ◌++◌, Bool, true, false, not, length, drop}
use Rattle.std.proofs.Common.{get_or, refl, sym, ◌∙◌, ap, subst, append_assoc, add-one, arith, None}
use Rattle.std.specs.Prelude.{All, IsTrue, IsSome, if◌then◌else◌}
use Rattle.std.proofs.Math.Seq.{drop-cons}
use Rattle.std.proofs.lemmas.List.{append-nil, drop_all}
use Rattle.std.proofs.lemmas.List.Sums.{sum_by-cons}
use Rattle.host_port.specs.Host.{MayLeave, Told, GoesOn, Throughout, KeepsDisk, KeepsSaid, KeepsInput, AddsPart, disk_now, said_now}
use Rattle.host_port.specs.Cut.{Item}
use Rattle.host_port.proofs.Course.{at_last, course_on, course_still, still_input, keeps_input_on, adds_none, told_next, kept_now, said_kept_now}
use Rattle.command_runs.specs.Runs.{Answer, listed, after, answers, replies, events, played, events_due}
use Rattle.command_runs.specs.Crashes.{IsRunning}
use Rattle.command_runs.proofs.RunLaws.{played-append}
use Rattle.command_runs.proofs.Going.{Going, Steps, quietly, begins, one_more, stepped_part, stepped_moments, stepped_still}
use Rattle.op_form.specs.declared.event.Event.{Event}
use Rattle.plain_repository.specs.Lines.{is_skipped}
use Rattle.plain_repository.specs.State.{State}
use Rattle.plain_repository.specs.Events.{play}
use Rattle.plain_repository.specs.Repository.{decide}
use Rattle.plain_repository.specs.Store.{StandsForEvents}
use Rattle.store_session.specs.declared.answered.SessionFault.{SessionFault}
use Rattle.store_session.specs.declared.answered.SessionFault.TheVariants as session
use Rattle.store_session.specs.Session.{IsStoreOf, IsEntering}
use Rattle.store_session.proofs.Entering.{rest_leaves}
use Rattle.script_items.specs.Items.{IsAnswered}
use Rattle.store_session.specs.declared.status.Status.TheVariants.{Memory}
use Rattle.store_session.specs.Endings.{IsUnanswered, IsHalted, Ends, IsDone, session_status}
use Rattle.store_session.specs.Tasks.{printing}
use Rattle.emf_top.specs.Tasks.{filling, silenced, outcome, outcome_line, refusals_in, others_in}
use Rattle.emf_top.specs.Tasks as tasks
use Rattle.store_runs.proofs.Halting.{halted, unanswered}

-- what some items are answered with
abbrev pub given : State → List Item → List (Answer Event)
given s items = answers tasks.quietly play s items

-- what is left to answer, with the outcome at the end
abbrev pub ahead : State → List Item → State → List Item → List (Answer Event)
ahead s0 items state left = given state left ++ printing (outcome s0 (given s0 items)) ∷ []

-- where the loop stands, before the item at a place
pub record Filling (entry now : Told) (s0 : State) (items : List Item) (at refused : ℕ) (state : State) (broken : Bool) : Type 0 where
  pub unbroken : broken ≡ false
  pub course : GoesOn entry now
  pub input : KeepsInput entry now
  pub holds : IsTrue entry.tells → (made : List Event) × IsStoreOf (disk_now now) state made
  pub few : refused ≤ at
  pub refusals : refused + refusals_in (given state (drop at items)) ≡ refusals_in (given s0 items)
  pub leads : played play state (events (given state (drop at items))) ≡ played play s0 (events (given s0 items))
  pub going : IsTrue entry.tells → (made : List Event) → IsStoreOf (disk_now entry) s0 made
      → Going StandsForEvents entry now made (filling s0 items).answers (ahead s0 items state (drop at items)) (λ events. IsStoreOf (disk_now now) state events)

pub fills_start : (entry : Told) (s0 : State) (items : List Item) (broken : Bool) → broken ≡ false
    → (IsTrue entry.tells → (made : List Event) × IsStoreOf (disk_now entry) s0 made)
    → Filling entry entry s0 items 0 0 s0 broken
fills_start entry s0 items broken unbroken holds = record {
  unbroken = unbroken;
  course = course_still entry;
  input = still_input entry;
  holds = holds;
  few = omega arith;
  refusals = omega arith;
  leads = refl;
  going = λ told made rest.
      begins StandsForEvents entry made (filling s0 items).answers (λ events. IsStoreOf (disk_now entry) s0 events)
      (λ still. rest_leaves (disk_now entry) s0 made still) rest;
}

-- the item at a place gets a reply
pub gets_reply : (items : List Item) (at : ℕ) (item : Item) → All IsAnswered items → at < length items → item ≡ get_or items at item
    → is_skipped item.line ≡ false
gets_reply items at item all low is = subst (λ (x : Item). is_skipped x.line ≡ false) (sym is) (all at item low).1

not_said : (session.SayFault ≡ session.DiskFault) ⊎ (session.SayFault ≡ session.Memory) → ⊥
not_said (inl is) = cc
not_said (inr is) = cc

not_damaged : (at : ℕ) → (session.Damaged at ≡ session.DiskFault) ⊎ (session.Damaged at ≡ session.Memory) → ⊥
not_damaged at (inl is) = cc
not_damaged at (inr is) = cc

one_at_most : (b : Bool) → (if b then 1 else 0) ≤ 1
one_at_most true = omega arith
one_at_most false = omega arith

refusals_more : (answer : Answer Event) (rest : List (Answer Event))
    → refusals_in (silenced answer ∷ rest) ≡ (if answer.refused then 1 else 0) + refusals_in rest
refusals_more answer rest = sum_by-cons (λ (a : Answer Event). if a.refused then 1 else 0) (silenced answer) rest

-- an item was answered
module _ (entry b : Told) (s0 : State) (items : List Item) (at refused : ℕ) (state : State) (broken : Bool)
    (fills : Filling entry b s0 items at refused state broken)
    (item : Item) (low : at < length items) (item_is : item ≡ get_or items at item) (d : Told) (answer : Answer Event) (answer_is : decide state item ≡ answer)
    (on : GoesOn b d) (said : KeepsSaid b d)
    (entering : (made : List Event) → IsStoreOf (disk_now b) state made → Throughout b d (λ disk said. IsEntering made answer.event disk))
    (stays : answer.event ≡ None → KeepsDisk b d) where
  cut : drop at items ≡ item ∷ drop (at + 1) items
  cut = rw (add-one, drop-cons items at item) (ap (λ (x : Item). x ∷ drop (suc at) items) (sym item_is))

  given_is : given state (drop at items) ≡ silenced answer ∷ given (after play state answer.event) (drop (at + 1) items)
  given_is = ap (λ (l : List Item). given state l) cut
      ∙ ap (λ (a : Answer Event). silenced a ∷ given (after play state a.event) (drop (at + 1) items)) answer_is

  left_is : ahead s0 items state (drop at items) ≡ silenced answer ∷ ahead s0 items (after play state answer.event) (drop (at + 1) items)
  left_is = ap (λ (l : List (Answer Event)). l ++ printing (outcome s0 (given s0 items)) ∷ []) given_is

  steps : Steps StandsForEvents b d (silenced answer) (λ events. IsStoreOf (disk_now b) state events)
  steps = record {
    course = on;
    part = adds_none b d [] said;
    moments = λ made holds told t low high x left.
        ⊎_elim (λ stood. inl (stood, said told t low high)) (λ stood. inr stood) (entering made holds told t low high x left);
    still = stays;
  }

  fill_part : (made : List Event) → IsStoreOf (disk_now entry) s0 made
      → Throughout entry d (λ disk said. AddsPart (said_now entry) (replies (filling s0 items).answers) said)
  fill_part made holds told =
      stepped_part StandsForEvents entry made (filling s0 items).answers b d (ahead s0 items state (drop at items))
      (λ events. IsStoreOf (disk_now b) state events) (fills.going told made holds) fills.course
      (silenced answer) (ahead s0 items (after play state answer.event) (drop (at + 1) items)) left_is steps told

  fill_moments : (made : List Event) → IsStoreOf (disk_now entry) s0 made
      → Throughout entry d (IsRunning StandsForEvents made (events (filling s0 items).answers) (events_due (filling s0 items).answers) (said_now entry))
  fill_moments made holds told =
      stepped_moments StandsForEvents entry made (filling s0 items).answers b d (ahead s0 items state (drop at items))
      (λ events. IsStoreOf (disk_now b) state events) (fills.going told made holds) fills.course
      (silenced answer) (ahead s0 items (after play state answer.event) (drop (at + 1) items)) left_is steps told

  fill_still : (made : List Event) → IsStoreOf (disk_now entry) s0 made → events (filling s0 items).answers ≡ [] → KeepsDisk entry d
  fill_still made holds no_event told =
      stepped_still StandsForEvents entry made (filling s0 items).answers b d (ahead s0 items state (drop at items))
      (λ events. IsStoreOf (disk_now b) state events) (fills.going told made holds) fills.course
      (silenced answer) (ahead s0 items (after play state answer.event) (drop (at + 1) items)) left_is steps no_event told

  going_here : IsTrue entry.tells → (made : List Event) → IsStoreOf (disk_now entry) s0 made
      → Going StandsForEvents entry b made (filling s0 items).answers
      (silenced answer ∷ ahead s0 items (after play state answer.event) (drop (at + 1) items)) (λ events. IsStoreOf (disk_now b) state events)
  going_here told made holds =
      subst (λ (l : List (Answer Event)).
      Going StandsForEvents entry b made (filling s0 items).answers l (λ events. IsStoreOf (disk_now b) state events)) left_is
      (fills.going told made holds)

  -- its event was being written
  fault_on_disk : IsSome answer.event → MayLeave (disk_now d) (disk_now d).now → IsTrue entry.tells → (made : List Event)
      → IsStoreOf (disk_now entry) s0 made → IsUnanswered (filling s0 items) made entry d
  fault_on_disk event left told made holds =
      let here = going_here told made holds in
      let next = ahead s0 items (after play state answer.event) (drop (at + 1) items) in
      let told_b = told_next entry b fills.course told in
      unanswered entry b d made (filling s0 items) here.done (silenced answer) next
      (here.whole_is ∙ sym (append_assoc here.done (silenced answer ∷ []) next)) here.said on said told_b event
      (at_last b d (λ disk said. IsEntering (made ++ events here.done) answer.event disk) on (entering (made ++ events here.done) here.rest) told_b
      (disk_now d).now left)

  -- or memory ran out
  fault_of_memory : KeepsDisk b d → IsTrue entry.tells → (made : List Event) → IsStoreOf (disk_now entry) s0 made → IsHalted (filling s0 items) made entry d
  fault_of_memory disk told made holds =
      let told_b = told_next entry b fills.course told in
      halted entry d made (filling s0 items) (ahead s0 items state (drop at items)) state
      (quietly StandsForEvents entry made (filling s0 items).answers b d (ahead s0 items state (drop at items))
      (λ events. IsStoreOf (disk_now b) state events) (fills.going told made holds) fills.course on disk said
      (λ events rest. rest_leaves (disk_now b) state events rest) told (λ events. IsStoreOf (disk_now d) state events)
      (λ events rest. subst (λ x. IsStoreOf x state events) (sym (kept_now b d on disk told_b)) rest))

  fault_ends : (fault : SessionFault) → (fault ≡ session.DiskFault) ⊎ (fault ≡ session.Memory) → (fault ≡ session.DiskFault → IsSome answer.event)
      → (fault ≡ session.Memory → KeepsDisk b d)
      → (IsTrue d.tells → MayLeave (disk_now d) (disk_now d).now) → IsTrue entry.tells → (made : List Event) → IsStoreOf (disk_now entry) s0 made
      → Ends (filling s0 items) made entry d (session_status fault)
  fault_ends session.DiskFault which event still left told made holds =
      inr (fault_on_disk (event refl) (left (told_next b d on (told_next entry b fills.course told))) told made holds)
  fault_ends session.SayFault which event still left told made holds = absurd (not_said which)
  fault_ends (session.Damaged place) which event still left told made holds = absurd (not_damaged place which)
  fault_ends session.Memory which event still left told made holds = fault_of_memory (still refl) told made holds

  pub fault_done : (fault : SessionFault) → (fault ≡ session.DiskFault) ⊎ (fault ≡ session.Memory) → (fault ≡ session.DiskFault → IsSome answer.event)
      → (fault ≡ session.Memory → KeepsDisk b d)
      → (IsTrue d.tells → MayLeave (disk_now d) (disk_now d).now) → (made : List Event) → IsStoreOf (disk_now entry) s0 made
      → IsDone (filling s0 items) made entry d (session_status fault)
  fault_done fault which event still left made holds = record {
    ends = λ told. fault_ends fault which event still left told made holds;
    part = fill_part made holds;
    moments = fill_moments made holds;
    still = fill_still made holds;
  }

  -- it was answered
  module _ (now : State) (now_is : now ≡ after play state answer.event)
      (added : IsTrue b.tells → (made : List Event) → IsStoreOf (disk_now b) state made → IsStoreOf (disk_now d) now (made ++ listed answer.event)) where
    going_on : IsTrue entry.tells → (made : List Event) → IsStoreOf (disk_now entry) s0 made
        → Going StandsForEvents entry d made (filling s0 items).answers (ahead s0 items now (drop (at + 1) items)) (λ events. IsStoreOf (disk_now d) now events)
    going_on told made holds =
        let told_b = told_next entry b fills.course told in
        subst (λ (s : State). Going StandsForEvents entry d made (filling s0 items).answers (ahead s0 items s (drop (at + 1) items))
        (λ events. IsStoreOf (disk_now d) s events)) (sym now_is)
        (one_more StandsForEvents entry made (filling s0 items).answers b d (ahead s0 items state (drop at items))
        (λ events. IsStoreOf (disk_now b) state events) (fills.going told made holds) fills.course
        (silenced answer) (ahead s0 items (after play state answer.event) (drop (at + 1) items)) left_is steps
        (λ events. IsStoreOf (disk_now d) (after play state answer.event) events)
        (said_kept_now b d on said told_b ∙ sym (append-nil (said_now b)))
        (λ made rest. subst (λ (s : State). IsStoreOf (disk_now d) s (made ++ listed answer.event)) now_is (added told_b made rest)))

    leads_on : played play now (events (given now (drop (at + 1) items))) ≡ played play s0 (events (given s0 items))
    leads_on = subst (λ (s : State). played play s (events (given s (drop (at + 1) items))) ≡ played play s0 (events (given s0 items))) (sym now_is)
        (sym (played-append play state (listed answer.event) (events (given (after play state answer.event) (drop (at + 1) items))))
        ∙ ap (λ (l : List (Answer Event)). played play state (events l)) (sym given_is) ∙ fills.leads)

    refusals_on : (refused_d : ℕ) → refused_d ≡ refused + (if answer.refused then 1 else 0)
        → refused_d + refusals_in (given now (drop (at + 1) items)) ≡ refusals_in (given s0 items)
    refusals_on refused_d count = subst (λ (s : State). refused_d + refusals_in (given s (drop (at + 1) items)) ≡ refusals_in (given s0 items)) (sym now_is)
        (by (refusals_in (given (after play state answer.event) (drop (at + 1) items))) (refusals_in (given state (drop at items)))
        (refusals_in (given s0 items))
        (ap refusals_in given_is ∙ refusals_more answer (given (after play state answer.event) (drop (at + 1) items))) fills.refusals)
      where
        by : (rest here all : ℕ) → here ≡ (if answer.refused then 1 else 0) + rest → refused + here ≡ all → refused_d + rest ≡ all
        by rest here all is so_far = omega (arith, count)

    pub filled_on : (refused_d : ℕ) (broken_d : Bool) → broken_d ≡ false → KeepsInput b d → refused_d ≡ refused + (if answer.refused then 1 else 0)
        → Filling entry d s0 items (at + 1) refused_d now broken_d
    filled_on refused_d broken_d unbroken input count = record {
      unbroken = unbroken;
      course = course_on entry b d fills.course on;
      input = keeps_input_on entry b d fills.input input;
      holds = λ told. let had = fills.holds told in (had.0 ++ listed answer.event, added (told_next entry b fills.course told) had.0 had.1);
      few = omega (arith, count, fills.few, one_at_most answer.refused);
      refusals = refusals_on refused_d count;
      leads = leads_on;
      going = going_on;
    }

one_of_both : (b : Bool) → (if not b then 1 else 0) + (if b then 1 else 0) ≡ 1
one_of_both true = omega arith
one_of_both false = omega arith

one_more_counted : (answer : Answer Event) (all : List (Answer Event)) → others_in all + refusals_in all ≡ length all
    → others_in (answer ∷ all) + refusals_in (answer ∷ all) ≡ suc (length all)
one_more_counted answer all so_far =
    by (others_in (answer ∷ all)) (others_in all) (refusals_in (answer ∷ all)) (refusals_in all) (if not answer.refused then 1 else 0)
    (if answer.refused then 1 else 0)
    (sum_by-cons (λ (a : Answer Event). if not a.refused then 1 else 0) answer all)
    (sum_by-cons (λ (a : Answer Event). if a.refused then 1 else 0) answer all) (one_of_both answer.refused) so_far
  where
    by : (others rest refusals left x y : ℕ) → others ≡ x + rest → refusals ≡ y + left → x + y ≡ 1 → rest + left ≡ length all
        → others + refusals ≡ suc (length all)
    by others rest refusals left x y one two both so_far = omega arith

-- each answer is a refusal or none
counted : (all : List (Answer Event)) → others_in all + refusals_in all ≡ length all
counted [] = omega arith
counted (answer ∷ all) = one_more_counted answer all (counted all)

length_given : (s : State) (items : List Item) → length (given s items) ≡ length items
length_given s [] = refl
length_given s (item ∷ items) = ap suc (length_given (after play s (tasks.quietly s item).event) items)

-- all items are answered
module _ (entry b : Told) (s0 : State) (items : List Item) (at refused : ℕ) (state : State) (broken : Bool)
    (fills : Filling entry b s0 items at refused state broken) (past : length items ≤ at) where
  none_left : drop at items ≡ []
  none_left = drop_all at items past

  refusals_are : refused ≡ refusals_in (given s0 items)
  refusals_are = by (refusals_in (given state (drop at items))) (refusals_in (given s0 items))
      (ap (λ (l : List Item). refusals_in (given state l)) none_left) fills.refusals
    where
      by : (left all : ℕ) → left ≡ 0 → refused + left ≡ all → refused ≡ all
      by left all none is = omega arith

  pub refusals_fit : refused ≤ length items
  refusals_fit = by (others_in (given s0 items)) (refusals_in (given s0 items)) (length (given s0 items)) refusals_are (counted (given s0 items))
      (length_given s0 items)
    where
      by : (others refusals all : ℕ) → refused ≡ refusals → others + refusals ≡ all → all ≡ length items → refused ≤ length items
      by others refusals all is sum same = omega arith

  others_are : length items - refused ≡ others_in (given s0 items)
  others_are = by (others_in (given s0 items)) (refusals_in (given s0 items)) (length (given s0 items)) refusals_are (counted (given s0 items))
      (length_given s0 items)
    where
      by : (others refusals all : ℕ) → refused ≡ refusals → others + refusals ≡ all → all ≡ length items → length items - refused ≡ others
      by others refusals all is sum same = omega arith

  state_is : state ≡ played play s0 (events (given s0 items))
  state_is = sym (ap (λ (l : List Item). played play state (events (given state l))) none_left) ∙ fills.leads

  pub outcome_is : (accepted : ℕ) → accepted ≡ length items - refused → outcome_line accepted refused state ≡ outcome s0 (given s0 items)
  outcome_is accepted is =
      ap (λ (n : ℕ). outcome_line n refused state) (is ∙ others_are) ∙ ap (λ (n : ℕ). outcome_line (others_in (given s0 items)) n state) refusals_are
      ∙ ap (λ (s : State). outcome_line (others_in (given s0 items)) (refusals_in (given s0 items)) s) state_is

  pub at_outcome : IsTrue entry.tells → (made : List Event) → IsStoreOf (disk_now entry) s0 made
      → Going StandsForEvents entry b made (filling s0 items).answers (printing (outcome s0 (given s0 items)) ∷ [])
      (λ events. IsStoreOf (disk_now b) state events)
  at_outcome told made holds =
      subst (λ (l : List Item).
      Going StandsForEvents entry b made (filling s0 items).answers (ahead s0 items state l) (λ events. IsStoreOf (disk_now b) state events))
      none_left (fills.going told made holds)

  -- and memory ran out before the outcome was printed
  pub memory_done : (made : List Event) → IsStoreOf (disk_now entry) s0 made → IsDone (filling s0 items) made entry b Memory
  memory_done made holds = record {
    ends = λ told. halted entry b made (filling s0 items) (ahead s0 items state (drop at items)) state (fills.going told made holds);
    part = λ told. (fills.going told made holds).part told;
    moments = λ told. (fills.going told made holds).moments told;
    still = λ none told. (fills.going told made holds).still none told;
  }
