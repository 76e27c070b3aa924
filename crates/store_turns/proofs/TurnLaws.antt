-- Turns, one after the other, are their runs.
use Rattle.std.proofs.Common.{◌≡◌, ℕ, List, [], ◌∷◌, ◌++◌, Bool, true, false, ◌||◌, Option, None, Some, refl, sym, ◌∙◌, ap}
use Rattle.std.specs.Prelude.{All, option_map}
use Rattle.std.specs.Option.{option_and_then}
use Rattle.std.proofs.lemmas.List.Elements.{All-head, All-tail}
use Rattle.host_port.specs.Cut.{Item}
use Rattle.host_port.specs.declared.lines.LineFault.{LineFault}
use Rattle.host_port.specs.declared.lines.LineFault.TheVariants as faults
use Rattle.command_runs.specs.Runs.{Answer, after, answers, events, played, refuses, replies}
use Rattle.command_runs.proofs.RunLaws.{events-append, or_assoc, replies-append}
use Rattle.op_form.specs.declared.event.Event.{Event}
use Rattle.script_lang.specs.declared.command.Command.{Command}
use Rattle.access_rules.specs.declared.policy.Grant.{Grant}
use Rattle.access_rules.specs.Rule.{rule}
use Rattle.access_rules.specs.Turns.{own_rule}
use Rattle.plain_repository.specs.State.{State}
use Rattle.plain_repository.specs.Events.{play}
use Rattle.script_items.specs.Items.{script}
use Rattle.tool_requests.specs.Words.{command_in}
use Rattle.tool_requests.specs.Denials.{branch_at, refusal_by, denial}
use Rattle.tool_requests.specs.Turns.{first_of, own_rule_in, turn_refusal}
use Rattle.turn_frames.specs.Turns.{Turn, Turns, frames, turns_of}
use Rattle.turn_frames.specs.Runs.{closing, turn_answers, turns_answers}
use Rattle.turn_frames.proofs.RunLaws.{turn_events, turn_replies}
use Rattle.turn_frames.proofs.Reading.{whole_frames_are_read}
use Rattle.store_session.specs.Tasks.{gated, gated_by, input_status, end_of}
use Rattle.store_turns.specs.Serving.{fault_line, end_by, manner}
use Rattle.store_turns.specs.Laws.{TurnsAreRuns, InputsAreRuns, GuardsRefuseFirst, RunsAreGuards, events_of, is_spoiled, left_by}
use Rattle.store_turns.specs.Laws.{one_is_spoiled, run_of, texts_of, turn_text}

-- ---- what ends a turn's answers
quiet : (grants : List Grant) (fault : LineFault) → ((manner grants).said fault).event ≡ None
quiet grants fault = refl

closed : (grants : List Grant) (fault : Option LineFault) (refused : Bool)
    → replies (closing (manner grants).said fault) ≡ fault_line (end_of fault refused) ++ 10 ∷ []
closed grants None true = refl
closed grants None false = refl
closed grants (Some fault) refused = refl

spoiled_input : (fault : LineFault) → is_spoiled (input_status fault) ≡ true
spoiled_input (faults.LineTooLong at) = refl
spoiled_input (faults.BlockTooLong at) = refl
spoiled_input (faults.NotText at) = refl
spoiled_input (faults.UnendedBlock at) = refl
spoiled_input (faults.InputTooLong at) = refl
spoiled_input faults.Failed = refl
spoiled_input faults.Memory = refl

refuses-append : (xs ys : List (Answer Event)) → refuses (xs ++ ys) ≡ (refuses xs || refuses ys)
refuses-append [] ys = refl
refuses-append (x ∷ xs) ys = ap (λ (b : Bool). x.refused || b) (refuses-append xs ys) ∙ sym (or_assoc x.refused (refuses xs) (refuses ys))

spoiled : (grants : List Grant) (fault : Option LineFault) (refused : Bool)
    → (refused || refuses (closing (manner grants).said fault)) ≡ is_spoiled (end_of fault refused)
spoiled grants None true = refl
spoiled grants None false = refl
spoiled grants (Some fault) true = sym (spoiled_input fault)
spoiled grants (Some fault) false = sym (spoiled_input fault)

-- ---- turn by turn
module _ (grants : List Grant) where
  run_text : (s : State) (turn : Turn) → replies (turn_answers (manner grants) s turn) ≡ turn_text (run_of grants s turn)
  run_text s turn =
      let run = run_of grants s turn in
      turn_replies (manner grants) (quiet grants) s turn
      ∙ ap (λ (l : List ℕ). replies run.answers ++ l) (closed grants (script turn.bytes).fault (refuses run.answers))

  run_events : (s : State) (turn : Turn) → events (turn_answers (manner grants) s turn) ≡ events (run_of grants s turn).answers
  run_events s turn = turn_events (manner grants) (quiet grants) s turn

  run_spoiled : (s : State) (turn : Turn) → refuses (turn_answers (manner grants) s turn) ≡ is_spoiled (run_of grants s turn).end
  run_spoiled s turn =
      let run = run_of grants s turn in
      refuses-append run.answers (closing (manner grants).said (script turn.bytes).fault) ∙ spoiled grants (script turn.bytes).fault (refuses run.answers)

  run_left : (s : State) (turn : Turn) → played play s (events (turn_answers (manner grants) s turn)) ≡ left_by grants s turn
  run_left s turn = ap (λ (l : List Event). played play s l) (run_events s turn)

  all_text : (s : State) (turns : List Turn) → replies (turns_answers (manner grants) s turns) ≡ texts_of grants s turns
  all_text s [] = refl
  all_text s (turn ∷ turns) =
      let next = played play s (events (turn_answers (manner grants) s turn)) in
      replies-append (turn_answers (manner grants) s turn) (turns_answers (manner grants) next turns)
      ∙ ap (λ (l : List ℕ). l ++ replies (turns_answers (manner grants) next turns)) (run_text s turn)
      ∙ ap (λ (l : List ℕ). turn_text (run_of grants s turn) ++ l) (all_text next turns)
      ∙ ap (λ (t : State). turn_text (run_of grants s turn) ++ texts_of grants t turns) (run_left s turn)

  all_events : (s : State) (turns : List Turn) → events (turns_answers (manner grants) s turns) ≡ events_of grants s turns
  all_events s [] = refl
  all_events s (turn ∷ turns) =
      let next = played play s (events (turn_answers (manner grants) s turn)) in
      events-append (turn_answers (manner grants) s turn) (turns_answers (manner grants) next turns)
      ∙ ap (λ (l : List Event). l ++ events (turns_answers (manner grants) next turns)) (run_events s turn)
      ∙ ap (λ (l : List Event). events (run_of grants s turn).answers ++ l) (all_events next turns)
      ∙ ap (λ (t : State). events (run_of grants s turn).answers ++ events_of grants t turns) (run_left s turn)

  all_spoiled : (s : State) (turns : List Turn) → refuses (turns_answers (manner grants) s turns) ≡ one_is_spoiled grants s turns
  all_spoiled s [] = refl
  all_spoiled s (turn ∷ turns) =
      let next = played play s (events (turn_answers (manner grants) s turn)) in
      refuses-append (turn_answers (manner grants) s turn) (turns_answers (manner grants) next turns)
      ∙ ap (λ (b : Bool). b || refuses (turns_answers (manner grants) next turns)) (run_spoiled s turn)
      ∙ ap (λ (b : Bool). is_spoiled (run_of grants s turn).end || b) (all_spoiled next turns)
      ∙ ap (λ (t : State). is_spoiled (run_of grants s turn).end || one_is_spoiled grants t turns) (run_left s turn)

pub inputs_are_runs : InputsAreRuns
inputs_are_runs grants s input = record {
  text = all_text grants s (turns_of input).turns;
  events_are = all_events grants s (turns_of input).turns;
  end_is = ap (λ (b : Bool). end_by (turns_of input).fault b) (all_spoiled grants s (turns_of input).turns);
}

pub turns_are_runs : TurnsAreRuns
turns_are_runs grants s turns are within =
    let whole = whole_frames_are_read turns are within in
    let same = ap (λ (t : Turns). t.turns) whole in
    let none = ap (λ (t : Turns). t.fault) whole in
    let runs = inputs_are_runs grants s (frames turns) in
    record {
      text = runs.text ∙ ap (λ (l : List Turn). texts_of grants s l) same;
      events_are = runs.events_are ∙ ap (λ (l : List Turn). events_of grants s l) same;
      end_is = runs.end_is ∙ ap (λ (l : List Turn). end_by (turns_of (frames turns)).fault (one_is_spoiled grants s l)) same
          ∙ ap (λ f. end_by f (one_is_spoiled grants s turns)) none;
    }

-- ---- rules 5 and 6
module _ (grants : List Grant) (user : List ℕ) (s : State) where
  abbrev guards : Option Command → Option ℕ
  guards o = option_and_then (λ command. rule grants user command (branch_at s command)) o

  abbrev more : Option Command → Option ℕ
  more o = option_and_then (λ command. first_of (rule grants user command (branch_at s command)) (own_rule grants user command)) o

  guard_first : (a b : Option ℕ) (reply : List ℕ) → option_map denial a ≡ Some reply → option_map denial (first_of a b) ≡ Some reply
  guard_first (Some n) b reply is = is
  guard_first None b reply is = cc

  own_next : (a b : Option ℕ) → option_map denial a ≡ None → first_of a b ≡ b
  own_next (Some n) b is = cc
  own_next None b is = refl

  own_none : (a b : Option ℕ) → b ≡ None → first_of a b ≡ a
  own_none (Some n) b is = refl
  own_none None b is = is

  by_guard : (o : Option Command) (reply : List ℕ) → option_map denial (guards o) ≡ Some reply → option_map denial (more o) ≡ Some reply
  by_guard None reply is = cc
  by_guard (Some command) reply is = guard_first (rule grants user command (branch_at s command)) (own_rule grants user command) reply is

  by_own : (o : Option Command) → option_map denial (guards o) ≡ None → more o ≡ option_and_then (own_rule grants user) o
  by_own None is = refl
  by_own (Some command) is = own_next (rule grants user command (branch_at s command)) (own_rule grants user command) is

  unowned : (o : Option Command) → option_and_then (own_rule grants user) o ≡ None → more o ≡ guards o
  unowned None is = refl
  unowned (Some command) is = own_none (rule grants user command (branch_at s command)) (own_rule grants user command) is

pub guards_refuse_first : GuardsRefuseFirst
guards_refuse_first grants user s line = record {
  guard = λ reply is. by_guard grants user s (command_in line) reply is;
  own = λ is. ap (λ (o : Option ℕ). option_map denial o) (by_own grants user s (command_in line) is);
}

-- ---- a script without them
same_refusal : (grants : List Grant) (user : List ℕ) (s : State) (line : List ℕ) → own_rule_in grants user line ≡ None
    → turn_refusal grants user s line ≡ refusal_by grants user s line
same_refusal grants user s line none = ap (λ (o : Option ℕ). option_map denial o) (unowned grants user s (command_in line) none)

same_answers : (grants : List Grant) (user : List ℕ) (s : State) (items : List Item) → All (λ item. own_rule_in grants user item.line ≡ None) items
    → answers (gated (turn_refusal grants user)) play s items ≡ answers (gated (refusal_by grants user)) play s items
same_answers grants user s [] all = refl
same_answers grants user s (item ∷ items) all =
    let first : gated (turn_refusal grants user) s item ≡ gated (refusal_by grants user) s item =
    ap (λ (o : Option (List ℕ)). gated_by s item o) (same_refusal grants user s item.line
    (All-head (λ (i : Item). own_rule_in grants user i.line ≡ None) item items all)) in
    ap (λ (a : Answer Event). a ∷ answers (gated (turn_refusal grants user)) play (after play s a.event) items) first
    ∙ ap (λ (l : List (Answer Event)). gated (refusal_by grants user) s item ∷ l)
    (same_answers grants user (after play s (gated (refusal_by grants user) s item).event) items
    (All-tail (λ (i : Item). own_rule_in grants user i.line ≡ None) item items all))

pub runs_are_guards : RunsAreGuards
runs_are_guards grants user s bytes all =
    ap (λ (l : List (Answer Event)). record { answers = l; end = end_of (script bytes).fault (refuses l); reads = true })
    (same_answers grants user s (script bytes).items all)
