-- Items that are denied leave no trace.
use Rattle.std.proofs.Common.{◌≡◌, ℕ, List, [], ◌∷◌, ◌++◌, Bool, true, false, not, ◌&&◌, cond, Option, None, Some, is_some, refl, sym, ◌∙◌, ap, option_map}
use Rattle.host_port.specs.Cut.{Item}
use Rattle.command_runs.specs.Runs.{Answer, listed, after, answers, events}
use Rattle.op_form.specs.declared.event.Event.{Event}
use Rattle.access_rules.specs.declared.policy.Grant.{Grant}
use Rattle.plain_repository.specs.Lines.{is_skipped}
use Rattle.plain_repository.specs.State.{State}
use Rattle.plain_repository.specs.Events.{play}
use Rattle.plain_repository.specs.Repository.{decide, decide_line, answer_of}
use Rattle.store_session.specs.Tasks.{gated_by, telling_one}
use Rattle.tool_requests.specs.Denials.{rule_against, denial}
use Rattle.policy_laws.specs.Behind.{guarded, guarded_answers}
use Rattle.policy_laws.specs.Denied.{is_denied, let_in, answers_let_in, DeniedAreRefused, OthersAreAnswered, IsAsIfAlone, DeniedLeaveNoTrace}

module _ (grants : List Grant) (user : List ℕ) where
  guarded_by : (s : State) (item : Item) (o : Option ℕ) → rule_against grants user s item.line ≡ o
      → guarded grants user s item ≡ gated_by s item (option_map denial o)
  guarded_by s item o against = ap (λ (o : Option ℕ). gated_by s item (option_map denial o)) against

  refusal : (s : State) (item : Item) (rule : ℕ) → is_skipped item.line ≡ false → rule_against grants user s item.line ≡ Some rule
      → guarded grants user s item ≡ telling_one (denial rule) true
  refusal s item rule read against =
      guarded_by s item (Some rule) against ∙ ap (λ (b : Bool). cond b (telling_one [] false) (telling_one (denial rule) true)) read

  as_ever : (s : State) (item : Item) → is_denied grants user s item ≡ false → guarded grants user s item ≡ decide s item
  unfolding decide
  as_ever s item free = by (is_skipped item.line) refl (rule_against grants user s item.line) refl free
    where
      by : (skipped : Bool) → is_skipped item.line ≡ skipped → (o : Option ℕ) → rule_against grants user s item.line ≡ o
          → (not skipped && is_some o) ≡ false → guarded grants user s item ≡ decide s item
      by skipped read None against free = guarded_by s item None against
      by false read (Some rule) against free = absurd cc
      by true read (Some rule) against free =
          guarded_by s item (Some rule) against ∙ ap (λ (b : Bool). cond b (telling_one [] false) (telling_one (denial rule) true)) read
          ∙ sym (ap (λ (b : Bool). cond b (telling_one [] false) (answer_of (decide_line s item.line item.block))) read)

  no_event : (s : State) (item : Item) → is_denied grants user s item ≡ true → (guarded grants user s item).event ≡ None
  no_event s item denied = by (is_skipped item.line) refl (rule_against grants user s item.line) refl denied
    where
      by : (skipped : Bool) → is_skipped item.line ≡ skipped → (o : Option ℕ) → rule_against grants user s item.line ≡ o
          → (not skipped && is_some o) ≡ true → (guarded grants user s item).event ≡ None
      by true read o against denied = absurd cc
      by false read None against denied = absurd cc
      by false read (Some rule) against denied = ap (λ (a : Answer Event). a.event) (refusal s item rule read against)

  module _ (s : State) (item : Item) (items : List Item) where
    -- the events from an item on, by what it makes
    abbrev events_from : Option Event → List Event
    events_from o = listed o ++ events (guarded_answers grants user (after play s o) items)

    abbrev items_by : Bool → List Item
    items_by denied = cond denied (let_in grants user s items) (item ∷ let_in grants user (after play s (decide s item).event) items)

    abbrev answers_by : Bool → Answer Event → List (Answer Event)
    answers_by denied answer =
        cond denied (answers_let_in grants user (after play s answer.event) items) (answer ∷ answers_let_in grants user (after play s answer.event) items)

    one_more : ((t : State) → IsAsIfAlone grants user t items) → (denied : Bool) → is_denied grants user s item ≡ denied
        → IsAsIfAlone grants user s (item ∷ items)
    one_more rest true denied =
        let none = no_event s item denied in record {
          events_are = ap events_from none ∙ (rest s).events_are ∙ sym (ap (λ (b : Bool). events (answers decide play s (items_by b))) denied);
          answers_are = ap (λ (b : Bool). answers_by b (guarded grants user s item)) denied
              ∙ ap (λ (o : Option Event). answers_let_in grants user (after play s o) items) none
              ∙ (rest s).answers_are ∙ sym (ap (λ (b : Bool). answers decide play s (items_by b)) denied);
        }
    one_more rest false free =
        let same = as_ever s item free in
        let next : State = after play s (decide s item).event in record {
          events_are = ap (λ (a : Answer Event). events_from a.event) same ∙ ap (λ (l : List Event). listed (decide s item).event ++ l) (rest next).events_are
              ∙ sym (ap (λ (b : Bool). events (answers decide play s (items_by b))) free);
          answers_are = ap (λ (b : Bool). answers_by b (guarded grants user s item)) free ∙ ap (answers_by false) same
              ∙ ap (λ (l : List (Answer Event)). decide s item ∷ l) (rest next).answers_are
              ∙ sym (ap (λ (b : Bool). answers decide play s (items_by b)) free);
        }

  pub alone : (s : State) (items : List Item) → IsAsIfAlone grants user s items
  alone s [] = record { events_are = refl; answers_are = refl }
  alone s (item ∷ items) = one_more s item items (λ t. alone t items) (is_denied grants user s item) refl

pub denied_are_refused : DeniedAreRefused
denied_are_refused grants user s item rule read against = refusal grants user s item rule read against

pub others_are_answered : OthersAreAnswered
others_are_answered grants user s item free = as_ever grants user s item free

pub denied_leave_no_trace : DeniedLeaveNoTrace
denied_leave_no_trace = record {
  alone = alone;
  alike = λ grants user s items others same.
      let one = alone grants user s items in
      let two = alone grants user s others in
      let both : answers decide play s (let_in grants user s items) ≡ answers decide play s (let_in grants user s others) = ap (answers decide play s) same in
      record { events_are = one.events_are ∙ ap events both ∙ sym two.events_are; answers_are = one.answers_are ∙ both ∙ sym two.answers_are };
}
