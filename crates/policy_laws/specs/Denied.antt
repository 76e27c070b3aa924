-- Lines that are denied.
use Rattle.std.specs.Prelude.{◌≡◌, ◌&&◌, ℕ, List, [], ◌∷◌, Bool, true, false, not, None, Some, is_some, if◌then◌else◌}
use Rattle.host_port.specs.Cut.{Item}
use Rattle.command_runs.specs.Runs.{Answer, after, answers, events}
use Rattle.op_form.specs.declared.event.Event.{Event}
use Rattle.access_rules.specs.declared.policy.Grant.{Grant}
use Rattle.plain_repository.specs.Lines.{is_skipped}
use Rattle.plain_repository.specs.State.{State}
use Rattle.plain_repository.specs.Events.{play}
use Rattle.plain_repository.specs.Repository.{decide}
use Rattle.tool_requests.specs.Denials.{rule_against, denial}
use Rattle.policy_laws.specs.Behind.{guarded, guarded_answers}

-- is the item one that gets a reply, and a rule against its line
abbrev pub is_denied : List Grant → List ℕ → State → Item → Bool
is_denied grants user s item = not (is_skipped item.line) && is_some (rule_against grants user s item.line)

-- the items that are not denied, each on the state that the events before it lead to
abbrev pub let_in : List Grant → List ℕ → State → List Item → List Item
let_in grants user s [] = []
let_in grants user s (item ∷ items) =
    if is_denied grants user s item then let_in grants user s items
    else item ∷ let_in grants user (after play s (decide s item).event) items

-- what these are answered behind the guard, among the others
abbrev pub answers_let_in : List Grant → List ℕ → State → List Item → List (Answer Event)
answers_let_in grants user s [] = []
answers_let_in grants user s (item ∷ items) =
    let answer = guarded grants user s item in
    if is_denied grants user s item then answers_let_in grants user (after play s answer.event) items
    else answer ∷ answers_let_in grants user (after play s answer.event) items

-- an item that is denied is answered by the line that names its rule, whatever its line and block are, and makes no event
abbrev pub DeniedAreRefused : Type 0
DeniedAreRefused = (grants : List Grant) (user : List ℕ) (s : State) (item : Item) (rule : ℕ) → is_skipped item.line ≡ false
    → rule_against grants user s item.line ≡ Some rule
    → guarded grants user s item ≡ record { reply = denial rule; refused = true; event = None }

-- each other item is answered as without a guard
abbrev pub OthersAreAnswered : Type 0
OthersAreAnswered = (grants : List Grant) (user : List ℕ) (s : State) (item : Item) → is_denied grants user s item ≡ false
    → guarded grants user s item ≡ decide s item

-- the events are those of the items that are not denied, and these are answered as if they were all there is, without a guard
pub record IsAsIfAlone (grants : List Grant) (user : List ℕ) (s : State) (items : List Item) : Type 0 where
  pub events_are : events (guarded_answers grants user s items) ≡ events (answers decide play s (let_in grants user s items))
  pub answers_are : answers_let_in grants user s items ≡ answers decide play s (let_in grants user s items)

-- two scripts make the same events, and the items that are not denied are answered alike
pub record AreAlike (grants : List Grant) (user : List ℕ) (s : State) (items others : List Item) : Type 0 where
  pub events_are : events (guarded_answers grants user s items) ≡ events (guarded_answers grants user s others)
  pub answers_are : answers_let_in grants user s items ≡ answers_let_in grants user s others

-- so scripts that differ in nothing but items that are denied are alike
pub record DeniedLeaveNoTrace : Type 0 where
  pub alone : (grants : List Grant) (user : List ℕ) (s : State) (items : List Item) → IsAsIfAlone grants user s items
  pub alike : (grants : List Grant) (user : List ℕ) (s : State) (items others : List Item)
      → let_in grants user s items ≡ let_in grants user s others → AreAlike grants user s items others
