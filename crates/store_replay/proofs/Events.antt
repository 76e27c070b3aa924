-- The lines of one event, made after it was played.
use Rattle.std.proofs.Common.{◌≡◌, ◌≢◌, ◌⊎◌, inl, inr, ℕ, ◌+◌, ◌&&◌, not, List, [], Bool, true, false, Option, Some, None, Result, Ok, Err}
use Rattle.std.proofs.Common.{if◌then◌else◌, refl, sym, ◌∙◌, ap, subst, arith}
use Rattle.std.specs.Prelude.{IsTrue, IfOk, OnOk, OnErr}
use Rattle.std.specs.Result.{is_err}
use Rattle.op_form.specs.declared.event.Event.{Event}
use Rattle.op_form.specs.Events.{event_encoding}
use Rattle.op_form.specs.Formed.{IsEvent}
use Rattle.op_form.specs.declared.event.Event.TheVariants.{Init, Checkout, Edit, Begin, End, Undo, Discard, Tidy, Commit, Branch, Tag, Update, Merge}
use Rattle.op_form.specs.declared.event.Event.TheVariants.{Drop, Evolve, Upgrade, Signed}
use Rattle.printed_items.specs.Printed.{printed_item}
use Rattle.script_lang.specs.declared.reply.Refusal.{Refusal}
use Rattle.script_lang.specs.declared.reply.Refusal.TheVariants as refusals
use Rattle.script_lang.specs.declared.reply.Last.TheVariants.{No}
use Rattle.script_lang.specs.Reply.{printed}
use Rattle.replay_script.specs.Lines.{item_again}
use Rattle.replay_script.specs.Printable.{is_known, is_too_long, is_not_printable}
use Rattle.replay_script.specs.Answers.{lines_again}
use Rattle.replay_script.specs.declared.fault.PrintFault.{PrintFault}
use Rattle.replay_script.specs.declared.fault.PrintFault.TheVariants.{Unknown, TooLong, NotPrintable, Memory}
use Rattle.plain_repository.specs.State.{State}
use Rattle.plain_repository.specs.Events.{play, playable}
use Rattle.plain_repository.proofs.Encodings.{playable_is_event}
use Rattle.replay_laws.proofs.Known.{nothing_is_unknown}
use Rattle.store_replay.specs.Printing.{IsPlayed, IsPlayedEvent, can_print, refusal_of, said_of}

-- an event's lines are the same by the state after it: a version or a branch that it names is there before
same_lines : (s : State) (event : Event) → lines_again (play s event).history event ≡ lines_again s.history event
unfolding play
same_lines s (Init text) = refl
same_lines s (Checkout version branch) = refl
same_lines s (Edit ws operations) = refl
same_lines s (Begin ws name) = refl
same_lines s (End ws) = refl
same_lines s (Undo ws) = refl
same_lines s (Discard ws) = refl
same_lines s (Tidy ws) = refl
same_lines s (Commit ws message) = refl
same_lines s (Branch ws name) = refl
same_lines s (Tag name version) = refl
same_lines s (Update ws letters) = refl
same_lines s (Merge ws branch letters) = refl
same_lines s (Drop ws) = refl
same_lines s (Evolve text) = refl
same_lines s Upgrade = refl
same_lines s (Signed ws author moment message) = refl

-- the events are counted
counted : (s : State) (event : Event) → (play s event).events ≡ s.events + 1
unfolding play
counted s event = refl

-- ---- by three tests
abbrev by_tests : (known long bad : Bool) → List ℕ → Result (List ℕ) PrintFault
by_tests known long bad lines = if not known then Err Unknown else if long then Err TooLong else if bad then Err NotPrintable else Ok lines

lines_mean : (known long bad : Bool) (lines bytes : List ℕ) → by_tests known long bad lines ≡ Ok bytes → ((not long && not bad) ≡ true) × (bytes ≡ lines)
lines_mean false long bad lines bytes is = absurd cc
lines_mean true true bad lines bytes is = absurd cc
lines_mean true false true lines bytes is = absurd cc
lines_mean true false false lines bytes is = (refl, cc)

long_means : (known long bad : Bool) (lines : List ℕ) → by_tests known long bad lines ≡ Err TooLong → long ≡ true
long_means false long bad lines is = absurd cc
long_means true true bad lines is = refl
long_means true false true lines is = absurd cc
long_means true false false lines is = absurd cc

bad_means : (known long bad : Bool) (lines : List ℕ) → by_tests known long bad lines ≡ Err NotPrintable → (long ≡ false) × (bad ≡ true)
bad_means false long bad lines is = absurd cc
bad_means true true bad lines is = absurd cc
bad_means true false true lines is = (refl, refl)
bad_means true false false lines is = absurd cc

unknown_means : (known long bad : Bool) (lines : List ℕ) → by_tests known long bad lines ≡ Err Unknown → known ≡ false
unknown_means false long bad lines is = refl
unknown_means true true bad lines is = absurd cc
unknown_means true false true lines is = absurd cc
unknown_means true false false lines is = absurd cc

-- ---- of an event that was played
abbrev pub refusal_line : Refusal → List ℕ
refusal_line refusal = printed (record { lines = []; last = No refusal })

said_if : (b : Bool) (lines none : List ℕ) → b ≡ true → lines ≡ (if b then lines else none)
said_if b lines none is = rw is refl

said_unless : (b : Bool) (lines none : List ℕ) → b ≡ false → none ≡ (if b then lines else none)
said_unless b lines none is = rw is refl

no_both : (long bad : Bool) → (long ≡ true) → (not long && not bad) ≡ false
no_both long bad is = rw is refl

no_bad : (long bad : Bool) → (long ≡ false) → (bad ≡ true) → (not long && not bad) ≡ false
no_bad long bad is yes_bad = rw is (rw yes_bad refl)

first_refusal : (long : Bool) (place here : ℕ) → long ≡ true → place ≡ here
    → refusals.TooLong place ≡ (if long then refusals.TooLong here else refusals.NotPrintable here)
first_refusal long place here is same = rw is (ap refusals.TooLong same)

other_refusal : (long : Bool) (place here : ℕ) → long ≡ false → place ≡ here
    → refusals.NotPrintable place ≡ (if long then refusals.TooLong here else refusals.NotPrintable here)
other_refusal long place here is same = rw is (ap refusals.NotPrintable same)

module _ (after s : State) (event : Event) (made : IsPlayedEvent after s event) where
  lines_are : (answer : Result (List ℕ) PrintFault) → lines_again after.history event ≡ answer → lines_again s.history event ≡ answer
  lines_are answer is = sym (same_lines s event) ∙ ap (λ (t : State). lines_again t.history event) (sym made.state_is) ∙ is

  number_is : after.events ≡ s.events + 1
  number_is = ap (λ (t : State). t.events) made.state_is ∙ counted s event

  -- it has its lines
  pub has_lines : (bytes : List ℕ) → lines_again after.history event ≡ Ok bytes → (bytes ≡ said_of s event) × (true ≡ can_print s event)
  has_lines bytes is =
      let h = s.history in
      let lines = printed_item (item_again h event) in
      let mean = lines_mean (is_known h event) (is_too_long event) (is_not_printable h event) lines bytes (lines_are (Ok bytes) is) in
      let none = refusal_line (refusal_of s event) in
      (mean.1 ∙ said_if (can_print s event) lines none mean.0, sym mean.0)

  -- its package is too long
  pub is_long : (bytes : List ℕ) → lines_again after.history event ≡ Err TooLong
      → bytes ≡ refusal_line (refusals.TooLong after.events) → (bytes ≡ said_of s event) × (false ≡ can_print s event)
  is_long bytes is told =
      let h = s.history in
      let lines = printed_item (item_again h event) in
      let long = long_means (is_known h event) (is_too_long event) (is_not_printable h event) lines (lines_are (Err TooLong) is) in
      let none = refusal_line (refusal_of s event) in
      let no_print : can_print s event ≡ false = no_both (is_too_long event) (is_not_printable s.history event) long in
      let why : refusals.TooLong after.events ≡ refusal_of s event = first_refusal (is_too_long event) after.events (s.events + 1) long number_is in (
        told ∙ ap refusal_line why ∙ said_unless (can_print s event) lines none no_print,
        sym no_print,
      )

  -- a line or a block can't hold it
  pub is_bad : (bytes : List ℕ) → lines_again after.history event ≡ Err NotPrintable
      → bytes ≡ refusal_line (refusals.NotPrintable after.events) → (bytes ≡ said_of s event) × (false ≡ can_print s event)
  is_bad bytes is told =
      let h = s.history in
      let lines = printed_item (item_again h event) in
      let bad = bad_means (is_known h event) (is_too_long event) (is_not_printable h event) lines (lines_are (Err NotPrintable) is) in
      let none = refusal_line (refusal_of s event) in
      let no_print : can_print s event ≡ false = no_bad (is_too_long event) (is_not_printable s.history event) bad.0 bad.1 in
      let why : refusals.NotPrintable after.events ≡ refusal_of s event = other_refusal (is_too_long event) after.events (s.events + 1) bad.0 number_is in (
        told ∙ ap refusal_line why ∙ said_unless (can_print s event) lines none no_print,
        sym no_print,
      )

  -- what it names is there
  pub is_there : lines_again after.history event ≡ Err Unknown → ⊥
  is_there is =
      let h = s.history in
      let lines = printed_item (item_again h event) in
      let no_name = unknown_means (is_known h event) (is_too_long event) (is_not_printable h event) lines (lines_are (Err Unknown) is) in
      let there = nothing_is_unknown s event made.could in
      absurd cc

-- what holds of an answer that isn't a fault
pub of_ok : {T E : Type 0} (r : Result T E) (P Q : T → Type 0) → ((x : T) → P x → Q x) → IfOk r P → IfOk r Q
of_ok (Ok x) P Q gives p = gives x p
of_ok (Err e) P Q gives p = p

-- and of two that hold
pub of_both : {T E : Type 0} (r : Result T E) (P R Q : T → Type 0) → ((x : T) → P x → R x → Q x) → IfOk r P → IfOk r R → IfOk r Q
of_both (Ok x) P R Q gives p q = gives x p q
of_both (Err e) P R Q gives p q = p

-- what holds of an answer by its test
pub went_wrong : {X E : Type 0} (P : Type 0) (r : Result X E) → is_err r ≡ true → OnErr r P → P
went_wrong P (Ok x) is p = absurd cc
went_wrong P (Err e) is p = p

pub went_well : {X E : Type 0} (P : Type 0) (r : Result X E) → is_err r ≡ false → OnOk r P → P
went_well P (Ok x) is p = p
went_well P (Err e) is p = absurd cc

-- a fault that isn't want of memory
pub not_memory : (fault other : PrintFault) (answer : Result (List ℕ) PrintFault) → fault ≡ other → (other ≢ Memory)
    → (fault ≡ Memory) ⊎ (answer ≡ Err fault) → answer ≡ Err other
not_memory fault other answer is apart (inl memory) = absurd (apart (sym is ∙ memory))
not_memory fault other answer is apart (inr told) = told ∙ ap Err is

-- ---- of the bytes of an event
-- the event that is read of them
pub found_is : (after : State) (bytes : List ℕ) (found : Event) → ((event : Event) → IsEvent event → bytes ≡ event_encoding event → found ≡ event)
    → (was : IsPlayed after bytes) → found ≡ was.event
found_is after bytes found reads was = reads was.event (playable_is_event was.before was.event was.made.could) was.spelled

-- what is printed of the event that is read is what is printed of that of the bytes
pub said_again : (after : State) (bytes : List ℕ) (found : Event) (text : List ℕ) (can : Bool)
    → ((event : Event) → IsEvent event → bytes ≡ event_encoding event → found ≡ event)
    → ((s : State) → IsPlayedEvent after s found → (text ≡ said_of s found) × (can ≡ can_print s found))
    → (was : IsPlayed after bytes) → (text ≡ said_of was.before was.event) × (can ≡ can_print was.before was.event)
said_again after bytes found text can reads gives was =
    let is : found ≡ was.event = found_is after bytes found reads was in
    subst (λ (e : Event). (text ≡ said_of was.before e) × (can ≡ can_print was.before e)) is
    (gives was.before (subst (λ (e : Event). IsPlayedEvent after was.before e) (sym is) was.made))
