-- The answer of an event, by what holds of it.
use Rattle.std.proofs.Common.{◌≡◌, ℕ, ◌<◌, ◌≤◌, ◌||◌, not, nat_lt, List, Bool, true, false, Option, Result, Ok, Err, if◌then◌else◌, length, refl, sym}
use Rattle.std.proofs.Common.{◌∙◌, subst}
use Rattle.std.proofs.lemmas.Bool.{lt-ltb, le-ltb}
use Rattle.host_port.specs.Limits.{line_limit}
use Rattle.op_form.specs.declared.event.Event.{Event}
use Rattle.history_tree.specs.History.{History}
use Rattle.printed_items.specs.Printed.{printed_item}
use Rattle.script_lang.specs.Spelling.{spaced}
use Rattle.replay_script.specs.Lines.{words_again, block_again, item_again}
use Rattle.replay_script.specs.Printable.{is_known, is_too_long, breaks}
use Rattle.replay_script.specs.Answers.{lines_again}
use Rattle.replay_script.specs.declared.fault.PrintFault.{PrintFault}
use Rattle.replay_script.specs.declared.fault.PrintFault.TheVariants.{Unknown, TooLong, NotPrintable}

-- the first test that fails gives the answer
abbrev by_tests : (known long no_text past : Bool) → List ℕ → Result (List ℕ) PrintFault
by_tests known long no_text past lines =
    if not known then Err Unknown else if long then Err TooLong else if no_text || past then Err NotPrintable else Ok lines

test_unknown : (known long no_text past : Bool) (lines : List ℕ) → known ≡ false → by_tests known long no_text past lines ≡ Err Unknown
test_unknown known long no_text past lines is = rw is refl

test_long : (known long no_text past : Bool) (lines : List ℕ) → known ≡ true → long ≡ true → by_tests known long no_text past lines ≡ Err TooLong
test_long known long no_text past lines is too = rw is (rw too refl)

test_text : (known long no_text past : Bool) (lines : List ℕ) → known ≡ true → long ≡ false → no_text ≡ true
    → by_tests known long no_text past lines ≡ Err NotPrintable
test_text known long no_text past lines is short bad = rw is (rw short (rw bad refl))

test_past : (known long no_text past : Bool) (lines : List ℕ) → known ≡ true → long ≡ false → past ≡ true
    → by_tests known long no_text past lines ≡ Err NotPrintable
test_past known long true past lines is short bad = rw is (rw short refl)
test_past known long false past lines is short bad = rw is (rw short (rw bad refl))

test_lines : (known long no_text past : Bool) (lines : List ℕ) → known ≡ true → long ≡ false → no_text ≡ false → past ≡ false
    → by_tests known long no_text past lines ≡ Ok lines
test_lines known long no_text past lines is short whole fits = rw is (rw short (rw whole (rw fits refl)))

-- a version or a branch isn't there
pub unknown : (h : History) (event : Event) → is_known h event ≡ false → lines_again h event ≡ Err Unknown
unknown h event is =
    test_unknown (is_known h event) (is_too_long event) (breaks event) (nat_lt line_limit (length (spaced (words_again h event))))
    (printed_item (item_again h event)) is

-- the package is too long
pub too_long : (h : History) (event : Event) → is_known h event ≡ true → is_too_long event ≡ true → lines_again h event ≡ Err TooLong
too_long h event is too =
    test_long (is_known h event) (is_too_long event) (breaks event) (nat_lt line_limit (length (spaced (words_again h event))))
    (printed_item (item_again h event)) is too

-- the text breaks its line or its block
pub broken : (h : History) (event : Event) → is_known h event ≡ true → is_too_long event ≡ false → breaks event ≡ true
    → lines_again h event ≡ Err NotPrintable
broken h event is short bad =
    test_text (is_known h event) (is_too_long event) (breaks event) (nat_lt line_limit (length (spaced (words_again h event))))
    (printed_item (item_again h event)) is short bad

-- the line is too long
pub past_limit : (h : History) (event : Event) (line : List ℕ) → is_known h event ≡ true → is_too_long event ≡ false
    → line ≡ spaced (words_again h event) → line_limit < length line → lines_again h event ≡ Err NotPrintable
past_limit h event line is short words past =
    test_past (is_known h event) (is_too_long event) (breaks event) (nat_lt line_limit (length (spaced (words_again h event))))
    (printed_item (item_again h event)) is short
    (lt-ltb line_limit (length (spaced (words_again h event))) (subst (λ (l : List ℕ). line_limit < length l) words past))

-- else the event has its lines
pub printed : (h : History) (event : Event) (line : List ℕ) (block : Option (List ℕ)) → is_known h event ≡ true → is_too_long event ≡ false
    → line ≡ spaced (words_again h event) → block ≡ block_again event → breaks event ≡ false → length line ≤ line_limit
    → lines_again h event ≡ Ok (printed_item (record { line = line; block = block }))
printed h event line block is short words text whole fits =
    test_lines (is_known h event) (is_too_long event) (breaks event) (nat_lt line_limit (length (spaced (words_again h event))))
    (printed_item (item_again h event)) is short whole
    (le-ltb line_limit (length (spaced (words_again h event))) (subst (λ (l : List ℕ). length l ≤ line_limit) words fits))
    ∙ (λ i. Ok (printed_item (record { line = sym words i; block = sym text i })))
