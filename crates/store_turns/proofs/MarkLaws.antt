-- Lines, and the marks after them.
use Rattle.std.proofs.Common.{◌≡◌, ℕ, zero, suc, ◌+◌, ◌/◌, ◌%◌, List, [], ◌∷◌, ◌++◌, Bool, true, false, cond, Option, None, Some, length}
use Rattle.std.proofs.Common.{refl, sym, ◌∙◌, ap, subst, append_assoc, length-append, arith, drop}
use Rattle.std.specs.Prelude.{All, codes, nat_lt, option_map, ◌==◌}
use Rattle.std.specs.List.{list_any, before_first}
use Rattle.std.specs.Fmt.{decimal, digits, digits_onto, digit_glyph}
use Rattle.std.proofs.lemmas.List.{drop_at}
use Rattle.std.proofs.lemmas.List.Elements.{All-nil, All-cons, All-head, All-tail, All-append}
use Rattle.std.proofs.lemmas.Bool.Decides.{nat_tests}
use Rattle.host_port.specs.Cut.{Item, is_lf}
use Rattle.command_runs.specs.Runs.{Answer, replies}
use Rattle.op_form.specs.declared.event.Event.{Event}
use Rattle.script_lang.specs.declared.reply.Refusal.{Refusal}
use Rattle.script_lang.specs.declared.reply.Refusal.TheVariants as refusals
use Rattle.script_lang.specs.declared.reply.Last.TheVariants as last
use Rattle.script_lang.specs.Reply.{last_line, printed_lines, refusal_text}
use Rattle.plain_repository.specs.Lines.{is_skipped}
use Rattle.plain_repository.specs.State.{State}
use Rattle.plain_repository.specs.Repository.{decide}
use Rattle.tool_requests.specs.Denials.{denial}
use Rattle.tool_requests.specs.Turns.{turn_refusal, turn_rule}
use Rattle.turn_frames.proofs.Cuts.{before_at}
use Rattle.turn_frames.proofs.Heads.{any_append}
use Rattle.store_session.specs.declared.status.Status.{Status}
use Rattle.store_session.specs.declared.status.Status.TheVariants.{Accepted, Refused, BadWords, ReadFault, WriteFault, DiskFault, Damaged, Memory, Input}
use Rattle.store_session.specs.Tasks.{gated_by, telling_one}
use Rattle.store_turns.specs.Serving.{fault_line}
use Rattle.store_turns.specs.Laws.{run_of}
use Rattle.store_turns.specs.Marks.{IsLine, AreLines, NamesWhole, RefusalsAreLines, RepliesAreLines, GuardsSayLines, TurnsAreLines, MarksAreFound}

-- ---- numbers have no line feed
quiet_digit : (d : ℕ) → is_lf (digit_glyph false d) ≡ false
quiet_digit d = by (nat_lt d 10)
  where
    by : (b : Bool) → is_lf (cond b (48 + d) (cond false (55 + d) (87 + d))) ≡ false
    by true = grind (arith, nat_tests)
    by false = grind (arith, nat_tests)

quiet_onto : (k n : ℕ) (acc : List ℕ) → list_any is_lf acc ≡ false → list_any is_lf (digits_onto k 10 false n acc) ≡ false
quiet_onto zero n acc quiet = quiet
quiet_onto (suc k) n acc quiet =
    let last : list_any is_lf (digit_glyph false (n % 10) ∷ acc) ≡ false = rw (quiet_digit (n % 10)) quiet in
    by k n acc (n / 10 == 0) last (quiet_onto k (n / 10) (digit_glyph false (n % 10) ∷ acc) last)
  where
    by : (k n : ℕ) (acc : List ℕ) (b : Bool) → list_any is_lf (digit_glyph false (n % 10) ∷ acc) ≡ false
        → list_any is_lf (digits_onto k 10 false (n / 10) (digit_glyph false (n % 10) ∷ acc)) ≡ false
        → list_any is_lf (cond b (digit_glyph false (n % 10) ∷ acc) (digits_onto k 10 false (n / 10) (digit_glyph false (n % 10) ∷ acc))) ≡ false
    by k n acc true last more = last
    by k n acc false last more = more

quiet_decimal : (n : ℕ) → list_any is_lf (decimal n) ≡ false
unfolding digits
quiet_decimal n = quiet_onto 64 n [] refl

-- ---- refusals
quiet_text : (refusal : Refusal) → NamesWhole refusal → list_any is_lf (refusal_text refusal) ≡ false
unfolding refusal_text
quiet_text (refusals.BadLine column) names = any_append is_lf (codes "1 BadLine ") (decimal column) refl (quiet_decimal column)
quiet_text refusals.NotInit names = refl
quiet_text refusals.AlreadyInit names = refl
quiet_text (refusals.BadMetamodel n) names = any_append is_lf (codes "4 BadMetamodel ") (decimal n) refl (quiet_decimal n)
quiet_text refusals.NoWorkspace names = refl
quiet_text refusals.NoVersion names = refl
quiet_text refusals.NoBranch names = refl
quiet_text refusals.BranchExists names = refl
quiet_text refusals.TagExists names = refl
quiet_text refusals.NoElement names = refl
quiet_text refusals.IdInUse names = refl
quiet_text refusals.BadId names = refl
quiet_text refusals.NoClass names = refl
quiet_text refusals.Abstract names = refl
quiet_text refusals.NoFeature names = refl
quiet_text refusals.WrongKind names = refl
quiet_text refusals.BadValue names = refl
quiet_text refusals.WrongType names = refl
quiet_text refusals.Bound names = refl
quiet_text refusals.AlreadyThere names = refl
quiet_text refusals.NoEntry names = refl
quiet_text refusals.WouldCycle names = refl
quiet_text refusals.NothingLocal names = refl
quiet_text (refusals.Stale base head) names =
    any_append is_lf (codes "24 Stale ") (decimal base ++ (codes " " ++ decimal head)) refl
    (any_append is_lf (decimal base) (codes " " ++ decimal head) (quiet_decimal base) (any_append is_lf (codes " ") (decimal head) refl (quiet_decimal head)))
quiet_text (refusals.Conflicts buckets) names = any_append is_lf (codes "25 Conflicts ") (decimal buckets) refl (quiet_decimal buckets)
quiet_text (refusals.BadChoice want got) names =
    any_append is_lf (codes "26 BadChoice ") (decimal want ++ (codes " " ++ decimal got)) refl
    (any_append is_lf (decimal want) (codes " " ++ decimal got) (quiet_decimal want) (any_append is_lf (codes " ") (decimal got) refl (quiet_decimal got)))
quiet_text refusals.CompositeOpen names = refl
quiet_text refusals.NoComposite names = refl
quiet_text (refusals.BadModel n) names = any_append is_lf (codes "29 BadModel ") (decimal n) refl (quiet_decimal n)
quiet_text (refusals.Interferes None) names = refl
quiet_text (refusals.Interferes (Some version)) names = any_append is_lf (codes "30 Interferes ") (decimal version) refl (quiet_decimal version)
quiet_text refusals.SameBranch names = refl
quiet_text refusals.NotOnPath names = refl
quiet_text refusals.HistoryFull names = refl
quiet_text refusals.TooLarge names = refl
quiet_text refusals.JournalFull names = refl
quiet_text (refusals.NotApplicable step) names = any_append is_lf (codes "36 NotApplicable ") (decimal step) refl (quiet_decimal step)
quiet_text (refusals.NotForm place) names = any_append is_lf (codes "37 NotForm ") (decimal place) refl (quiet_decimal place)
quiet_text (refusals.NotExtension name) names = any_append is_lf (codes "38 NotExtension ") name refl (names name refl)
quiet_text refusals.OldForm names = refl
quiet_text refusals.Unsigned names = refl
quiet_text (refusals.Denied rule) names = any_append is_lf (codes "41 Denied ") (decimal rule) refl (quiet_decimal rule)
quiet_text (refusals.TooLong place) names = any_append is_lf (codes "42 TooLong ") (decimal place) refl (quiet_decimal place)
quiet_text (refusals.NotPrintable place) names = any_append is_lf (codes "43 NotPrintable ") (decimal place) refl (quiet_decimal place)

pub refusals_are_lines : RefusalsAreLines
refusals_are_lines refusal names = record {
  some = omega (arith, length-append (codes "no ") (refusal_text refusal));
  whole = any_append is_lf (codes "no ") (refusal_text refusal) refl (quiet_text refusal names);
}

-- ---- replies
lines-append : (xs ys : List (List ℕ)) → printed_lines (xs ++ ys) ≡ printed_lines xs ++ printed_lines ys
lines-append [] ys = refl
lines-append (x ∷ xs) ys =
    ap (λ (l : List ℕ). x ++ 10 ∷ l) (lines-append xs ys) ∙ sym (append_assoc x (10 ∷ printed_lines xs) (printed_lines ys))

pub replies_are_lines : RepliesAreLines
replies_are_lines reply each last = record {
  lines = reply.lines ++ last_line reply.last ∷ [];
  each = All-append IsLine reply.lines (last_line reply.last ∷ []) each (All-cons IsLine (last_line reply.last) [] last (All-nil IsLine));
  bytes_are = sym (lines-append reply.lines (last_line reply.last ∷ []));
}

no_lines : AreLines []
no_lines = record { lines = []; each = All-nil IsLine; bytes_are = refl }

two_lines : (a b : List ℕ) → AreLines a → AreLines b → AreLines (a ++ b)
two_lines a b one other = record {
  lines = one.lines ++ other.lines;
  each = All-append IsLine one.lines other.lines one.each other.each;
  bytes_are = ap (λ (l : List ℕ). l ++ b) one.bytes_are ∙ ap (λ (l : List ℕ). printed_lines one.lines ++ l) other.bytes_are
      ∙ sym (lines-append one.lines other.lines);
}

denials_are_lines : (n : ℕ) → AreLines (denial n)
denials_are_lines n =
    replies_are_lines (record { lines = []; last = last.No (refusals.Denied n) }) (All-nil IsLine) (refusals_are_lines (refusals.Denied n) (λ name is. cc))

-- ---- a guard
refused_with : (n : Option ℕ) (reply : List ℕ) → option_map denial n ≡ Some reply → AreLines reply
refused_with None reply is = cc
refused_with (Some n) reply is = let same : denial n ≡ reply = cc in subst AreLines same (denials_are_lines n)

gated_lines : (s : State) (item : Item) (o : Option (List ℕ)) → ((reply : List ℕ) → o ≡ Some reply → AreLines reply) → AreLines (decide s item).reply
    → AreLines (gated_by s item o).reply
gated_lines s item None refused decided = decided
gated_lines s item (Some reply) refused decided = by (is_skipped item.line) (refused reply refl)
  where
    by : (b : Bool) → AreLines reply → AreLines (cond {A = Answer Event} b (telling_one [] false) (telling_one reply true)).reply
    by true is = no_lines
    by false is = is

pub guards_say_lines : GuardsSayLines
guards_say_lines grants user s item decided =
    gated_lines s item (turn_refusal grants user s item.line) (λ reply is. refused_with (turn_rule grants user s item.line) reply is) decided

-- ---- a turn
faults_are_lines : (status : Status) → AreLines (fault_line status)
faults_are_lines (Input fault at) =
    let line = codes "no 44 BadFrame " ++ (decimal fault ++ (codes " " ++ decimal at)) in
    let quiet : list_any is_lf line ≡ false =
    any_append is_lf (codes "no 44 BadFrame ") (decimal fault ++ (codes " " ++ decimal at)) refl
    (any_append is_lf (decimal fault) (codes " " ++ decimal at) (quiet_decimal fault) (any_append is_lf (codes " ") (decimal at) refl (quiet_decimal at))) in
    record {
      lines = line ∷ [];
      each = All-cons IsLine line [] (record {
        some = omega (arith, length-append (codes "no 44 BadFrame ") (decimal fault ++ (codes " " ++ decimal at)));
        whole = quiet;
      }) (All-nil IsLine);
      bytes_are = sym (append_assoc (codes "no 44 BadFrame ") (decimal fault ++ (codes " " ++ decimal at)) (10 ∷ [])
          ∙ ap (λ (l : List ℕ). codes "no 44 BadFrame " ++ l) (append_assoc (decimal fault) (codes " " ++ decimal at) (10 ∷ [])));
    }
faults_are_lines Accepted = no_lines
faults_are_lines Refused = no_lines
faults_are_lines BadWords = no_lines
faults_are_lines ReadFault = no_lines
faults_are_lines WriteFault = no_lines
faults_are_lines DiskFault = no_lines
faults_are_lines (Damaged at) = no_lines
faults_are_lines Memory = no_lines

all_lines : (answers : List (Answer Event)) → All (λ answer. AreLines answer.reply) answers → AreLines (replies answers)
all_lines [] each = no_lines
all_lines (a ∷ more) each =
    two_lines a.reply (replies more) (All-head (λ (x : Answer Event). AreLines x.reply) a more each)
    (all_lines more (All-tail (λ (x : Answer Event). AreLines x.reply) a more each))

pub turns_are_lines : TurnsAreLines
turns_are_lines grants s turn each =
    let run = run_of grants s turn in
    let both = two_lines (replies run.answers) (fault_line run.end) (all_lines run.answers each) (faults_are_lines run.end) in
    (both.lines, both.each, sym (append_assoc (replies run.answers) (fault_line run.end) (10 ∷ [])) ∙ ap (λ (l : List ℕ). l ++ 10 ∷ []) both.bytes_are)

-- ---- where the first empty line stands
head_is : (x : List ℕ) (more : List ℕ) → list_any is_lf x ≡ false → before_first is_lf (x ++ 10 ∷ more) ≡ x
head_is x more quiet = before_at is_lf x 10 more quiet refl

same_head : (x y more rest : List ℕ) → list_any is_lf x ≡ false → list_any is_lf y ≡ false → x ++ 10 ∷ more ≡ y ++ 10 ∷ rest → (x ≡ y) × (more ≡ rest)
same_head x y more rest one other same =
    let is : x ≡ y = sym (head_is x more one) ∙ ap (λ (l : List ℕ). before_first is_lf l) same ∙ head_is y rest other in
    let tails : 10 ∷ more ≡ 10 ∷ rest =
    sym (drop_at x (10 ∷ more) (length x) refl) ∙ ap (λ (l : List ℕ). drop (length x) l) (same ∙ ap (λ (l : List ℕ). l ++ 10 ∷ rest) (sym is))
    ∙ drop_at x (10 ∷ rest) (length x) refl in
    (is, cc)

pub marks_are_found : MarksAreFound
marks_are_found [] [] rest after one other same = (refl, cc)
marks_are_found [] (y ∷ ys) rest after one other same =
    let line = All-head IsLine y ys other in
    let head = same_head [] y rest (printed_lines ys ++ 10 ∷ after) refl line.whole (same ∙ append_assoc y (10 ∷ printed_lines ys) (10 ∷ after)) in
    absurd (omega (arith, line.some, ap length head.0))
marks_are_found (x ∷ xs) [] rest after one other same =
    let line = All-head IsLine x xs one in
    let head = same_head x [] (printed_lines xs ++ 10 ∷ rest) after line.whole refl (sym (append_assoc x (10 ∷ printed_lines xs) (10 ∷ rest)) ∙ same) in
    absurd (omega (arith, line.some, ap length head.0))
marks_are_found (x ∷ xs) (y ∷ ys) rest after one other same =
    let head = same_head x y (printed_lines xs ++ 10 ∷ rest) (printed_lines ys ++ 10 ∷ after) (All-head IsLine x xs one).whole
    (All-head IsLine y ys other).whole
    (sym (append_assoc x (10 ∷ printed_lines xs) (10 ∷ rest)) ∙ same ∙ append_assoc y (10 ∷ printed_lines ys) (10 ∷ after)) in
    let more = marks_are_found xs ys rest after (All-tail IsLine x xs one) (All-tail IsLine y ys other) head.1 in
    ((λ i. head.0 i ∷ more.0 i), more.1)
