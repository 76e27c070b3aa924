-- The columns of lines that are no commands.
use Rattle.std.proofs.Common.{◌≡◌, ℕ, ◌+◌, ◌-◌, ◌<◌, ◌≤◌, List, [], ◌∷◌, length, refl, sym, ap, subst, ◌∙◌, true, false, Bool, cond, Option, None}
use Rattle.std.proofs.Common.{Some, Result, Ok, Err, arith, codes}
use Rattle.std.specs.Prelude.{map}
use Rattle.script_lang.specs.declared.command.Command.{Command}
use Rattle.script_lang.specs.Left.{Left}
use Rattle.script_lang.specs.Words.{◌>>=◌, word_at, found_at}
use Rattle.finite_maps.specs.Equal.{text_eq}
use Rattle.script_lang.specs.Command.{init_at, evolve_at, import_at, load_at, checkout_at, create_at, delete_at, move_at, set_at, unset_at, add_at}
use Rattle.script_lang.specs.Command.{remove_at, shift_at, link_at, unlink_at, reorder_at, begin_at, end_line_at, undo_at, discard_at, tidy_at}
use Rattle.script_lang.specs.Command.{apply_at, changes_at, show_at, cat_at, validate_at, commit_at, signed_at, branch_at, tag_at, log_at, package_at}
use Rattle.script_lang.specs.Command.{update_at, merge_at, revert_at, drop_at, upgrade_at, command_of_word, commands_by_word, feature_commands, work_commands}
use Rattle.script_lang.specs.Command.{version_commands, command_of}
use Rattle.script_lang.specs.Spelling.{IsLine, Spells}
use Rattle.script_lang.proofs.LineLemmas.{line_read, line_spelled}
use Rattle.line_laws.specs.Columns.{HasWordsBefore, IsSameThrough, FitsUpTo, ColumnsAreFirst, SameLinesAreRefusedAlike}
use Rattle.line_laws.proofs.Bytes.{bytes_left, Through, earlier}
use Rattle.line_laws.proofs.Faults.{left_at, ThroughLeft, Fitting, Fault, Exact, named_exact}
use Rattle.line_laws.proofs.Commands.{init_exact, evolve_exact, import_exact, load_exact, checkout_exact, create_exact, delete_exact, move_exact}
use Rattle.line_laws.proofs.Commands.{set_exact, unset_exact, add_exact, remove_exact, shift_exact, link_exact, unlink_exact, reorder_exact}
use Rattle.line_laws.proofs.Commands.{begin_exact, end_line_exact, undo_exact, discard_exact, tidy_exact, apply_exact, changes_exact, show_exact}
use Rattle.line_laws.proofs.Commands.{cat_exact, validate_exact, commit_exact, signed_exact, branch_exact, tag_exact, log_exact, package_exact}
use Rattle.line_laws.proofs.Commands.{update_exact, merge_exact, revert_exact, drop_exact, upgrade_exact}

-- a word, and how what stands after it is read: exactly
record Row : Type 0 where
  word : List ℕ
  read : Left → Result Command ℕ
  exact : Exact read

abbrev known : (word : List ℕ) (read : Left → Result Command ℕ) → Exact read → Row
known word read exact = record { word = word; read = read; exact = exact }

abbrev plain : Row → List ℕ × (Left → Result Command ℕ)
plain row = (row.word, row.read)

abbrev all_rows : List Row
all_rows =
    known (codes "init") init_at init_exact ∷
    known (codes "evolve") evolve_at evolve_exact ∷
    known (codes "import") import_at import_exact ∷
    known (codes "load") load_at load_exact ∷
    known (codes "checkout") checkout_at checkout_exact ∷
    known (codes "create") create_at create_exact ∷
    known (codes "delete") delete_at delete_exact ∷
    known (codes "move") move_at move_exact ∷
    known (codes "set") set_at set_exact ∷
    known (codes "unset") unset_at unset_exact ∷
    known (codes "add") add_at add_exact ∷
    known (codes "remove") remove_at remove_exact ∷
    known (codes "shift") shift_at shift_exact ∷
    known (codes "link") link_at link_exact ∷
    known (codes "unlink") unlink_at unlink_exact ∷
    known (codes "reorder") reorder_at reorder_exact ∷
    known (codes "begin") begin_at begin_exact ∷
    known (codes "end") end_line_at end_line_exact ∷
    known (codes "undo") undo_at undo_exact ∷
    known (codes "discard") discard_at discard_exact ∷
    known (codes "tidy") tidy_at tidy_exact ∷
    known (codes "apply") apply_at apply_exact ∷
    known (codes "changes") changes_at changes_exact ∷
    known (codes "show") show_at show_exact ∷
    known (codes "cat") cat_at cat_exact ∷
    known (codes "validate") validate_at validate_exact ∷
    known (codes "commit") commit_at commit_exact ∷
    known (codes "signed") signed_at signed_exact ∷
    known (codes "branch") branch_at branch_exact ∷
    known (codes "tag") tag_at tag_exact ∷
    known (codes "log") log_at log_exact ∷
    known (codes "package") package_at package_exact ∷
    known (codes "update") update_at update_exact ∷
    known (codes "merge") merge_at merge_exact ∷
    known (codes "revert") revert_at revert_exact ∷
    known (codes "drop") drop_at drop_exact ∷
    known (codes "upgrade") upgrade_at upgrade_exact ∷ []

-- the reading that a word chooses, if it is some command's
abbrev reading_of : List (List ℕ × (Left → Result Command ℕ)) → List ℕ → Option (Left → Result Command ℕ)
reading_of [] word = None
reading_of (row ∷ rows) word = cond (text_eq word row.0) (Some row.1) (reading_of rows word)

-- the reading of a word's command, of what stands after the word
abbrev follow : (Left → Result Command ℕ) × Left → Result Command ℕ
follow command = command.0 command.1

chosen_is : (rows : List (List ℕ × (Left → Result Command ℕ))) (word : List ℕ) (left : Left)
    → command_of_word rows word left ≡ (found_at 1 (reading_of rows word) left >>= follow)
chosen_is [] word left = refl
chosen_is (row ∷ rows) word left = by (text_eq word row.0) (chosen_is rows word left)
  where
    by : (b : Bool) → command_of_word rows word left ≡ (found_at 1 (reading_of rows word) left >>= follow)
        → cond b (row.1 left) (command_of_word rows word left) ≡ (found_at 1 (cond b (Some row.1) (reading_of rows word)) left >>= follow)
    by true rest = refl
    by false rest = rest

chosen_exact : (rows : List Row) (word : List ℕ) (read : Left → Result Command ℕ) → reading_of (map plain rows) word ≡ Some read → Exact read
chosen_exact [] word read e = cc
chosen_exact (row ∷ rows) word read e = by (text_eq word row.word) (chosen_exact rows word read) e
  where
    by : (b : Bool) → (reading_of (map plain rows) word ≡ Some read → Exact read) → cond b (Some row.read) (reading_of (map plain rows) word) ≡ Some read
        → Exact read
    by true rest e = let same : row.read ≡ read = cc in subst Exact same row.exact
    by false rest e = rest e

-- a line's first word, and then the command's words
abbrev line_reading : Left → Result Command ℕ
line_reading left = word_at left >>= λ word. (found_at left.column (reading_of (map plain all_rows) word.0) word.1 >>= follow)

line_exact : Exact line_reading
line_exact = named_exact (reading_of (map plain all_rows)) follow (codes "init") (omega arith, refl) refl init_at refl (chosen_exact all_rows)

line_is : (line : List ℕ) → command_of line ≡ line_reading (left_at (Some line) 1)
unfolding command_of feature_commands work_commands version_commands
line_is line = by (word_at (left_at (Some line) 1))
  where
    by : (read : Result (List ℕ × Left) ℕ) → (read >>= λ first. command_of_word commands_by_word first.0 first.1)
        ≡ (read >>= λ word. (found_at 1 (reading_of (map plain all_rows) word.0) word.1 >>= follow))
    by (Ok first) = chosen_is commands_by_word first.0 first.1
    by (Err column) = refl

-- a line that is no command has its fault at a place
line_fault : (line : List ℕ) (column : ℕ) → command_of line ≡ Err column → Fault line_reading 1 column line
line_fault line column e = line_exact.faults (Some line) 1 column (sym (line_is line) ∙ e)

-- nothing is no line
no_line : (command : Command) → line_reading (left_at None 1) ≡ Ok command → ⊥
unfolding word_at
no_line command e = cc

same_through : (line : List ℕ) (left : Option (List ℕ)) (other : List ℕ) → left ≡ Some other → (before : ℕ) → 1 ≤ before
    → ThroughLeft (before - 1) line left → IsSameThrough before line other
same_through line None other is before first through = absurd through
same_through line (Some bytes) other is before first through =
    let same : bytes ≡ other = cc in
    let there : Through (before - 1) line other = subst (Through (before - 1) line) same through in
    record { before = there.before; word = there.word; ends = λ lt. omega (arith, first, there.ends (omega (arith, lt, first))) }

fitting_line : (line : List ℕ) (column past : ℕ) → column ≡ 1 + past → IsLine line → Fitting line_reading 1 past line
    → (other : List ℕ) × (command : Command) × Spells other command × HasWordsBefore column line other
fitting_line line column past place is fits = by fits.left refl
  where
    by : (left : Option (List ℕ)) → fits.left ≡ left → (other : List ℕ) × (command : Command) × Spells other command × HasWordsBefore column line other
    by None none = absurd (no_line fits.command (ap (λ left. line_reading (left_at left 1)) (sym none) ∙ fits.reads))
    by (Some other) some =
        let is_other : IsLine other = subst (λ left. IsLine (bytes_left left)) some (fits.line is) in
        let reads = line_is other ∙ ap (λ left. line_reading (left_at left 1)) (sym some) ∙ fits.reads in (
          other,
          fits.command,
          line_spelled other fits.command is_other reads,
          λ before first last. same_through line fits.left other some before first (fits.words (before - 1) (omega (arith, last, first, place))),
        )

pub same_lines_are_refused_alike : SameLinesAreRefusedAlike
same_lines_are_refused_alike line other column e same =
    let f = line_fault line column e in
    let place = f.place in
    let through : Through (column - 1) line other
    = record { before = same.before; word = same.word; ends = λ le. omega (arith, place, same.ends (omega (arith, le, place))) } in
    line_is other ∙ f.fails other (subst (λ past. Through past line other) (omega (arith, place)) through)

fits_up_to : (line : List ℕ) (column : ℕ) → IsLine line → command_of line ≡ Err column → FitsUpTo column line
fits_up_to line column is e =
    let f = line_fault line column e in
    let place = f.place in
    record {
      first = omega (arith, place);
      last = omega (arith, place, f.within);
      before = fitting_line line column f.past place is f.fits;
      there = λ other command spells same.
          let refused = same_lines_are_refused_alike line other column e same in
          let read = line_read other command spells in
          cc;
    }

-- what is the same through a column is so through each before it
same_earlier : (line other : List ℕ) (column later : ℕ) → 1 ≤ column → column ≤ later → later ≤ length line → IsSameThrough later line other
    → IsSameThrough column line other
same_earlier line other column later first le within same =
    let all : Through (later - 1) line other
    = record { before = same.before; word = same.word; ends = λ short. absurd (omega (arith, short, within, first, le)) } in
    let here = earlier (column - 1) (later - 1) line other (omega (arith, le)) (omega (arith, first, le, within)) all in
    record { before = here.before; word = here.word; ends = λ short. absurd (omega (arith, short, within, le)) }

-- of two columns up to which a line's words fit, neither is before the other
not_before : (line : List ℕ) (column later : ℕ) → FitsUpTo column line → FitsUpTo later line → column < later → ⊥
not_before line column later fits more lt =
    let first = fits.first in
    let last = more.last in
    let same = more.before.3 (later - 1) (omega (arith, first, lt)) (omega (arith, first, lt)) in
    fits.there more.before.0 more.before.1 more.before.2
    (same_earlier line more.before.0 column (later - 1) first (omega (arith, lt)) (omega (arith, last, lt)) same)

one_column : (line : List ℕ) (column other : ℕ) → FitsUpTo column line → FitsUpTo other line → other ≡ column
one_column line column other fits more =
    let not_later = not_before line column other fits more in
    let not_earlier = not_before line other column more fits in
    omega (arith, not_later, not_earlier)

refused : (line : List ℕ) (column : ℕ) → IsLine line → FitsUpTo column line → (read : Result Command ℕ) → command_of line ≡ read → read ≡ Err column
refused line column is fits (Ok command) e =
    absurd (fits.there line command (line_spelled line command is e) (record { before = refl; word = refl; ends = λ short. short }))
refused line column is fits (Err other) e = ap Err (one_column line column other fits (fits_up_to line other is e))

pub columns_are_first : ColumnsAreFirst
columns_are_first line column is = (fits_up_to line column is, λ fits. refused line column is fits (command_of line) refl)
