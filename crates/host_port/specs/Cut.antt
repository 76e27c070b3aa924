-- The items of a script's input: lines, and lines with their blocks, followed by the end or by a fault with its offset.
use Rattle.std.specs.Prelude.{ℕ, ◌+◌, ◌-◌, ◌==◌, ◌&&◌, nat_lt, nat_le, not, List, [], ◌∷◌, ◌++◌, length, take, slice_index, Bool, true, false}
use Rattle.std.specs.Prelude.{if◌then◌else◌, Option, Some, None, Result, Ok, Err}
use Rattle.std.specs.List.{slice_split, before_first}
use Rattle.std.specs.Str.Lossy.{utf8_valid_len}
use Rattle.host_port.specs.declared.lines.LineFault.{LineFault}
use Rattle.host_port.specs.declared.lines.LineFault.TheVariants.{LineTooLong, BlockTooLong, NotText, UnendedBlock, InputTooLong}
use Rattle.host_port.specs.Limits.{line_limit, block_limit, input_limit}

-- a line feed
abbrev pub is_lf : ℕ → Bool
is_lf b = b == 10

-- a line without a carriage return at its end
abbrev pub without_cr : List ℕ → List ℕ
without_cr raw = if slice_index raw (length raw - 1) == 13 then take (length raw - 1) raw else raw

-- the bytes of a line, where ended says whether a line feed follows: a carriage return right before it is none of them
abbrev pub line_bytes : Bool → List ℕ → List ℕ
line_bytes ended raw = if ended then without_cr raw else raw

-- the bytes as text, or the offset of the first byte that is none
abbrev pub text_at : ℕ → List ℕ → Result (List ℕ) LineFault
text_at offset bytes = if utf8_valid_len bytes == length bytes then Ok bytes else Err (NotText (offset + utf8_valid_len bytes))

-- the text as a line
abbrev pub line_text : Result (List ℕ) LineFault → Result (Option (List ℕ)) LineFault
line_text (Ok t) = Ok (Some t)
line_text (Err e) = Err e

-- a line, or the end where no byte is left
abbrev pub line_or_end : ℕ → List ℕ → Bool → Result (Option (List ℕ)) LineFault
line_or_end offset raw ended = if not ended && (length raw == 0) then Ok None else line_text (text_at offset (line_bytes ended raw))

-- What stands at the offset, where the bytes up to the next line feed are raw, and ended says whether there is one. It is a line,
-- nothing at the end of the input, or a fault. The length is judged first.
unfoldable pub line_of : ℕ → List ℕ → Bool → Result (Option (List ℕ)) LineFault
line_of offset raw ended =
    if nat_lt line_limit (length raw) && nat_lt (offset + line_limit) input_limit then Err (LineTooLong (offset + line_limit))
    else if nat_le input_limit (offset + length raw) then Err (InputTooLong input_limit)
    else line_or_end offset raw ended

-- the bytes up to the next line feed
abbrev pub raw_line : List ℕ → List ℕ
raw_line unread = before_first is_lf unread

-- a line feed follows them
abbrev pub is_ended : List ℕ → Bool
is_ended unread = nat_lt (length (raw_line unread)) (length unread)

-- what the next line of the unread bytes is
abbrev pub next_line_of : ℕ → List ℕ → Result (Option (List ℕ)) LineFault
next_line_of offset unread = line_of offset (raw_line unread) (is_ended unread)

-- an item of a script
pub record Item : Type 0 where
  pub line : List ℕ
  pub block : Option (List ℕ)

-- the items, and what ends them: a fault, or the input's end
pub record Script : Type 0 where
  pub items : List Item
  pub fault : Option LineFault

-- the script with one more item before the others
abbrev pub with_item : List ℕ → Option (List ℕ) → Script → Script
with_item line block script = record { items = record { line = line; block = block } ∷ script.items; fault = script.fault }

-- a script without items, with what ends it
abbrev pub ends_by : Option LineFault → Script
ends_by fault = record { items = []; fault = fault }

-- is the line `.` alone
abbrev pub is_dot : List ℕ → Bool
is_dot [] = false
is_dot (b ∷ []) = b == 46
is_dot (b ∷ c ∷ bs) = false

-- the text of a block with one more line; a line that is no text is the block's fault from then on
abbrev pub line_added : List ℕ → Result (List ℕ) LineFault → Result (List ℕ) LineFault
line_added text (Err e) = Err e
line_added text (Ok line) = Ok (text ++ line ++ 10 ∷ [])

-- the same of a line's bytes, which stand at the offset; a fault that is there stays
abbrev pub text_with : ℕ → Result (List ℕ) LineFault → List ℕ → Result (List ℕ) LineFault
text_with offset (Err e) line = Err e
text_with offset (Ok text) line = line_added text (text_at offset line)

-- the offset after a line, and after its line feed where one follows
abbrev pub past_line : ℕ → Bool → List ℕ → ℕ
past_line offset ended raw = offset + (if ended then length raw + 1 else length raw)

-- A line of a block that began at start, where it isn't `.`: a fault of its length, or the text with it. What stands
-- before it is the text, or the fault of it. The block's line feeds count.
abbrev pub block_line : ℕ → ℕ → Bool → Result (List ℕ) LineFault → List ℕ → Result (Result (List ℕ) LineFault) LineFault
block_line start offset ended text raw =
    if nat_lt block_limit (past_line offset ended raw - start) && nat_lt (start + block_limit) input_limit then Err (BlockTooLong (start + block_limit))
    else if nat_le input_limit (offset + length raw) then Err (InputTooLong input_limit)
    else Ok (text_with offset text (line_bytes ended raw))

-- does a line end its block
abbrev pub ends_block : ℕ → Bool → List ℕ → Bool
ends_block offset ended raw = is_dot (line_bytes ended raw) && nat_lt (offset + length raw) input_limit

-- the script that begins with a line, by what the line is: with a block, or without
abbrev pub after_line : (List ℕ → Bool) → Result (Option (List ℕ)) LineFault → (List ℕ → Script) → Script → Script
after_line takes_block (Err e) block rest = ends_by (Some e)
after_line takes_block (Ok None) block rest = ends_by None
after_line takes_block (Ok (Some line)) block rest = if takes_block line then block line else with_item line None rest

-- the script that begins with a line and its block
abbrev pub after_block : List ℕ → Result (List ℕ) LineFault → Script → Script
after_block line (Err e) rest = ends_by (Some e)
after_block line (Ok text) rest = with_item line (Some text) rest

-- the script after a line of a block, unless that is a fault
abbrev pub in_block_by : Result (Result (List ℕ) LineFault) LineFault → (Result (List ℕ) LineFault → Script) → Script
in_block_by (Err e) rest = ends_by (Some e)
in_block_by (Ok text) rest = rest text

unfoldable mutual
  -- the script whose lines, between line feeds, are these, from the offset on
  pub cut : (List ℕ → Bool) → ℕ → List (List ℕ) → Script
  cut takes_block offset [] = ends_by None
  cut takes_block offset (raw ∷ []) =
      after_line takes_block (line_of offset raw false) (λ line. ends_by (Some (UnendedBlock (offset + length raw)))) (ends_by None)
  cut takes_block offset (raw ∷ next ∷ parts) =
      after_line takes_block (line_of offset raw true)
      (λ line. cut_block takes_block line (offset + length raw + 1) (offset + length raw + 1) (Ok []) (next ∷ parts))
      (cut takes_block (offset + length raw + 1) (next ∷ parts))

  -- the same within the block of a line, which began at start, and of which text stands before the offset
  pub cut_block : (List ℕ → Bool) → List ℕ → ℕ → ℕ → Result (List ℕ) LineFault → List (List ℕ) → Script
  cut_block takes_block line start offset text [] = ends_by None
  cut_block takes_block line start offset text (raw ∷ []) =
      if ends_block offset false raw then after_block line text (ends_by None)
      else in_block_by (block_line start offset false text raw) (λ _. ends_by (Some (UnendedBlock (offset + length raw))))
  cut_block takes_block line start offset text (raw ∷ next ∷ parts) =
      if ends_block offset true raw then after_block line text (cut takes_block (offset + length raw + 1) (next ∷ parts))
      else in_block_by (block_line start offset true text raw) (λ more. cut_block takes_block line start (offset + length raw + 1) more (next ∷ parts))

-- the script that the unread bytes are, from an offset on
abbrev pub script_from : (List ℕ → Bool) → ℕ → List ℕ → Script
script_from takes_block offset unread = cut takes_block offset (slice_split is_lf unread)

-- the script that an input is
abbrev pub script_of : (List ℕ → Bool) → List ℕ → Script
script_of takes_block input = script_from takes_block 0 input
