-- What a reader of lines has done.
use Rattle.std.specs.Prelude.{◌≡◌, ◌⊎◌, ◌<◌, ◌≤◌, ℕ, ◌+◌, List, [], ◌∷◌, ◌++◌, All, length, Bool, true, false, Option, Some, None, Result, Ok, Err}
use Rattle.std.specs.Prelude.{string_bytes}
use Rattle.std.specs.List.{after_first}
use Rattle.std.specs.Str.{IsUtf8}
use Rattle.host_port.specs.declared.lines.LineFault.{LineFault}
use Rattle.host_port.specs.declared.lines.LineFault.TheVariants.{Failed, Memory, BlockTooLong, InputTooLong, UnendedBlock, NotText}
use Rattle.host_port.specs.declared.lines.block.Block.{Block}
use Rattle.host_port.specs.declared.lines.Got.{Got}
use Rattle.host_port.specs.declared.lines.Got.TheVariants.{Line, End}
use Rattle.host_port.specs.Cut.{is_lf, Script, ends_by, with_item, ends_block, block_line, without_cr, is_dot}
use Rattle.host_port.specs.declared.lines.unread.Stop.{Stop}
use Rattle.host_port.specs.declared.lines.unread.Stop.TheVariants.{Feed, Close, Far}
use Rattle.host_port.specs.Limits.{block_limit, input_limit}

-- an error that says nothing of the input, or just this fault
abbrev pub IsFault : {X : Type 0} → LineFault → Result X LineFault → Type 0
IsFault Failed read = Unit {0}
IsFault Memory read = Unit {0}
IsFault fault read = read ≡ Err fault

-- the same of a line
abbrev pub IsLineFault : LineFault → Result (Option (List ℕ)) LineFault → Type 0
IsLineFault fault read = IsFault fault read

-- the same of a text
abbrev pub IsTextFault : LineFault → Result (List ℕ) LineFault → Type 0
IsTextFault fault read = IsFault fault read

-- a line, with its text, or the end, or the fault
abbrev pub GotLine : Result Got LineFault → List ℕ → Result (Option (List ℕ)) LineFault → Type 0
GotLine (Ok Line) text read = read ≡ Ok (Some text)
GotLine (Ok End) text read = read ≡ Ok None
GotLine (Err fault) text read = IsFault fault read

-- the reader has gone after the next line feed, or to the end
pub record PastLine (unread_old unread_new : List ℕ) (offset_old offset_new : ℕ) : Type 0 where
  pub unread : unread_new ≡ after_first is_lf unread_old
  pub offset : offset_new + length unread_new ≡ offset_old + length unread_old

-- the fault ends the script, or says nothing of the input
abbrev pub EndsScript : LineFault → Script → Type 0
EndsScript Failed whole = Unit {0}
EndsScript Memory whole = Unit {0}
EndsScript fault whole = whole ≡ ends_by (Some fault)

-- the script within a block goes on with the block's text and the rest
abbrev pub GotBlock : Result (Unit {0}) LineFault → List ℕ → List ℕ → Script → Script → Type 0
GotBlock (Ok x) text line whole rest = whole ≡ with_item line (Some text) rest
GotBlock (Err fault) text line whole rest = EndsScript fault whole

-- a line of a block was read: the block goes on, or its text is the one at hand
abbrev pub GotBlockLine : Result Bool LineFault → Script → Script → Script → Type 0
GotBlockLine (Ok false) whole within ended = whole ≡ within
GotBlockLine (Ok true) whole within ended = whole ≡ ended
GotBlockLine (Err fault) whole within ended = EndsScript fault whole

-- The line feed was found, or the input's end.
abbrev pub is_feed : Stop → Bool
is_feed Feed = true
is_feed Close = false
is_feed Far = false

-- a line of a block that is too long to be one, or stands across the input's limit
abbrev pub FarFault : ℕ → LineFault → Type 0
FarFault start e = ((e ≡ BlockTooLong (start + block_limit)) × (start + block_limit < input_limit))
    ⊎ ((e ≡ InputTooLong input_limit) × (input_limit ≤ start + block_limit))

-- the fault of a line of a block, by what its bytes stopped at
abbrev pub BlockFault : Stop → ℕ → ℕ → Result (List ℕ) LineFault → List ℕ → LineFault → Type 0
BlockFault Far start offset text raw e = FarFault start e
BlockFault Feed start offset text raw e = (ends_block offset true raw ≡ false) × (block_line start offset true text raw ≡ Err e)
BlockFault Close start offset text raw e = (ends_block offset false raw ≡ false) × ((block_line start offset false text raw ≡ Err e)
    ⊎ ((e ≡ UnendedBlock (offset + length raw)) × ((more : Result (List ℕ) LineFault) × (block_line start offset false text raw ≡ Ok more))))

-- what a line of a block with the bytes raw is: its end, a line more, or a fault
abbrev pub BlockLine : Stop → ℕ → ℕ → Result (List ℕ) LineFault → Result (List ℕ) LineFault → List ℕ → Result Bool LineFault → Type 0
BlockLine stop start offset old new raw (Ok true) = (ends_block offset (is_feed stop) raw ≡ true) × (new ≡ old) × (stop ≡ Far → ⊥)
BlockLine stop start offset old new raw (Ok false) =
    (ends_block offset (is_feed stop) raw ≡ false) × (block_line start offset (is_feed stop) old raw ≡ Ok new) × (stop ≡ Feed)
BlockLine stop start offset old new raw (Err Memory) = Unit {0}
BlockLine stop start offset old new raw (Err e) = BlockFault stop start offset old raw e

-- what contracts see of a reader: the bytes at hand, the offset of the first of them, the text and whether a call failed
pub record Reader : Type 0 where
  pub pending : List ℕ
  pub offset : ℕ
  pub text : List ℕ
  pub failed : Bool

-- the text of a block's lines, or their fault
abbrev pub so_far : List ℕ → Option ℕ → Result (List ℕ) LineFault
so_far text None = Ok text
so_far text (Some at) = Err (NotText at)

-- the same of a block that is being read
abbrev pub read_so_far : Block → Result (List ℕ) LineFault
read_so_far block = so_far (string_bytes block.text) block.not_text

-- the lines, with a line feed after each
abbrev pub with_feeds : List (List ℕ) → List ℕ
with_feeds [] = []
with_feeds (raw ∷ raws) = raw ++ 10 ∷ with_feeds raws

-- A line that stands in a block's text as it is. No carriage return is cut off, and it isn't the one that ends the block.
pub record IsPlain (raw : List ℕ) : Type 0 where
  pub no_feed : All (λ b. is_lf b ≡ false) raw
  pub whole : without_cr raw ≡ raw
  pub no_end : is_dot raw ≡ false

-- the bytes are lines that are plain, each with its line feed
pub record ArePlain (bytes : List ℕ) : Type 0 where
  pub raws : List (List ℕ)
  pub are : bytes ≡ with_feeds raws
  pub plain : All IsPlain raws

-- the text of a block with such lines, all of them UTF-8; where a line before is none, that stays its fault
abbrev pub AddsRun : Result (List ℕ) LineFault → List ℕ → Result (List ℕ) LineFault → Type 0
AddsRun (Err e) run new = new ≡ Err e
AddsRun (Ok text) run new = IsUtf8 run × (new ≡ Ok (text ++ run))
