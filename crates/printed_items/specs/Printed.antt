-- Items of a script as bytes, and which items may stand in one as they are.
use Rattle.std.specs.Prelude.{◌≡◌, ℕ, ◌<◌, ◌≤◌, List, [], ◌∷◌, ◌++◌, All, length, Bool, true, false, Option, Some, None}
use Rattle.std.specs.List.{AllByRecursion}
use Rattle.std.specs.Str.{IsUtf8}
use Rattle.host_port.specs.Limits.{line_limit, block_limit, input_limit}
use Rattle.host_port.specs.Cut.{is_lf, without_cr, Item, script_of}
use Rattle.host_port.specs.Reads.{ArePlain}

-- the text of a block, and the line `.` that ends it; nothing where there is none
abbrev pub printed_block : Option (List ℕ) → List ℕ
printed_block None = []
printed_block (Some text) = text ++ (46 ∷ 10 ∷ [])

-- a line with its line feed, and its block
abbrev pub printed_item : Item → List ℕ
printed_item item = item.line ++ (10 ∷ printed_block item.block)

-- items, one after another
abbrev pub printed_items : List Item → List ℕ
printed_items [] = []
printed_items (item ∷ items) = printed_item item ++ printed_items items

-- A line that is cut out as it is. It is UTF-8 and no longer than a line may be, without a line feed in it or a carriage return at
-- its end.
pub record IsWholeLine (line : List ℕ) : Type 0 where
  pub utf8 : IsUtf8 line
  pub no_feed : All (λ b. is_lf b ≡ false) line
  pub whole : without_cr line ≡ line
  pub short : length line ≤ line_limit

-- A text that is cut out of its block as it is: UTF-8, no longer than a block may be, and lines that are plain, each with its line feed.
pub record IsWholeBlock (text : List ℕ) : Type 0 where
  pub utf8 : IsUtf8 text
  pub plain : ArePlain text
  pub short : length text ≤ block_limit

-- there is such a block where the line takes one, and none where it takes none
abbrev pub HasItsBlock : (List ℕ → Bool) → List ℕ → Option (List ℕ) → Type 0
HasItsBlock takes line None = takes line ≡ false
HasItsBlock takes line (Some text) = (takes line ≡ true) × IsWholeBlock text

-- an item that may stand in a script as it is
pub record MayStand (takes : List ℕ → Bool) (item : Item) : Type 0 where
  pub line : IsWholeLine item.line
  pub block : HasItsBlock takes item.line item.block

-- the bytes of such items, of which there are fewer than 2^40, are cut into these items, and no fault ends them
abbrev pub PrintedItemsAreCut : Type 0
PrintedItemsAreCut = (takes : List ℕ → Bool) (items : List Item) → AllByRecursion (MayStand takes) items → length (printed_items items) < input_limit
    → script_of takes (printed_items items) ≡ record { items = items; fault = None }
