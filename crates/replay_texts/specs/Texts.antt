-- Texts that stand in a script as they are: in a line or in a block.
use Rattle.std.specs.Prelude.{◌≡◌, ℕ, ◌-◌, ◌≤◌, ◌==◌, ◌&&◌, ◌||◌, not, nat_lt, List, [], ◌∷◌, ◌++◌, Bool, true, false, length, slice_index}
use Rattle.std.specs.List.{list_any, list_all, slice_split}
use Rattle.std.specs.Str.{IsUtf8}
use Rattle.hex.specs.Hex.{IsBytes, encode_lower}
use Rattle.host_port.specs.Limits.{line_limit, block_limit}
use Rattle.host_port.specs.Cut.{is_lf, is_dot}
use Rattle.model_state.specs.declared.operation.Operation.{Operation}
use Rattle.op_form.specs.Formed.{is_package}
use Rattle.op_form.specs.Packages.{package_encoding}
use Rattle.printed_items.specs.Printed.{IsWholeLine, IsWholeBlock}

-- ---- lines
-- the bytes end with a carriage return
abbrev pub ends_with_return : List ℕ → Bool
ends_with_return bytes = slice_index bytes (length bytes - 1) == 13

-- a message that holds a line feed, or ends with a carriage return
abbrev pub breaks_line : List ℕ → Bool
breaks_line message = list_any is_lf message || ends_with_return message

-- a byte of ASCII that is neither a line feed nor a carriage return
abbrev pub is_quiet : ℕ → Bool
is_quiet b = nat_lt b 128 && not (b == 10) && not (b == 13)

-- such bytes, and such a message after them, are a line that is cut out as it is, where it isn't too long
abbrev pub MessagesStand : Type 0
MessagesStand =
    (front message : List ℕ) → list_all is_quiet front ≡ true → IsUtf8 message → breaks_line message ≡ false → length
    (front ++ message) ≤ line_limit → IsWholeLine (front ++ message)

-- ---- blocks
-- the bytes end with a line feed
abbrev pub ends_with_feed : List ℕ → Bool
ends_with_feed bytes = slice_index bytes (length bytes - 1) == 10

-- a line that ends its block, or loses the carriage return at its end
abbrev pub is_lost : List ℕ → Bool
is_lost line = is_dot line || ends_with_return line

-- a text that a block can't hold: it is too long, its last line has no line feed, or a line of it is lost
abbrev pub breaks_block : List ℕ → Bool
breaks_block text = nat_lt block_limit (length text) || (not (length text == 0) && not (ends_with_feed text)) || list_any is_lost (slice_split is_lf text)

-- each other text of UTF-8 is cut out of its block as it is
abbrev pub TextsStand : Type 0
TextsStand = (text : List ℕ) → IsUtf8 text → breaks_block text ≡ false → IsWholeBlock text

-- the bytes of a package as one line of hexadecimal digits
abbrev pub digits_line : List ℕ → List ℕ
digits_line bytes = encode_lower bytes ++ (10 ∷ [])

-- the encoding of a package is bytes, its digits are one line, and are cut out of their block as they are where they are few enough
pub record PackageStands (operations : List Operation) : Type 0 where
  pub bytes : IsBytes (package_encoding operations)
  pub line : slice_split is_lf (digits_line (package_encoding operations)) ≡ encode_lower (package_encoding operations) ∷ [] ∷ []
  pub block : length (package_encoding operations) ≤ 4194303 → IsWholeBlock (digits_line (package_encoding operations))

-- so it is with each package that has an encoding
abbrev pub PackagesStand : Type 0
PackagesStand = (operations : List Operation) → is_package operations ≡ true → PackageStands operations
