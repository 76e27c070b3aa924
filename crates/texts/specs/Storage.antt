-- Where the bytes of a text lie. No public clause cites this module.
use Rattle.std.specs.Prelude.{ℕ, List}
use Rattle.std.specs.String.{string_bytes}
use Rattle.texts.specs.declared.text.Storage.{Storage}
use Rattle.texts.specs.declared.text.Storage.TheVariants.{Inline, Block, Long}

-- the bytes, wherever they lie
abbrev pub stored_bytes : Storage → List ℕ
stored_bytes (Inline text) = text
stored_bytes (Block text) = text.value
stored_bytes (Long text) = string_bytes text.value
