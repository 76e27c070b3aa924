-- The metamodel of the generated script is the text that the definitions give.
use Rattle.std.proofs.Common.{◌≡◌, refl}
use Rattle.script_items.specs.Library.{library}
use Rattle.script_items.specs.declared.generator.TheConstants.{LIBRARY}

pub library_same : LIBRARY.now ≡ library
library_same = refl
