-- How a block ends the script or goes on with it.
use Rattle.std.proofs.Common.{◌≡◌, ℕ, List, Option, Some, None, ap, ◌∙◌}
use Rattle.host_port.specs.declared.lines.LineFault.TheVariants.{NotText}
use Rattle.host_port.specs.Cut.{Script, with_item, ends_by, after_block}
use Rattle.host_port.specs.Reads.{so_far}

-- a block whose lines are all text
pub read_whole : (line text : List ℕ) (bad : Option ℕ) (rest whole : Script) → bad ≡ None → whole ≡ after_block line (so_far text bad) rest
    → whole ≡ with_item line (Some text) rest
read_whole line text bad rest whole none is = is ∙ ap (λ (o : Option ℕ). after_block line (so_far text o) rest) none

-- a block with a line that is no text
pub read_bad : (line text : List ℕ) (bad : Option ℕ) (at : ℕ) (rest whole : Script) → bad ≡ Some at → whole ≡ after_block line (so_far text bad) rest
    → whole ≡ ends_by (Some (NotText at))
read_bad line text bad at rest whole some is = is ∙ ap (λ (o : Option ℕ). after_block line (so_far text o) rest) some
