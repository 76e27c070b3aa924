use Rattle.std.proofs.Common.{ap, ◌∙◌}
use Rattle.graph_parts.specs.Parts.{flat}
use Rattle.graph_parts.proofs.Flat.{flat_empty}
use Rattle.graph_parts.proofs.attrs.Attrs.new.Goals as goal

pub returns : goal.returns
returns c = ap flat c.new.ensures.items ∙ flat_empty
