use Rattle.std.proofs.Common.{ap, ◌∙◌}
use Rattle.std.specs.List.{list_any}
use Rattle.model_state.specs.Typing.{value_eq}
use Rattle.graph_parts.specs.Pieces.{joined}
use Rattle.graph_parts.proofs.pieces.Pieces.has.Goals as goal

pub returns : goal.returns
returns c =
    c.has.ensures (joined c.self.inside.pieces.items) c.self.invariant.2 ∙ ap (list_any (value_eq c.args.v.now)) c.self.view_is
