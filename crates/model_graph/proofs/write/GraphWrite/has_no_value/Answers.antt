use Rattle.std.proofs.Common.{ap, ◌∙◌, nat_eq}
use Rattle.model_state.specs.State.{State, value_count}
use Rattle.graph_parts.specs.declared.element.Node.{Node}
use Rattle.model_graph.specs.Seen.{bare_part}
use Rattle.model_graph.proofs.Emptied.{no_values}
use Rattle.model_graph.proofs.write.GraphWrite.has_no_value.Goals as goal

pub returns-in-None : goal.returns-in-None
returns-in-None c = ap (bare_part (λ (n : Node). n.attrs)) c.in-None.ensures ∙ no_values c.self.inside.nodes c.args.e.now
    ∙ ap (λ (s : State). nat_eq (value_count s c.args.e.now) 0) c.self.view_is

pub returns-in-Some : goal.returns-in-Some
returns-in-Some c = c.is_empty.ensures ∙ ap (bare_part (λ (n : Node). n.attrs)) c.in-Some.ensures ∙ no_values c.self.inside.nodes c.args.e.now
    ∙ ap (λ (s : State). nat_eq (value_count s c.args.e.now) 0) c.self.view_is
