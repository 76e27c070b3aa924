use Rattle.std.proofs.Common.{sym, ap, ◌∙◌, nat_eq, ◌&&◌}
use Rattle.std.specs.Prelude.{Some}
use Rattle.model_state.specs.State.{State}
use Rattle.graph_parts.specs.declared.element.Node.{Node}
use Rattle.model_graph.specs.Seen.{bare_part}
use Rattle.model_state.specs.State.{link_count}
use Rattle.model_graph.proofs.Emptied.{no_rows}
use Rattle.model_graph.proofs.write.GraphWrite.has_no_row.Goals as goal

pub returns-in-None : goal.returns-in-None
returns-in-None c = ap (λ o. bare_part (λ (n : Node). n.out) o && bare_part (λ (n : Node). n.into) o) c.in-None.ensures
    ∙ no_rows c.self.inside.nodes c.self.invariant.0 c.args.e.now ∙ ap (λ (s : State). nat_eq (link_count s c.args.e.now) 0) c.self.view_is

pub returns-then-is_empty : goal.returns-then-is_empty
returns-then-is_empty c =
    c.is_empty-then-is_empty.ensures
    ∙ ap (λ b. b && bare_part (λ (n : Node). n.into) (Some c.in-Some.node.now)) (sym (sym c.is_empty.ensures ∙ c.if-is_empty.true))
    ∙ ap (λ o. bare_part (λ (n : Node). n.out) o && bare_part (λ (n : Node). n.into) o) c.in-Some.ensures
    ∙ no_rows c.self.inside.nodes c.self.invariant.0 c.args.e.now ∙ ap (λ (s : State). nat_eq (link_count s c.args.e.now) 0) c.self.view_is

pub returns-else-is_empty : goal.returns-else-is_empty
returns-else-is_empty c =
    c.if-is_empty.false ∙ ap (λ b. b && bare_part (λ (n : Node). n.into) (Some c.in-Some.node.now)) (sym (sym c.is_empty.ensures ∙ c.if-is_empty.false))
    ∙ ap (λ o. bare_part (λ (n : Node). n.out) o && bare_part (λ (n : Node). n.into) o) c.in-Some.ensures
    ∙ no_rows c.self.inside.nodes c.self.invariant.0 c.args.e.now ∙ ap (λ (s : State). nat_eq (link_count s c.args.e.now) 0) c.self.view_is
