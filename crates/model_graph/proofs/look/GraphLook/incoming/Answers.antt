use Rattle.std.proofs.Common.{◌≡◌, sym, ap, subst, ◌∙◌, map}
use Rattle.std.specs.Prelude.{None, Some, IfOk}
use Rattle.std.specs.FinMap.{empty, get-empty}
use Rattle.model_state.specs.Keys.{attr_cmp}
use Rattle.graph_parts.specs.Parts.{incoming_of}
use Rattle.model_graph.proofs.Listings.{incoming_are, no_entries}
use Rattle.model_graph.proofs.Looked.{read_into}
use Rattle.model_graph.proofs.look.GraphLook.incoming.Goals as goal

pub returns-in-None : goal.returns-in-None
returns-in-None c =
    c.new.ensures ∙ ap (map incoming_of) (sym (no_entries attr_cmp))
    ∙ incoming_are c.args.self.now.row empty c.args.b.now
    (λ a f. get-empty attr_cmp (a, f)
    ∙ read_into c.self.inside.nodes c.args.self.now c.self.view_is c.self.invariant.0 c.args.b.now None c.in-None.ensures a f)

pub returns-in-Some : goal.returns-in-Some
returns-in-Some c =
    subst (λ ts. IfOk c.list.result (λ l. l ≡ ts))
    (incoming_are c.args.self.now.row c.in-Some.node.now.into c.args.b.now
    (λ a f. read_into c.self.inside.nodes c.args.self.now c.self.view_is c.self.invariant.0 c.args.b.now
    (Some c.in-Some.node.now) c.in-Some.ensures a f)) c.list.ensures
