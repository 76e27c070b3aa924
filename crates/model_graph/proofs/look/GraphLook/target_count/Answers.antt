use Rattle.std.proofs.Common.{sym, ap, ◌∙◌, length}
use Rattle.std.specs.FinMap.{empty}
use Rattle.model_state.specs.Keys.{id_cmp}
use Rattle.model_graph.proofs.Listings.{targets_count, no_entries}
use Rattle.model_graph.proofs.Looked.{read_row}
use Rattle.model_graph.proofs.look.GraphLook.target_count.Goals as goal

pub returns-in-None : goal.returns-in-None
returns-in-None c =
    ap length (sym (no_entries id_cmp))
    ∙ targets_count c.args.self.now.row empty c.args.a.now c.args.f
    (λ b. c.in-None.ensures b ∙ read_row c.self.inside.nodes c.args.self.now c.self.view_is c.args.a.now c.args.f b)

pub returns-in-Some : goal.returns-in-Some
returns-in-Some c =
    c.len.ensures
    ∙ targets_count c.args.self.now.row c.in-Some.group.now c.args.a.now c.args.f
    (λ b. c.in-Some.ensures b ∙ read_row c.self.inside.nodes c.args.self.now c.self.view_is c.args.a.now c.args.f b)
