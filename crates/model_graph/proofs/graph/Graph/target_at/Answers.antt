use Rattle.std.proofs.Common.{sym, ap, ◌∙◌, map}
use Rattle.std.specs.Prelude.{slice_get}
use Rattle.std.specs.FinMap.{empty}
use Rattle.finite_maps.specs.Sorts.{in_order}
use Rattle.model_state.specs.Keys.{id_cmp}
use Rattle.model_state.specs.Listing.{entry_cmp}
use Rattle.ranked_lists.specs.Ranks.{ranked_entry}
use Rattle.model_graph.proofs.Listings.{targets_are, no_entries}
use Rattle.model_graph.proofs.Looked.{read_row}
use Rattle.model_graph.proofs.graph.Graph.target_at.Goals as goal

pub returns-in-None : goal.returns-in-None
returns-in-None c =
    ap (λ l. slice_get l c.args.index) (
    ap (λ es. in_order entry_cmp (map ranked_entry es)) (sym (no_entries id_cmp))
    ∙ targets_are c.args.self.now.row empty c.args.a.now c.args.f
    (λ b. c.in-None.ensures b ∙ read_row c.self.inside.nodes c.args.self.now c.self.view_is c.args.a.now c.args.f b))

pub returns-in-Some : goal.returns-in-Some
returns-in-Some c =
    c.entry_at.ensures
    ∙ ap (λ l. slice_get l c.args.index)
    (targets_are c.args.self.now.row c.in-Some.group.now c.args.a.now c.args.f
    (λ b. c.in-Some.ensures b ∙ read_row c.self.inside.nodes c.args.self.now c.self.view_is c.args.a.now c.args.f b))
