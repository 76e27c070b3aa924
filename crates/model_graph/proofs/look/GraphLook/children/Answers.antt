use Rattle.std.proofs.Common.{◌≡◌, sym, ap, subst, ◌∙◌, map}
use Rattle.std.specs.Prelude.{IfOk}
use Rattle.std.specs.FinMap.{empty}
use Rattle.finite_maps.specs.Sorts.{in_order}
use Rattle.model_state.specs.Keys.{id_cmp}
use Rattle.model_state.specs.Listing.{entry_cmp}
use Rattle.ranked_lists.specs.Ranks.{ranked_entry}
use Rattle.model_graph.specs.Seen.{placed_at}
use Rattle.model_graph.proofs.Listings.{children_are, no_entries}
use Rattle.model_graph.proofs.Looked.{places_are, ranks_are}
use Rattle.model_graph.proofs.look.GraphLook.children.Goals as goal

pub returns-in-None : goal.returns-in-None
returns-in-None c =
    c.new.ensures ∙ ap (λ es. in_order entry_cmp (map ranked_entry es)) (sym (no_entries id_cmp))
    ∙ children_are c.args.self.now.place c.args.self.now.prank (placed_at c.self.inside.nodes) empty c.args.place.now
    (places_are c.self.inside.nodes c.args.self.now c.self.view_is) (ranks_are c.self.inside.nodes c.args.self.now c.self.view_is)
    (λ x. c.in-None.ensures x ∙ c.self.invariant.1 c.args.place.now x)

pub returns-in-Some : goal.returns-in-Some
returns-in-Some c =
    subst (λ ts. IfOk c.list.result (λ l. l ≡ ts))
    (children_are c.args.self.now.place c.args.self.now.prank (placed_at c.self.inside.nodes) c.in-Some.group.now c.args.place.now
    (places_are c.self.inside.nodes c.args.self.now c.self.view_is) (ranks_are c.self.inside.nodes c.args.self.now c.self.view_is)
    (λ x. c.in-Some.ensures x ∙ c.self.invariant.1 c.args.place.now x)) c.list.ensures
