-- the ids of the table in order are the keys
use Rattle.std.proofs.Common.{ap, ◌∙◌}
use Rattle.std.specs.FinMap.{keys}
use Rattle.finite_maps.specs.Sorts.{in_order}
use Rattle.finite_maps.proofs.SortLaws.{sorted_is}
use Rattle.model_state.specs.Keys.{id_cmp}
use Rattle.model_state.proofs.Orders.{id_order}
use Rattle.nodes.proofs.Listed.{ids_are}
use Rattle.nodes.proofs.arena.Nodes.ids.Goals as goal

pub returns : goal.returns
returns g c =
    c.from_vec.ensures
    ∙ sorted_is id_order c.in_ok-found.found.items c.sort_unstable.new.self.items c.sort_unstable.ensures.permutation c.sort_unstable.ensures.sorted
    ∙ ap (in_order id_cmp) c.in_ok-found.ensures.ids
    ∙ ids_are c.self.inside.ids.entries c.self.inside.slots c.self.invariant c.in_ok-found.ensures.unique
    ∙ ap keys c.self.view_is
