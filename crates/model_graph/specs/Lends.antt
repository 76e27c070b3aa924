-- What the state ends as, where a `&mut` to the values of an attribute is returned.
use Rattle.std.specs.Prelude.{ℕ, List, Some}
use Rattle.std.specs.Borrow.{Lends, Fml, MutBor}
use Rattle.graph_parts.specs.contracts.value_list.ValueList as list_type
use Rattle.ecore_meta.specs.declared.meta.Value.{Value}
use Rattle.finite_maps.specs.Maps.{set}
use Rattle.model_state.specs.Keys.{IdBytes}
use Rattle.model_state.specs.State.{State}
use Rattle.model_graph.specs.contracts.graph.Graph.{the_row}

-- once the borrow r ends, the attribute has the last values written through r, and all else stays
abbrev pub lends_attr : MutBor State → IdBytes → ℕ → MutBor (List Value) → Fml
lends_attr s e f r = Lends the_row list_type.the_row s r (λ w. record s.now { attr = set s.now.attr (e, f) (Some w) })
