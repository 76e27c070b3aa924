-- What the values under ids end as, where a `&mut` to one of them is returned.
use Rattle.std.specs.Prelude.{Some}
use Rattle.std.specs.FinMap.{FinMap}
use Rattle.std.specs.Borrow.{Lends, Fml, RattleType, MutBor}
use Rattle.finite_maps.specs.Maps.{set}
use Rattle.model_state.specs.Keys.{IdBytes, id_cmp}
use Rattle.nodes.specs.contracts.arena.Nodes.{the_row}

-- once the borrow r ends, the id has the last value written through r, and the others stay
abbrev pub lends_value : (T : RattleType) → MutBor (FinMap id_cmp T.Denot) → IdBytes → MutBor T.Denot → Fml
lends_value T s e r = Lends (the_row T) T s r (λ w. set s.now e (Some w))
