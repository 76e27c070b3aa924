use Rattle.std.proofs.Common.{◌≡◌, ◌-◌, drop, take}
use Rattle.std.specs.List.{list_all}
use Rattle.model_state.specs.Listing.{values_at}
use Rattle.model_state.specs.Typing.{value_eq}
use Rattle.recorder.proofs.many.are_all.Given as goal

abbrev pub invariant-loop-at : goal.invariant-loop-at
invariant-loop-at g l =
    let vs = values_at (g.L.Look.state l.look) l.named.id l.named.feature in
    list_all (value_eq l.v) (take (l.end - l.from) (drop l.from vs)) ≡ list_all (value_eq l.v) (take (l.end - l.at) (drop l.at vs))
