use Rattle.std.proofs.Common.{◌≡◌, false, sym, ap, ◌∙◌, ◌||◌}
use Rattle.finite_maps.specs.Maps.{is_below}
use Rattle.model_state.specs.State.{row_count}
use Rattle.model_state.specs.Typing.{row_upper}
use Rattle.edit_steps.specs.References.{holds_one, room_there}
use Rattle.edit_steps.proofs.there.has_room_there.Goals as goal

pub returns-else-holds_one : goal.returns-else-holds_one
returns-else-holds_one gh c =
    let m = gh.L.Look.state c.args.look.now in
    let meta = c.args.meta.now in
    let b = c.args.b.now in
    let g = c.in-Some.g in
    let many : holds_one meta g ≡ false = sym c.holds_one.ensures ∙ c.if-holds_one.false in
    c.has_room_for.ensures ∙ sym (ap (λ o. room_there meta m o b) c.in-Some.is ∙ ap (λ t. t || is_below (row_count m b g) (row_upper meta g)) many)
