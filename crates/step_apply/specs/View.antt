-- The state that a model over ordered maps is.
use Rattle.model_state.specs.State.{State}
use Rattle.step_apply.specs.declared.plain.Plain.{Plain}

-- the state that the parts of a model are
abbrev pub plain_state : Plain → State
plain_state p = record { kind = p.kinds; place = p.places.place; prank = p.places.rank; attr = p.attrs; row = p.rows }
