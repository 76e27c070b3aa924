-- what is left of the ids are the containers of the next place where all are those of the first
use Rattle.std.proofs.Common.{◌≡◌, drop}
use Rattle.std.specs.Prelude.{Some}
use Rattle.model_state.specs.Steps.{chain_is}
use Rattle.step_rules.proofs.moves.has_chain.Given as goal

abbrev pub invariant-loop-id : goal.invariant-loop-id
invariant-loop-id g l =
    chain_is (g.S.Look.state l.model).place (Some l.next) (drop l.id-index l.ids) ≡ chain_is (g.S.Look.state l.model).place (Some l.place) l.ids
