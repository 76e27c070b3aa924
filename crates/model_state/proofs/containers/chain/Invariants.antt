-- the containers so far and those of the next place are the chain
use Rattle.std.proofs.Common.{List, ◌++◌}
use Rattle.std.specs.Prelude.{Some}
use Rattle.model_state.specs.Keys.{IdBytes}
use Rattle.model_state.specs.Chains.{IsChain}
use Rattle.model_state.proofs.containers.chain.Given as goal

abbrev pub invariant-loop : goal.invariant-loop
invariant-loop g l = (xs : List IdBytes) × IsChain (g.L.Look.state l.look).place (Some l.next) xs
    × IsChain (g.L.Look.state l.look).place (Some l.place) (l.above ++ xs)
