use Rattle.version_states.proofs.Caching.{uses_on}
use Rattle.version_states.proofs.states.state_at.Goals as goal

pub returns-in_err-keep_state-clause-uses : goal.returns-in_err-keep_state-clause-uses
returns-in_err-keep_state-clause-uses c =
    uses_on c.args.pool.now c.args.pool.now c.keep_state.new.pool c.args.cache.now c.build_state.new.cache c.keep_state.new.cache
    (uses_on c.args.pool.now c.args.pool.now c.args.pool.now c.args.cache.now c.cached_state.new.cache c.build_state.new.cache
    c.cached_state.ensures.uses c.build_state.ensures.uses) c.keep_state.ensures.uses

pub returns-clause-uses : goal.returns-clause-uses
returns-clause-uses c =
    uses_on c.args.pool.now c.args.pool.now c.keep_state.new.pool c.args.cache.now c.build_state.new.cache c.keep_state.new.cache
    (uses_on c.args.pool.now c.args.pool.now c.args.pool.now c.args.cache.now c.cached_state.new.cache c.build_state.new.cache
    c.cached_state.ensures.uses c.build_state.ensures.uses) c.keep_state.ensures.uses
