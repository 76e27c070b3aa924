use Rattle.std.proofs.Common.{sym, subst}
use Rattle.plain_repository.specs.State.{State}
use Rattle.repo_state.specs.Cached.{HasEncodings}
use Rattle.store_session.proofs.Holding.{all_may, all_on}
use Rattle.store_session.proofs.preparing.prepare_decided.Goals as goal

pub decide-requires-clause-usable : goal.decide-requires-clause-usable
decide-requires-clause-usable c = all_may c.args.pool.now c.args.cache.now c.requires.all

pub make_ready-requires-clause-all : goal.make_ready-requires-clause-all
make_ready-requires-clause-all c = all_on c.args.pool.now c.decide.new.pool c.args.cache.now c.decide.new.cache c.requires.all c.decide.ensures.uses

pub make_ready-requires-clause-forms : goal.make_ready-requires-clause-forms
make_ready-requires-clause-forms c =
    subst (λ (s : State). HasEncodings s c.decide.new.pool c.decide.new.cache) (sym c.decide.ensures.same) c.decide.ensures.forms
