-- by the index of the history
use Rattle.std.proofs.Common.{sym, ◌∙◌, subst}
use Rattle.history_tree.specs.Laws.{Rises}
use Rattle.feature_writers.proofs.Same.{path_rises, lasts_are}
use Rattle.feature_writers.proofs.writers.last_write.Goals as goal

pub last_on-requires-clause-rises : goal.last_on-requires-clause-rises
last_on-requires-clause-rises c =
    let rises = path_rises c.law_of_last_writes.ensures.asked c.args.meta.now c.args.history.now.history c.recall_wholeness.ensures c.args.version
    c.requires.there in
    subst Rises (sym c.in_ok-path.ensures.path) rises

pub returns : goal.returns
returns c =
    let laws = c.law_of_last_writes.ensures in
    c.last_on.ensures
    ∙ lasts_are laws.asked c.args.meta.now c.args.history.now.history c.recall_wholeness.ensures c.args.version c.requires.there laws.last laws.one laws.found
    c.in_ok-index.index c.in_ok-index.ensures c.in_ok-path.path c.in_ok-path.ensures.path c.args.e.now c.args.f
