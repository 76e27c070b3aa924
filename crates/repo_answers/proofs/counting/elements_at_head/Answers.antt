use Rattle.std.proofs.Common.{◌<◌, length, subst, sym}
use Rattle.history_tree.specs.History.{History}
use Rattle.repo_answers.proofs.counting.elements_at_head.Goals as goal

pub version_state-requires-clause-there : goal.version_state-requires-clause-there
version_state-requires-clause-there c =
    subst (λ (h : History). c.head-head.result < length h.versions) (sym c.in-Some.ensures.history) c.head-head.ensures.version
