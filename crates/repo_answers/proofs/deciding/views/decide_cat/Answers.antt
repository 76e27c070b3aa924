use Rattle.std.proofs.Common.{◌<◌, length, sym, subst}
use Rattle.history_tree.specs.History.{History}
use Rattle.repo_answers.proofs.deciding.views.decide_cat.Goals as goal

pub text_of-requires-clause-there : goal.text_of-requires-clause-there
text_of-requires-clause-there c = subst (λ (h : History). c.in-Ok.found.version < length h.versions) (sym c.requires.history) c.in-Ok.ensures.version
