use Rattle.std.proofs.Common.{◌<◌, length, sym, subst}
use Rattle.history_tree.proofs.Heads.{head_within}
use Rattle.history_tree.proofs.history.History.head.Goals as goal

pub returns-clause-version : goal.returns-clause-version
returns-clause-version c =
    let h = c.args.self.now.history in
    subst (λ k. k < length h.versions) (sym c.kept_head.ensures) (head_within h c.args.branch c.recall_wholeness.ensures)
