use Rattle.std.proofs.Common.{◌<◌, length, subst}
use Rattle.history_tree.specs.History.{History}
use Rattle.plain_repository.proofs.Reached.{workspaces_stand}
use Rattle.repo_state.specs.Keeping.{plain_of}
use Rattle.repo_state.proofs.Ordered.{is_there}
use Rattle.repo_answers.proofs.deciding.commits.make_version.Goals as goal

pub head-head-requires : goal.head-head-requires
head-head-requires c =
    let s = c.args.repo.now in
    let meta = c.args.begun.now.meta in
    let w = plain_of c.args.workspace.now in
    record {
      there = subst (λ (h : History). w.branch < length h.branches) c.requires.history
          (workspaces_stand s meta w (is_there s meta c.args.ws w c.recall_order.ensures c.requires.meta c.requires.there)).branch;
    }
