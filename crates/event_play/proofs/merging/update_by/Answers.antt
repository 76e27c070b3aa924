use Rattle.std.proofs.Common.{◌≡◌, ℕ, List, map, sym, ◌∙◌, ap}
use Rattle.history_tree.specs.History.{History, head}
use Rattle.merge_laws.specs.Merge.{update_list}
use Rattle.merge_laws.specs.Choices.{side_of}
use Rattle.merge_laws.specs.Plans.{theirs_of_update}
use Rattle.repo_state.specs.Keeping.{plain_of}
use Rattle.repo_state.proofs.Merges.{update_is}
use Rattle.event_play.proofs.Putting.{update_leads, update_theirs}
use Rattle.event_play.proofs.merging.update_by.Goals as goal

pub returns : goal.returns
returns c =
    let s = c.args._repo.now in
    let meta = c.args.begun.now.meta in
    let w = plain_of c.args._workspace.now in
    let g = c.args.begun.now.history.history in
    let hist : s.history ≡ g = c.requires.history in
    let plan = c.args.plan in
    let at = c.requires.at ∙ ap (λ (h : History). head h w.branch) (sym hist) in
    let list = c.in_ok-operations.ensures.list ∙ ap (λ (l : List ℕ). update_list plan.theirs plan.mine plan.buckets.rows (map side_of l)) c.as_str.ensures in
    let is = update_is meta s.history g w c.args.letters.now plan.theirs plan.mine c.in_ok-operations.operations plan.buckets.rows hist
    c.requires.plan.theirs c.requires.plan.mine c.requires.plan.buckets list in
    let theirs = c.requires.plan.theirs ∙ ap (λ (h : History). theirs_of_update h w.branch w.base) (sym hist) in
    record {
      could = c.requires.could;
      leads = update_leads s meta c.args._ws c.args.letters.now w c.args.base c.in_ok-operations.operations c.requires.meta c.requires.there at is;
      theirs = update_theirs s meta c.args._ws w c.args.base plan.theirs c.recall_order.ensures c.requires.meta c.requires.there at theirs;
    }
