use Rattle.std.proofs.Common.{◌≡◌, ℕ, List, map, sym, ◌∙◌, ap}
use Rattle.history_tree.specs.History.{History, head}
use Rattle.merge_laws.specs.Merge.{merge_list}
use Rattle.merge_laws.specs.Choices.{side_of}
use Rattle.repo_state.specs.Keeping.{plain_of}
use Rattle.repo_state.proofs.Merges.{merge_is, plan_mine, plan_rows, plan_theirs}
use Rattle.event_play.proofs.Putting.{merge_leads}
use Rattle.event_play.proofs.merging.merge_by.Goals as goal

pub returns : goal.returns
returns c =
    let s = c.args._repo.now in
    let meta = c.args.begun.now.meta in
    let w = plain_of c.args._workspace.now in
    let g = c.args.begun.now.history.history in
    let hist : s.history ≡ g = c.requires.history in
    let plan = c.args.plan in
    let branch = c.args._branch in
    let theirs = plan_theirs s.history g w branch c.args.version plan.theirs hist c.requires.at c.requires.plan.theirs in
    let rows = plan_rows meta s.history g w branch c.args.version plan.buckets.rows hist c.requires.at c.requires.plan.buckets in
    let mine = plan_mine meta s.history g w branch c.args.version plan.mine hist c.requires.at c.requires.plan.mine in
    let at = c.requires.at ∙ ap (λ (h : History). head h branch) (sym hist) in
    let list = c.in_ok-more.ensures.list ∙ ap (λ (l : List ℕ). merge_list plan.theirs plan.mine plan.buckets.rows (map side_of l)) c.as_str.ensures in
    let is = merge_is meta s.history w
    (head s.history branch) c.args.letters.now plan.theirs plan.mine c.in_ok-more.more plan.buckets.rows theirs mine rows list in
    record {
      could = c.requires.could;
      leads = merge_leads s meta c.args._ws branch c.args.letters.now w c.in_ok-more.more c.args.version c.requires.meta c.requires.there at is;
    }
