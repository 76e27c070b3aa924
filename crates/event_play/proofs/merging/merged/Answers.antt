-- What a merge brings into a workspace by the choices of an event, or the fault of an event that can't be played there.
use Rattle.std.proofs.Common.{◌≡◌, ◌<◌, ℕ, List, Some, length, map, sym, ◌∙◌, ap, subst, arith}
use Rattle.footprint.specs.declared.bucket.Bucket.{Bucket}
use Rattle.history_tree.specs.History.{History, head}
use Rattle.merge_laws.specs.Merge.{merge_list}
use Rattle.merge_laws.specs.Choices.{are_choices, side_of}
use Rattle.repo_state.specs.Keeping.{plain_of}
use Rattle.repo_state.proofs.Merges.{cannot_misfit, cannot_nothing, merge_could, merge_is, nothing_left, plan_mine, plan_rows, plan_theirs, something_left}
use Rattle.event_play.proofs.merging.merged.Goals as goal
use Rattle.event_play.proofs.merging.merged.Goals.{then-len-eq0-via-then-len-eq0, then-len-eq0-via-else-len-eq0+then-not-are_choices}

pub returns-then-len-eq0-clause-cannot : goal.returns-then-len-eq0-clause-cannot
returns-then-len-eq0-clause-cannot c =
    let s = c.args.repo.now in
    let meta = c.in-Some.begun.now.meta in
    let w = plain_of c.in-Some-workspace.workspace.now in
    let begun : s.meta ≡ Some meta = c.in-Some.ensures.meta in
    let there = sym c.in-Some-workspace.ensures.found in
    let g = c.in-Some.begun.now.history.history in
    let hist : s.history ≡ g = c.in-Some.ensures.history in
    let plan = c.in_ok-plan.plan in
    let theirs = plan_theirs s.history g w c.args.branch c.head-version.result plan.theirs hist c.head-version.ensures.head c.in_ok-plan.ensures.plan.theirs in
    let rows = plan_rows meta s.history g w c.args.branch c.head-version.result plan.buckets.rows hist c.head-version.ensures.head
    c.in_ok-plan.ensures.plan.buckets in
    λ _. elim c.then-len-eq0.branch [
      | then-len-eq0-via-then-len-eq0 way ↦ cannot_nothing s meta c.args.ws c.args.branch c.args.letters.now w begun there
          (nothing_left s.history w (head s.history c.args.branch) plan.theirs theirs (sym c.len.ensures ∙ way.if-len-eq0.true))
      | then-len-eq0-via-else-len-eq0+then-not-are_choices way ↦ cannot_misfit s meta c.args.ws c.args.branch c.args.letters.now w begun there
          (ap (are_choices c.args.letters.now) (sym rows) ∙ ap (λ (l : List Bucket). are_choices c.args.letters.now l) (sym way.as_slice.ensures)
          ∙ ap (λ (l : List ℕ). are_choices l way.as_slice.result.now) (sym way.as_str.ensures) ∙ sym way.if-not-are_choices.ensures)
    ]

pub merge_by-requires-clause-could : goal.merge_by-requires-clause-could
merge_by-requires-clause-could c =
    let s = c.args.repo.now in
    let meta = c.in-Some.begun.now.meta in
    let w = plain_of c.in-Some-workspace.workspace.now in
    let begun : s.meta ≡ Some meta = c.in-Some.ensures.meta in
    let there = sym c.in-Some-workspace.ensures.found in
    let g = c.in-Some.begun.now.history.history in
    let hist : s.history ≡ g = c.in-Some.ensures.history in
    let plan = c.in_ok-plan.plan in
    let theirs = plan_theirs s.history g w c.args.branch c.head-version.result plan.theirs hist c.head-version.ensures.head c.in_ok-plan.ensures.plan.theirs in
    let rows = plan_rows meta s.history g w c.args.branch c.head-version.result plan.buckets.rows hist c.head-version.ensures.head
    c.in_ok-plan.ensures.plan.buckets in
    let some = something_left s.history w (head s.history c.args.branch) plan.theirs theirs (λ none. c.if-len-eq0.false (c.len.ensures ∙ none)) in
    let low : c.args.branch < length g.branches = omega (arith, c.if-branch-branch_count.false, c.branch_count.ensures.count) in
    let fit = ap (are_choices c.args.letters.now) (sym rows) ∙ ap (λ (l : List Bucket). are_choices c.args.letters.now l) (sym c.as_slice.ensures)
    ∙ ap (λ (l : List ℕ). are_choices l c.as_slice.result.now) (sym c.as_str.ensures) ∙ sym c.if-not-are_choices.ensures in
    merge_could s meta c.args.ws c.args.branch c.args.letters.now w begun there (sym c.is_open.ensures.open ∙ c.if-is_open.false)
    (subst (λ (h : History). c.args.branch < length h.branches) (sym hist) low) c.if-branch-workspace.false some fit
