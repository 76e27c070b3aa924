use Rattle.std.proofs.Common.{ap, is_some}
use Rattle.history_tree.specs.States.{state_of}
use Rattle.repo_state.proofs.Taken.{head_is, theirs_follow, then_after, then_lead}
use Rattle.repo_state.proofs.following.updated_model.Goals as goal

pub model_after-requires-clause-leads : goal.model_after-requires-clause-leads
model_after-requires-clause-leads c =
    let meta = c.args.meta.now in
    let h = c.args._history.now.history in
    ap is_some
    (theirs_follow meta c.requires.sound (state_of meta h c.args._base) c.in_ok-before.before c.args.model
    (state_of meta h c.args.updated.now.base) c.args.mine.now c.args.updated.now.theirs c.as_slice.result.now
    c.requires.base c.in_ok-before.ensures.good c.requires.mine c.in_ok-before.ensures.before c.as_slice.ensures c.requires.theirs)

pub model_after-requires-2-clause-leads : goal.model_after-requires-2-clause-leads
model_after-requires-2-clause-leads c =
    let meta = c.args.meta.now in
    let h = c.args._history.now.history in
    let head = state_of meta h c.args.updated.now.base in
    let at =
    head_is meta c.requires.sound
    (state_of meta h c.args._base) c.in_ok-before.before c.args.model head c.args.mine.now c.args.updated.now.theirs c.as_slice.result.now
    c.requires.base c.in_ok-before.ensures.good c.requires.mine c.in_ok-before.ensures.before c.as_slice.ensures c.requires.theirs
    c.in_ok-at_head.at_head c.in_ok-at_head.ensures.after in
    then_lead meta c.in_ok-at_head.at_head head c.as_slice-2.result.now c.args.updated.now.operations at c.as_slice-2.ensures c.requires.leads

pub returns-clause-after : goal.returns-clause-after
returns-clause-after c =
    let meta = c.args.meta.now in
    let h = c.args._history.now.history in
    let head = state_of meta h c.args.updated.now.base in
    let at =
    head_is meta c.requires.sound
    (state_of meta h c.args._base) c.in_ok-before.before c.args.model head c.args.mine.now c.args.updated.now.theirs c.as_slice.result.now
    c.requires.base c.in_ok-before.ensures.good c.requires.mine c.in_ok-before.ensures.before c.as_slice.ensures c.requires.theirs
    c.in_ok-at_head.at_head c.in_ok-at_head.ensures.after in
    then_after meta c.in_ok-at_head.at_head head c.as_slice-2.result.now c.args.updated.now.operations c.model_after-2.result at c.as_slice-2.ensures
    c.model_after-2.ensures.after
