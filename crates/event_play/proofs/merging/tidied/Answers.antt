use Rattle.std.proofs.Common.{◌≡◌, Some, sym, ◌∙◌, ap}
use Rattle.std.specs.Prelude.{not}
use Rattle.merge_laws.specs.Tidy.{tidy}
use Rattle.repo_state.specs.Keeping.{plain_of}
use Rattle.event_play.proofs.Putting.{tidy_keeps, tidy_leads}
use Rattle.event_play.proofs.merging.tidied.Goals as goal

pub returns-clause-leads : goal.returns-clause-leads
returns-clause-leads c =
    let s = c.args.repo.now in
    let meta = c.in-Some.begun.now.meta in
    let w = plain_of c.in-Some-workspace.workspace.now in
    let begun : s.meta ≡ Some meta = c.in-Some.ensures.meta in
    let there = sym c.in-Some-workspace.ensures.found in
    tidy_leads s meta c.args.ws w c.in_ok-list.list begun there
    (c.in_ok-list.ensures.tidied ∙ ap (tidy meta) (c.in_ok-package.ensures.copied ∙ c.operations.ensures))

pub returns-clause-model : goal.returns-clause-model
returns-clause-model c =
    let s = c.args.repo.now in
    let meta = c.in-Some.begun.now.meta in
    let w = plain_of c.in-Some-workspace.workspace.now in
    let begun : s.meta ≡ Some meta = c.in-Some.ensures.meta in
    let there = sym c.in-Some-workspace.ensures.found in
    tidy_keeps s meta c.args.ws w c.in_ok-list.list c.recall_order.ensures begun there (ap not (sym c.is_open.ensures.open ∙ c.if-is_open.false))
    (c.in_ok-list.ensures.tidied ∙ ap (tidy meta) (c.in_ok-package.ensures.copied ∙ c.operations.ensures))
