use Rattle.std.proofs.Common.{◌≡◌, Some, sym, ◌∙◌, ap, subst}
use Rattle.std.specs.List.{slice_split}
use Rattle.std.specs.Prelude.{IfOk}
use Rattle.host_port.specs.Cut.{is_lf}
use Rattle.plain_repository.specs.Answers as plain
use Rattle.plain_repository.specs.Applying.{bytes_of_lines, load_read}
use Rattle.repo_state.specs.Keeping.{plain_of}
use Rattle.repo_answers.specs.Decisions.{plain_decision}
use Rattle.repo_answers.proofs.Loaded.{load_goes}
use Rattle.repo_answers.proofs.deciding.loading.decide_load.Goals as goal

pub returns-in-Ok-clause-decision : goal.returns-in-Ok-clause-decision
returns-in-Ok-clause-decision c = λ meta begun.
    let s = c.args.repo.now in
    let w = plain_of c.in-Some._workspace.now in
    let there = sym c.in-Some.ensures.found in
    let bytes = c.as_slice.result.now in
    let spelled : bytes_of_lines (slice_split is_lf c.args.block.now) ≡ Some bytes =
    sym c.in_ok-bytes.ensures ∙ c.in-Some-2.is ∙ ap Some (sym c.as_slice.ensures) in
    subst (λ (y : plain.Decision). IfOk c.load_package.result (λ d. plain_decision d ≡ y))
    (ap (load_read s meta c.args.ws w) (sym c.in-Ok.ensures.read) ∙ load_goes s meta c.args.ws w c.args.block.now bytes there spelled)
    (c.load_package.ensures.decision meta w begun there)

pub returns-clause-decision : goal.returns-clause-decision
returns-clause-decision c = λ meta begun.
    let s = c.args.repo.now in
    let w = plain_of c.in-Some._workspace.now in
    let there = sym c.in-Some.ensures.found in
    let bytes = c.as_slice.result.now in
    let spelled : bytes_of_lines (slice_split is_lf c.args.block.now) ≡ Some bytes =
    sym c.in_ok-bytes.ensures ∙ c.in-Some-2.is ∙ ap Some (sym c.as_slice.ensures) in
    let read = c.unread.ensures.loaded _ s meta c.args.ws w c.in-Err.ensures.read in
    subst (λ (y : plain.Decision). IfOk c.refuse_or_fail.result (λ d. plain_decision d ≡ y))
    (load_goes s meta c.args.ws w c.args.block.now bytes there spelled)
    (c.refuse_or_fail.ensures.decision _ read)
