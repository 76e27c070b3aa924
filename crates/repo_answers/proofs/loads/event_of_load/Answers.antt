use Rattle.std.proofs.Common.{◌≡◌, ◌∙◌, ℕ, List, Some, length, sym, ap, subst}
use Rattle.std.specs.List.{slice_split}
use Rattle.host_port.specs.Cut.{is_lf}
use Rattle.commit_journal.specs.Journal.{RecordFits}
use Rattle.plain_repository.specs.Applying.{bytes_of_lines}
use Rattle.repo_answers.proofs.LoadedEvents.{load_made}
use Rattle.repo_answers.proofs.loads.event_of_load.Goals as goal

pub returns : goal.returns
returns c = λ s event could is fits.
    let spelled : bytes_of_lines (slice_split is_lf c.block_text.result.now) ≡ Some c.as_slice.result.now =
    sym c.in_ok-bytes.ensures ∙ c.in-Some-2.is ∙ ap Some (sym c.as_slice.ensures) in
    load_made s c.in-Some.ws c.args.line.now c.as_slice.result.now c.args.block.now event c.in-Some.ensures.small c.in-Some.ensures.load
    (ap (λ (text : List ℕ). bytes_of_lines (slice_split is_lf text)) (sym c.block_text.ensures.text) ∙ spelled) could
    (sym c.in_ok-form.ensures ∙ is) (subst (λ (form : List ℕ). RecordFits s.end (length form)) is fits)
