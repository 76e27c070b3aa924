-- one feature more
use Rattle.std.proofs.Common.{ℕ, List, [], ◌++◌, ap, sym, ◌∙◌}
use Rattle.std.specs.Prelude.{filter_map, option_map, Option}
use Rattle.std.specs.List.{cons_option, range_with_len}
use Rattle.change_index.specs.Index.{wrote_in}
use Rattle.change_index.specs.Last.{last_of}
use Rattle.feature_writers.specs.Writers.{blame_line}
use Rattle.feature_writers.proofs.Same.{one_more}
use Rattle.feature_writers.proofs.writers.lines_on.Goals as goal

pub loop-f-preserved : goal.loop-f-preserved
loop-f-preserved c =
    let meta = c.args.meta.now in
    let n = c.loop-f.f in
    let last : ℕ → Option ℕ = λ f. last_of (wrote_in c.args.index.now c.args.e.now f) c.args.path.now in
    let line : ℕ → Option (List ℕ) = λ f. option_map (blame_line meta f) (last f) in
    c.in_ok-push_if_written.ensures
    ∙ ap (λ lines. lines ++ cons_option (option_map (blame_line meta n) c.last_on-last.result) []) c.loop-f.invariant
    ∙ ap (λ found. filter_map line (range_with_len 0 n) ++ cons_option (option_map (blame_line meta n) found) []) c.last_on-last.ensures
    ∙ sym (one_more line n)
