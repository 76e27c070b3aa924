-- by the index of the history
use Rattle.std.proofs.Common.{◌≡◌, ℕ, sym, subst}
use Rattle.std.specs.Prelude.{IfOk, Option}
use Rattle.history_tree.specs.Laws.{Rises}
use Rattle.change_index.specs.Index.{wrote_in}
use Rattle.change_index.specs.Last.{last_of}
use Rattle.feature_writers.specs.Writers.{last_write, lines_by}
use Rattle.feature_writers.proofs.Same.{path_rises, lasts_are}
use Rattle.feature_writers.proofs.writers.blame_lines.Goals as goal

pub lines_on-requires-clause-rises : goal.lines_on-requires-clause-rises
lines_on-requires-clause-rises c =
    let rises = path_rises c.law_of_last_writes.ensures.asked c.args.meta.now c.args.history.now.history c.recall_wholeness.ensures c.args.version
    c.requires.there in
    subst Rises (sym c.in_ok-path.ensures.path) rises

pub returns : goal.returns
returns c =
    let laws = c.law_of_last_writes.ensures in
    let h = c.args.history.now.history in
    let e = c.args.e.now in
    let same : (λ (f : ℕ). last_of (wrote_in c.in_ok-index.index e f) c.in_ok-path.path) ≡ last_write c.args.meta.now h c.args.version e =
    λ i f. lasts_are laws.asked c.args.meta.now h c.recall_wholeness.ensures c.args.version c.requires.there laws.last laws.one laws.found
    c.in_ok-index.index c.in_ok-index.ensures c.in_ok-path.path c.in_ok-path.ensures.path e f i
    in
    subst (λ (last : ℕ → Option ℕ). IfOk c.lines_on.result (λ lines. lines ≡ lines_by c.args.meta.now last)) same c.lines_on.ensures
