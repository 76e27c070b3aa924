use Rattle.std.proofs.Common.{◌≡◌, ◌<◌, ◌≤◌, ◌^◌, arith}
use Rattle.script_items.proofs.Asked.{cut_between, same_count, held}
use Rattle.script_items.proofs.words.numbers_of.Goals as goal
use Rattle.script_items.proofs.words.numbers_of.Goals.{then-count-eq0-via-then-count-eq0, then-count-eq0-via-else-count-eq0+then-count-gt-MOST_ROUNDS}
use Rattle.script_items.specs.Words.{most_rounds}

pub returns-in_err-seed-clause-bad : goal.returns-in_err-seed-clause-bad
returns-in_err-seed-clause-bad c = held c.from_residual.result (λ seed count are.
    let cut = cut_between c.args.numbers.now c.split_once.result c.split_once.ensures.cases seed count are in
    rw c.in_err-seed.was at cut)

pub returns-in_err-seed-2-clause-bad : goal.returns-in_err-seed-2-clause-bad
returns-in_err-seed-2-clause-bad c = held c.from_residual-in_err-seed-2.result (λ seed count are.
    let cut = cut_between c.args.numbers.now c.split_once.result c.split_once.ensures.cases seed count are in
    let parts = rw c.in_ok-seed.was at cut in
    c.in_err-seed-2.ensures.none seed are.seed_fits parts.0)

pub returns-in_err-count-clause-bad : goal.returns-in_err-count-clause-bad
returns-in_err-count-clause-bad c = held c.from_residual-in_err-count.result (λ seed count are.
    let cut = cut_between c.args.numbers.now c.split_once.result c.split_once.ensures.cases seed count are in
    let parts = rw c.in_ok-seed.was at cut in
    c.in_err-count.ensures.none count (omega (arith, are.most)) parts.1)

pub returns-then-count-eq0-clause-bad : goal.returns-then-count-eq0-clause-bad
returns-then-count-eq0-clause-bad c = λ seed count are.
    let cut = cut_between c.args.numbers.now c.split_once.result c.split_once.ensures.cases seed count are in
    let parts = rw c.in_ok-seed.was at cut in
    let low : 1 ≤ count = are.least in
    let high : count ≤ most_rounds = are.most in
    let small : c.in_ok-count.count < 2 ^ 64 = omega arith in
    let same : c.in_ok-count.count ≡ count = same_count _ c.in_ok-count.count count c.in_ok-count.ensures.number parts.1 small (omega arith) in
    elim c.then-count-eq0.branch [
      | then-count-eq0-via-then-count-eq0 w ↦ absurd (omega (arith, w.if-count-eq0.true))
      | then-count-eq0-via-else-count-eq0+then-count-gt-MOST_ROUNDS w ↦ absurd (omega (arith, w.if-count-gt-MOST_ROUNDS.true))
    ]
