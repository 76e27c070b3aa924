use Rattle.std.proofs.Common.{◌≡◌, ◌≤◌, ◌-◌, sym, ap, subst, ◌∙◌, arith, length}
use Rattle.std.specs.Prelude.{slice_get}
use Rattle.std.proofs.lemmas.Iterator.Consumers.{nth_from_yields_List, YieldsList-from_rest}
use Rattle.ranked_lists.specs.Ranks.{entries_by_rank}
use Rattle.ranked_lists.proofs.Ends.{past_end, nth_back_is}
use Rattle.ranked_lists.proofs.many.Many.entry_at.Goals as goal

pub returns-then-index-count : goal.returns-then-index-count
returns-then-index-count c =
    let keys = c.self.inside.by_rank.keys in
    let seen = c.self.invariant.0 ∙ ap entries_by_rank c.self.view_is in
    sym (past_end keys c.args.index (subst (λ n. n ≤ c.args.index) c.len-count.ensures.len c.if-index-count.true)) ∙ ap (λ l. slice_get l c.args.index) seen

pub returns-then-index-count-2 : goal.returns-then-index-count-2
returns-then-index-count-2 c =
    let keys = c.self.inside.by_rank.keys in
    let seen = c.self.invariant.0 ∙ ap entries_by_rank c.self.view_is in
    nth_from_yields_List c.nth.result c.nth.new.self c.args.index c.nth.ensures.ran (YieldsList-from_rest keys c.iter.ensures.rest)
    ∙ ap (λ l. slice_get l c.args.index) seen

pub returns-else-index-count-2 : goal.returns-else-index-count-2
returns-else-index-count-2 c =
    let keys = c.self.inside.by_rank.keys in
    let s = c.iter-else-index-count-2.result in
    let seen = c.self.invariant.0 ∙ ap entries_by_rank c.self.view_is in
    let rest = c.iter-else-index-count-2.ensures.rest in
    let size : length s ≡ c.len-count.result = ap length rest ∙ sym c.len-count.ensures.len in
    nth_back_is s c.nth_back.new.self c.args.index (c.len-count.result - 1 - c.args.index) c.nth_back.result c.nth_back.ensures.ran
    (omega (arith, size, c.if-index-count.false))
    ∙ ap (λ l. slice_get l c.args.index) (rest ∙ seen)
