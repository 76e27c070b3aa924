-- by what a search in order answers
use Rattle.std.specs.Prelude.{Some, slice_get}
use Rattle.std.specs.Option.{option_cmp}
use Rattle.std.proofs.Common.{rules, ◌∙◌}
use Rattle.std.proofs.lemmas.Fn.{always_returns_same}
use Rattle.footprint.specs.Order.{held_cmp}
use Rattle.footprint.proofs.Sorted.{search_tells}
use Rattle.footprint.proofs.sorting.is_found.Goals as goal

pub returns : goal.returns
returns c =
    c.is_ok.ensures.value
    ∙ search_tells c.args.list.now c.args.order.now c.args.cell.now c.binary_search_by.result c.requires.some c.requires.order c.binary_search_by.ensures.bound
    (c.binary_search_by.ensures.position (λ i. option_cmp held_cmp (slice_get c.args.list.now i) (Some c.args.cell.now))
    (always_returns_same _ _ _ (λ a r f' k. search rules)))
