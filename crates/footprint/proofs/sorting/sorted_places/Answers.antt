-- the sort leaves all positions, by their cells
use Rattle.std.specs.Ordering.{is_lt}
use Rattle.std.proofs.Common.{rules}
use Rattle.std.proofs.lemmas.Fn.{always_returns_same}
use Rattle.std.proofs.lemmas.List.Sorted.{ranks_by}
use Rattle.footprint.specs.Order.{place_cmp}
use Rattle.footprint.proofs.Sorted.{place_total, places_moved}
use Rattle.footprint.proofs.sorting.sorted_places.Goals as goal

pub returns : goal.returns
returns c =
    let sorted = c.sort_unstable_by.ensures.sorted (λ i j. is_lt (place_cmp c.args.list.now i j)) (ranks_by (place_total c.args.list.now) (λ i. i))
    (always_returns_same _ _ _ (λ a r f' k. search rules)) in
    λ some. (
      sorted,
      places_moved c.args.list.now c.in_ok-order.order.items c.sort_unstable_by.new.self.items c.in_ok-order.ensures
          c.sort_unstable_by.ensures.permutation,
    )
