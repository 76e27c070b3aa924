-- one list more, which is empty
use Rattle.std.proofs.Common.{◌≡◌, ℕ, sym, ap, subst, arith, length, length-append, [], ◌∷◌}
use Rattle.cell_index.specs.Near.{list_at}
use Rattle.cell_index.proofs.Rises.{empty_more}
use Rattle.cell_index.proofs.listing.lists_of.Goals as goal

pub loop-preserved : goal.loop-preserved
loop-preserved c = record {
  size = let made = ap length c.in_ok-push.ensures.items in let sum = length-append c.loop.table.items (c.new.result ∷ [])
      in let was = c.loop.invariant.size in omega (arith, made, sum, was);
  empty = subst (λ l. (s : ℕ) → list_at l s ≡ []) (sym c.in_ok-push.ensures.items)
      (empty_more c.loop.table.items c.new.result c.loop.invariant.empty c.new.ensures.items);
}
