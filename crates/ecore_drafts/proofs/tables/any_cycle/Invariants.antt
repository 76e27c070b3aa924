use Rattle.std.proofs.Common.{◌≡◌, false, map}
use Rattle.std.specs.List.{list_any, range_with_len}
use Rattle.ecore_drafts.specs.Supers.{is_cyclic}
use Rattle.ecore_drafts.proofs.tables.any_cycle.Given as goal

abbrev pub invariant-loop-class : goal.invariant-loop-class
invariant-loop-class l = list_any (is_cyclic (map (λ ups. ups.items) l.supers)) (range_with_len 0 l.class) ≡ false
