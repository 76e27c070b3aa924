use Rattle.std.proofs.Common.{◌≡◌, length, map}
use Rattle.std.specs.List.{filter, range_with_len}
use Rattle.ecore_drafts.specs.Supers.{is_above}
use Rattle.ecore_drafts.proofs.tables.all_above.Given as goal

abbrev pub invariant-loop-class : goal.invariant-loop-class
invariant-loop-class l =
    map (λ s. s.keys) l.table.items ≡ map (λ c. filter (is_above (map (λ ups. ups.items) l.supers) c) (range_with_len 0 (length l.supers)))
    (range_with_len 0 l.class)
