-- what stood and is kept so far, and what is of the rest, whose places count from i
use Rattle.std.proofs.Common.{◌≡◌, ◌+◌, ◌++◌, drop}
use Rattle.merge_laws.specs.Merge.{kept}
use Rattle.merge_choices.specs.Flags.{is_flagged}
use Rattle.merge_choices.proofs.picking.keep.Given as goal

abbrev pub invariant-loop-i : goal.invariant-loop-i
invariant-loop-i l = l.out ++ kept (λ j. is_flagged l.flags (l.i + j)) (drop l.i l.ops) ≡ l.initial.out ++ kept (is_flagged l.flags) l.ops
