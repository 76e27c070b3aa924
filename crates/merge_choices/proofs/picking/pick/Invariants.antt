-- what is dropped so far, and what is of the rest, whose places count from i
use Rattle.std.proofs.Common.{◌≡◌, ◌+◌, ◌++◌, drop}
use Rattle.merge_laws.specs.Merge.{dropped}
use Rattle.merge_choices.specs.Flags.{is_flagged}
use Rattle.merge_choices.proofs.picking.pick.Given as goal

abbrev pub invariant-loop-i : goal.invariant-loop-i
invariant-loop-i l = l.out ++ dropped (λ j. is_flagged l.flags (l.i + j)) (drop l.i l.ops) ≡ dropped (is_flagged l.flags) l.ops
