use Rattle.std.proofs.Common.{◌-◌, length, map}
use Rattle.ecore_drafts.proofs.SuperLaws.{Walked}
use Rattle.ecore_drafts.proofs.supers.above.Given as goal

abbrev pub invariant-loop-next : goal.invariant-loop-next
invariant-loop-next l = Walked (map (λ ups. ups.items) l.supers) l.class l.seen l.reached.items l.next

abbrev pub decreases-loop-next : goal.decreases-loop-next
decreases-loop-next l = length l.supers - l.next
