use Rattle.std.proofs.Common.{take}
use Rattle.ecore_drafts.specs.Supers.{Reached, Grown}
use Rattle.ecore_drafts.proofs.supers.reach_all.Given as goal

abbrev pub invariant-loop-up : goal.invariant-loop-up
invariant-loop-up l = record {
  kept : Reached l.seen l.reached.items;
  grown : Grown (take l.up-index l.ups) l.initial.reached.items l.reached.items;
}
