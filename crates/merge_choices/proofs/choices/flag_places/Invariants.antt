-- the flags of the places so far are set
use Rattle.std.proofs.Common.{take}
use Rattle.merge_laws.specs.Grouping.{is_in}
use Rattle.merge_choices.specs.Flags.{Flagged}
use Rattle.merge_choices.proofs.choices.flag_places.Given as goal

abbrev pub invariant-loop-place : goal.invariant-loop-place
invariant-loop-place l = Flagged l.fn.flags.items l.flags.items (λ i. is_in i (take l.place-index l.places))
