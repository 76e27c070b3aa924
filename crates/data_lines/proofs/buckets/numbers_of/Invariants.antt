use Rattle.std.proofs.Common.{◌≡◌, ◌++◌, drop}
use Rattle.shown_lines.specs.Buckets.{numbers}
use Rattle.data_lines.proofs.buckets.numbers_of.Given as goal

abbrev pub invariant-loop-place : goal.invariant-loop-place
invariant-loop-place l = l.texts ++ numbers (drop l.place-index l.places) ≡ numbers l.places
