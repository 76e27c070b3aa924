-- the lines of the features so far
use Rattle.std.proofs.Common.{◌≡◌}
use Rattle.std.specs.Prelude.{filter_map, option_map}
use Rattle.std.specs.List.{range_with_len}
use Rattle.change_index.specs.Index.{wrote_in}
use Rattle.change_index.specs.Last.{last_of}
use Rattle.feature_writers.specs.Writers.{blame_line}
use Rattle.feature_writers.proofs.writers.lines_on.Given as goal

abbrev pub invariant-loop-f : goal.invariant-loop-f
invariant-loop-f l = l.lines ≡ filter_map (λ f. option_map (blame_line l.meta f) (last_of (wrote_in l.index l.e f) l.path)) (range_with_len 0 l.f)
