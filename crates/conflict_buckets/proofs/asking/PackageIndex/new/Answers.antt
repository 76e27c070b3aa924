use Rattle.std.proofs.Common.{ap, subst, ◌∙◌}
use Rattle.footprint.specs.Prints.{printed}
use Rattle.cell_index.specs.Near.{Indexes}
use Rattle.conflict_buckets.proofs.asking.PackageIndex.new.Goals as goal

pub returns : goal.returns
returns c = record {
  prints = c.in_ok-prints.ensures ∙ ap (printed c.args.meta.now) c.as_slice.ensures;
  lists = subst (Indexes c.in_ok-index.index) c.deref.ensures.value c.in_ok-index.ensures;
}
