use Rattle.std.proofs.Common.{ap, ◌∙◌}
use Rattle.footprint.specs.Prints.{shown, printed}
use Rattle.conflict_buckets.proofs.pairing.pairs.Goals as goal

pub pairs_among-requires : goal.pairs_among-requires
pairs_among-requires c =
    let meta = c.args.meta.now in
    record {
      left = ap shown c.deref.ensures.value ∙ c.in_ok-left.ensures ∙ ap (printed meta) c.as_slice.ensures;
      right = ap shown c.deref-2.ensures.value ∙ c.in_ok-right.ensures ∙ ap (printed meta) c.as_slice-2.ensures;
    }
