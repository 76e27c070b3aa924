use Rattle.std.proofs.Common.{List, All, subst, sym}
use Rattle.footprint.specs.declared.bucket.Bucket.{Bucket}
use Rattle.shown_lines.specs.Buckets.{HasNumbers}
use Rattle.data_lines.proofs.buckets.bucket_lines.Goals as goal

pub bucket_line-requires : goal.bucket_line-requires
bucket_line-requires c =
    let each = subst (λ (rows : List Bucket). All HasNumbers rows) (sym c.as_slice-bucket-items.ensures) c.requires.numbers in
    subst HasNumbers (sym c.bucket-item.is) (each c.loop-n.n c.bucket-item.result c.loop-n-test.true)
