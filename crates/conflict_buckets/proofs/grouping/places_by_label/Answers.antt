-- one label more
use Rattle.std.proofs.Common.{◌<◌, refl, sym, subst, ◌∙◌, get_or}
use Rattle.cell_index.specs.Near.{list_at}
use Rattle.conflict_buckets.proofs.Tables.{places_more}
use Rattle.conflict_buckets.proofs.grouping.places_by_label.Goals as goal

pub loop-place-preserved : goal.loop-place-preserved
loop-place-preserved c =
    let labels = c.args.labels.now in
    let i = c.loop-place.place in
    let old = c.loop-place.table.items in
    let new = c.put_label.new.table.items in
    let size = c.loop-place.invariant.size in
    record {
      size = c.in_ok-put_label.ensures.size ∙ size;
      places = λ k low. places_more k labels i (get_or labels i 0) (list_at old k) (list_at new k) c.loop-place-test.true refl
          (c.loop-place.invariant.places k low) (c.in_ok-put_label.ensures.lists k (subst (λ n. k < n) (sym size) low));
    }
