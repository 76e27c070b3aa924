-- the rows of the labels
use Rattle.std.proofs.Common.{◌≡◌, ◌++◌, ap, ◌∙◌}
use Rattle.footprint.specs.Prints.{shown, printed}
use Rattle.footprint.proofs.Printed.{both_printed}
use Rattle.conflict_buckets.proofs.Groups.{rows_are, split_low}
use Rattle.conflict_buckets.proofs.grouping.compared_rows.Goals as goal

pub split_at-requires : goal.split_at-requires
split_at-requires c =
    let ts = c.args.theirs.now in
    let ms = c.args.mine.now in
    let meta = c.args.meta.now in
    let all : shown c.put_prints.new.prints.items ≡ printed meta (ts ++ ms) =
    both_printed meta ts ms c.in_ok-prints.prints.items c.put_prints.new.prints.items
    (c.in_ok-prints.ensures ∙ ap (printed meta) c.as_slice.ensures)
    (c.in_ok-put_prints.ensures ∙ ap (λ l. shown c.in_ok-prints.prints.items ++ printed meta l) c.as_slice-2.ensures) in
    split_low meta ts ms c.put_prints.new.prints.items c.deref.result.now c.in_ok-found.found.items c.deref-2.result.now c.len.result all
    c.deref.ensures.value c.in_ok-found.ensures.size c.deref-2.ensures.value c.len.ensures

pub returns : goal.returns
returns c =
    let ts = c.args.theirs.now in
    let ms = c.args.mine.now in
    let meta = c.args.meta.now in
    let all : shown c.put_prints.new.prints.items ≡ printed meta (ts ++ ms) =
    both_printed meta ts ms c.in_ok-prints.prints.items c.put_prints.new.prints.items
    (c.in_ok-prints.ensures ∙ ap (printed meta) c.as_slice.ensures)
    (c.in_ok-put_prints.ensures ∙ ap (λ l. shown c.in_ok-prints.prints.items ++ printed meta l) c.as_slice-2.ensures) in
    c.in_ok-rows.ensures
    ∙ rows_are meta ts ms c.in_ok-found.found.items c.deref-2.result.now c.split_at.result.0.now c.split_at.result.1.now c.len.result
    c.deref-2.ensures.value
    (c.in_ok-found.ensures.labels meta (ts ++ ms) (ap shown c.deref.ensures.value ∙ all)) c.split_at.ensures.front c.split_at.ensures.back
    c.split_at.ensures.front_len c.len.ensures
