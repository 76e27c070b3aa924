-- one entry more
use Rattle.std.proofs.Common.{◌++◌, ◌∷◌, [], sym, ap, ◌∙◌, take}
use Rattle.std.specs.Prelude.{Some}
use Rattle.std.proofs.lemmas.List.{take_more, take_all}
use Rattle.finite_maps.specs.Maps.{set}
use Rattle.ranked_lists.proofs.Taken.{put_all, put_all_more, put_all_is}
use Rattle.ranked_lists.proofs.ranked_list.many_of.Goals as goal

pub loop-entry-preserved : goal.loop-entry-preserved
loop-entry-preserved c =
    let xs = c.args.entries.now in
    let i = c.loop-entry.entry-index in
    let x = c.entry-item.result in
    c.in_ok-put.ensures.ok
    ∙ (λ j. set (c.loop-entry.invariant j) (c.in_ok-copy.ensures j) (Some x.rank))
    ∙ sym (put_all_more (take i xs) x)
    ∙ ap put_all (sym (take_more xs i x c.loop-entry-test.true ∙ ap (λ y. take i xs ++ y ∷ []) (sym c.entry-item.is)))

pub returns : goal.returns
returns c =
    c.loop-entry.invariant ∙ ap put_all (take_all c.loop-entry.entry-index c.args.entries.now c.loop-entry-test.false)
    ∙ put_all_is c.args.entries.now c.requires
