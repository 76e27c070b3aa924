use Rattle.std.proofs.Common.{◌++◌, ◌∷◌, [], ap, subst, ◌∙◌}
use Rattle.std.specs.List.Sorted.{IsPermutation}
use Rattle.ranked_lists.specs.Ranked.{entry_with}
use Rattle.ranked_lists.proofs.Taken.{put_in_order}
use Rattle.ranked_lists.proofs.few.add_among.Goals as goal

pub returns-clause-ranked : goal.returns-clause-ranked
returns-clause-ranked c =
    let pushed = c.in_ok-push.ensures.items ∙ ap (λ xs. xs ++ entry_with c.args.e c.args.rank ∷ []) c.make_room.ensures in
    (put_in_order c.args.entries.now.items c.args.e c.requires.ranked c.sort_unstable.new.self.items c.args.rank c.requires.absent
    (subst (λ xs. IsPermutation xs c.sort_unstable.new.self.items) pushed c.sort_unstable.ensures.permutation) c.sort_unstable.ensures.sorted).0

pub returns-clause-ok : goal.returns-clause-ok
returns-clause-ok c =
    let pushed = c.in_ok-push.ensures.items ∙ ap (λ xs. xs ++ entry_with c.args.e c.args.rank ∷ []) c.make_room.ensures in
    (put_in_order c.args.entries.now.items c.args.e c.requires.ranked c.sort_unstable.new.self.items c.args.rank c.requires.absent
    (subst (λ xs. IsPermutation xs c.sort_unstable.new.self.items) pushed c.sort_unstable.ensures.permutation) c.sort_unstable.ensures.sorted).1
