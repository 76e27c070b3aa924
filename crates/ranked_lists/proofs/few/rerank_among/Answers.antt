use Rattle.std.proofs.Common.{ap, subst, ◌∙◌}
use Rattle.std.specs.Prelude.{slice_set}
use Rattle.std.specs.List.Sorted.{IsPermutation}
use Rattle.model_state.specs.declared.entry.Entry.{Entry}
use Rattle.model_state.specs.Keys.{IdBytes}
use Rattle.ranked_lists.specs.Ranked.{entry_with}
use Rattle.ranked_lists.proofs.Places.{place_some, index_is}
use Rattle.ranked_lists.proofs.Taken.{moved_in}
use Rattle.ranked_lists.proofs.few.rerank_among.Goals as goal

pub returns-clause-ranked : goal.returns-clause-ranked
returns-clause-ranked c =
    let items = c.args.entries.now.items in
    let old = place_some items c.args.e.now c.args.at c.requires.at in
    let id = ap (λ (x : Entry). x.id) (c.index_mut.ensures.value ∙ index_is items c.args.at c.index_mut.result.now old.0 old.1) ∙ old.2 in
    (moved_in items c.args.e.now c.requires.ranked c.args.at c.requires.at c.sort_unstable.new.self.items c.args.rank
    (subst (λ (z : IdBytes). IsPermutation (slice_set items c.args.at (entry_with z c.args.rank)) c.sort_unstable.new.self.items) id
    c.sort_unstable.ensures.permutation) c.sort_unstable.ensures.sorted).0

pub returns-clause-ranks : goal.returns-clause-ranks
returns-clause-ranks c =
    let items = c.args.entries.now.items in
    let old = place_some items c.args.e.now c.args.at c.requires.at in
    let id = ap (λ (x : Entry). x.id) (c.index_mut.ensures.value ∙ index_is items c.args.at c.index_mut.result.now old.0 old.1) ∙ old.2 in
    (moved_in items c.args.e.now c.requires.ranked c.args.at c.requires.at c.sort_unstable.new.self.items c.args.rank
    (subst (λ (z : IdBytes). IsPermutation (slice_set items c.args.at (entry_with z c.args.rank)) c.sort_unstable.new.self.items) id
    c.sort_unstable.ensures.permutation) c.sort_unstable.ensures.sorted).1
