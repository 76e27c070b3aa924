use Rattle.std.proofs.Common.{sym, ap, ◌∙◌}
use Rattle.std.specs.Prelude.{position}
use Rattle.finite_maps.specs.Equal.{text_eq}
use Rattle.model_state.specs.declared.entry.Entry.{Entry}
use Rattle.ranked_lists.proofs.Places.{place_none}
use Rattle.ranked_lists.proofs.few.put_among.Goals as goal

pub rerank_among-requires-clause-at : goal.rerank_among-requires-clause-at
rerank_among-requires-clause-at c =
    ap (position (λ (x : Entry). text_eq x.id c.args.e)) (sym c.as_slice.ensures.value) ∙ sym c.index_of.ensures ∙ c.in-Some.is

pub add_among-requires-clause-absent : goal.add_among-requires-clause-absent
add_among-requires-clause-absent c =
    place_none c.args.entries.now.items c.args.e
    (ap (position (λ (x : Entry). text_eq x.id c.args.e)) (sym c.as_slice.ensures.value) ∙ sym c.index_of.ensures ∙ c.in-None.is)
