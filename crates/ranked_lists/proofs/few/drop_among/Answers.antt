use Rattle.std.proofs.Common.{sym, ap, ◌∙◌}
use Rattle.std.specs.Prelude.{None, position}
use Rattle.finite_maps.specs.Equal.{text_eq}
use Rattle.finite_maps.proofs.MapLaws.{set_here}
use Rattle.model_state.specs.declared.entry.Entry.{Entry}
use Rattle.model_state.proofs.Orders.{id_order}
use Rattle.ranked_lists.specs.Ranked.{rank_map}
use Rattle.ranked_lists.proofs.Held.{get-ranks}
use Rattle.ranked_lists.proofs.Places.{place_none}
use Rattle.ranked_lists.proofs.Taken.{taken_out}
use Rattle.ranked_lists.proofs.few.drop_among.Goals as goal

pub returns-in-Some-clause-ranked : goal.returns-in-Some-clause-ranked
returns-in-Some-clause-ranked c =
    let found = ap (position (λ (x : Entry). text_eq x.id c.args.e.now)) (sym c.as_slice.ensures.value) ∙ sym c.index_of.ensures ∙ c.in-Some.is in
    (taken_out c.args.entries.now.items c.args.e.now c.requires c.in-Some.at found c.remove.new.self.items c.remove.ensures.items).0

pub returns-in-Some-clause-ranks : goal.returns-in-Some-clause-ranks
returns-in-Some-clause-ranks c =
    let found = ap (position (λ (x : Entry). text_eq x.id c.args.e.now)) (sym c.as_slice.ensures.value) ∙ sym c.index_of.ensures ∙ c.in-Some.is in
    (taken_out c.args.entries.now.items c.args.e.now c.requires c.in-Some.at found c.remove.new.self.items c.remove.ensures.items).1

pub returns-in_default-clause-ranks : goal.returns-in_default-clause-ranks
returns-in_default-clause-ranks c =
    let items = c.args.entries.now.items in
    let none = ap (position (λ (x : Entry). text_eq x.id c.args.e.now)) (sym c.as_slice.ensures.value) ∙ sym c.index_of.ensures ∙ c.in_default.is in
    sym (set_here id_order (rank_map items) c.args.e.now None (get-ranks items c.args.e.now ∙ place_none items c.args.e.now none))
