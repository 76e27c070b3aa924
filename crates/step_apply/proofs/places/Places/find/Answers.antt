use Rattle.std.proofs.Common.{sym, ap, ◌∙◌}
use Rattle.std.specs.FinMap.{get}
use Rattle.finite_maps.proofs.TableLaws.{get-table_of}
use Rattle.model_state.proofs.Orders.{id_order}
use Rattle.std.specs.Option.{option_map}
use Rattle.step_apply.proofs.places.Places.find.Goals as goal

pub returns-clause-place : goal.returns-clause-place
returns-clause-place c =
    ap (option_map (λ p. p.place)) c.get.ensures.value ∙ sym (get-table_of id_order (λ p. p.place) c.self.inside.tree c.args.e.now)
    ∙ ap (λ m. get m.place c.args.e.now) c.self.view_is

pub returns-clause-rank : goal.returns-clause-rank
returns-clause-rank c =
    ap (option_map (λ p. p.rank)) c.get.ensures.value ∙ sym (get-table_of id_order (λ p. p.rank) c.self.inside.tree c.args.e.now)
    ∙ ap (λ m. get m.rank c.args.e.now) c.self.view_is
