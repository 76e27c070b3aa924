use Rattle.std.proofs.Common.{ap, ◌∙◌, Some}
use Rattle.finite_maps.specs.Maps.{set}
use Rattle.finite_maps.proofs.TableLaws.{table_updates}
use Rattle.model_state.proofs.Orders.{id_order}
use Rattle.step_apply.proofs.kinds.Kinds.put.Goals as goal

pub returns-clause-ok : goal.returns-clause-ok
returns-clause-ok c =
    table_updates id_order c.self.inside.tree c.insert.new.self c.args.e (Some c.args.class) c.in_ok-insert.ensures.updates.0
    ∙ ap (λ m. set m c.args.e (Some c.args.class)) c.self.view_is
