use Rattle.std.proofs.Common.{sym, ap, ◌∙◌, [], ◌∷◌}
use Rattle.std.specs.Prelude.{Some, unwrap_or}
use Rattle.finite_maps.specs.Equal.{list_eq}
use Rattle.model_state.specs.Listing.{values_at}
use Rattle.model_state.specs.Steps.{single}
use Rattle.model_state.specs.Typing.{value_eq}
use Rattle.step_rules.proofs.OneValue.{one_value}
use Rattle.step_rules.proofs.values.is_just.Goals as goal

pub returns-then-attr_len-eq1 : goal.returns-then-attr_len-eq1
returns-then-attr_len-eq1 g c =
    let vs = values_at (g.S.Look.state c.args.model.now) c.args.e.now c.args.f in
    c.has_at.ensures ∙ one_value vs c.in-Some.v (sym c.attr_len-in-Some.ensures ∙ c.if-attr_len-eq1.true)
    ∙ ap (λ o. list_eq value_eq vs (unwrap_or (single o) [])) (sym c.in-Some.is)
