use Rattle.std.proofs.Common.{sym, ap, ◌∙◌}
use Rattle.std.specs.FinMap.{get, get-empty}
use Rattle.spread_maps.proofs.BareLaws.{bare_none}
use Rattle.model_state.specs.Keys.{id_cmp}
use Rattle.model_state.proofs.Orders.{id_order}
use Rattle.step_apply.specs.Groups.{group_of}
use Rattle.step_apply.proofs.groups.is_empty_of.Goals as goal

pub returns-in-None : goal.returns-in-None
returns-in-None c = λ _ b. ap (λ o. get (group_of o) b) (sym c.in-None.ensures.value) ∙ get-empty id_cmp b

pub returns-in-Some : goal.returns-in-Some
returns-in-Some c = λ yes b. ap (λ o. get (group_of o) b) (sym c.in-Some.ensures.value)
    ∙ bare_none id_order c.in-Some.group.now (sym c.is_empty.ensures ∙ yes) b
