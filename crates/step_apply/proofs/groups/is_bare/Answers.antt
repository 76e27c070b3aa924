use Rattle.std.proofs.Common.{sym, ap, ◌∙◌}
use Rattle.std.specs.Ordering.{nat_cmp}
use Rattle.std.specs.Map.{lookup}
use Rattle.std.specs.BTreeMap.{is_at}
use Rattle.std.specs.FinMap.{get, get-empty}
use Rattle.model_state.specs.Keys.{id_cmp}
use Rattle.step_apply.specs.Groups.{fan_of, group_of}
use Rattle.step_apply.proofs.Grouped.{no_items}
use Rattle.step_apply.proofs.groups.is_bare.Goals as goal

pub returns-in-None : goal.returns-in-None
returns-in-None c = λ _ f b. ap (λ o. get (fan_of o f) b) (sym c.in-None.ensures.value) ∙ get-empty id_cmp b

pub returns-in-Some : goal.returns-in-Some
returns-in-Some c = λ yes f b.
    ap (λ o. get (fan_of o f) b) (sym c.in-Some.ensures.value)
    ∙ ap (λ es. get (group_of (lookup (is_at (nat_cmp f)) es)) b) (no_items c.in-Some.fan.now.entries (c.is_empty.ensures.0 yes)) ∙ get-empty id_cmp b
