use Rattle.std.proofs.Common.{◌≡◌, sym, ap, subst, ◌∙◌, List, map, ℕ}
use Rattle.std.specs.Prelude.{IfOk}
use Rattle.std.specs.FinMap.{keys}
use Rattle.finite_maps.proofs.TableLaws.{entries-table}
use Rattle.model_state.specs.Keys.{IdBytes}
use Rattle.model_state.proofs.Orders.{id_order}
use Rattle.step_apply.proofs.kinds.Kinds.ids.Goals as goal

pub returns : goal.returns
returns c =
    subst (λ ks. IfOk c.keys_of.result (λ l. l ≡ ks))
    (ap (λ (es : List (IdBytes × ℕ)). map (λ e. e.0) es) (sym (entries-table id_order c.self.inside.tree c.keys_of.ensures.ordered)) ∙ ap keys c.self.view_is)
    c.keys_of.ensures.keys
