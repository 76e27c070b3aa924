use Rattle.std.proofs.Common.{sym, ap, ◌∙◌}
use Rattle.std.specs.FinMap.{get, get-empty}
use Rattle.std.specs.Map.{lookup}
use Rattle.std.specs.BTreeMap.{is_at}
use Rattle.model_state.specs.Keys.{id_cmp}
use Rattle.ranked_lists.specs.Ranks.{stood}
use Rattle.step_apply.proofs.places.Places.new.Goals as goal

pub invariant_of-result : goal.invariant_of-result
invariant_of-result c =
    λ p e. ap (λ m. get m e) (c.new-2.ensures p) ∙ get-empty id_cmp e ∙ ap (λ es. stood p (lookup (is_at (id_cmp e)) es)) (sym c.new.ensures.empty)
