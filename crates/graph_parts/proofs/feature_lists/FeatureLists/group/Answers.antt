use Rattle.std.proofs.Common.{ℕ, nat_eq, sym, ap, ◌∙◌}
use Rattle.std.specs.Prelude.{unwrap_or, position}
use Rattle.std.specs.FinMap.{get, empty}
use Rattle.model_state.specs.Keys.{id_cmp}
use Rattle.ranked_lists.specs.Ranks.{Ranks}
use Rattle.graph_parts.specs.Parts.{flat}
use Rattle.graph_parts.proofs.Flat.{get_none, written_at}
use Rattle.graph_parts.proofs.ListLaws.{get_list, in_group}
use Rattle.graph_parts.proofs.feature_lists.FeatureLists.group.Goals as goal

pub returns-in-None : goal.returns-in-None
returns-in-None c = λ e.
    let xs = c.self.inside.items.items in
    let none = get_none c.args.f xs
    (ap (position (λ (x : ℕ × Ranks). nat_eq x.0 c.args.f)) (sym c.as_slice.ensures.value) ∙ sym c.index_of.ensures ∙ c.in-None.is) in
    ap (λ o. get (unwrap_or o (empty {R = id_cmp})) e) (sym none)
    ∙ in_group (get (flat xs) c.args.f) e ∙ sym (get_list xs c.args.f e) ∙ ap (λ m. get m (c.args.f, e)) c.self.view_is

pub returns-in-Some : goal.returns-in-Some
returns-in-Some c = λ e.
    let xs = c.self.inside.items.items in
    let some = (written_at c.args.f xs c.in-Some.at c.index.result.now c.index.ensures
    (ap (position (λ (x : ℕ × Ranks). nat_eq x.0 c.args.f)) (sym c.as_slice.ensures.value) ∙ sym c.index_of.ensures ∙ c.in-Some.is)).0 in
    ap (λ o. get (unwrap_or o (empty {R = id_cmp})) e) (sym some)
    ∙ in_group (get (flat xs) c.args.f) e ∙ sym (get_list xs c.args.f e) ∙ ap (λ m. get m (c.args.f, e)) c.self.view_is
