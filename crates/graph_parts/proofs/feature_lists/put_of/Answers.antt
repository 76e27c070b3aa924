use Rattle.std.proofs.Common.{ℕ, nat_eq, sym, ap, ◌∙◌}
use Rattle.std.specs.Prelude.{Some, unwrap_or, position}
use Rattle.std.specs.FinMap.{empty}
use Rattle.std.proofs.lemmas.Result.{on_ok_weaker, on_err_weaker}
use Rattle.finite_maps.specs.Maps.{set}
use Rattle.ranked_lists.specs.Ranks.{Ranks}
use Rattle.graph_parts.specs.Parts.{flat}
use Rattle.graph_parts.proofs.Flat.{get_none}
use Rattle.graph_parts.proofs.feature_lists.put_of.Goals as goal

pub put_at-requires : goal.put_at-requires
put_at-requires c =
    ap (position (λ (x : ℕ × Ranks). nat_eq x.0 c.args.f)) (sym c.as_slice.ensures.value) ∙ sym c.index_of.ensures ∙ c.in-Some.is

pub put_first-requires : goal.put_first-requires
put_first-requires c =
    ap (position (λ (x : ℕ × Ranks). nat_eq x.0 c.args.f)) (sym c.as_slice.ensures.value) ∙ sym c.index_of.ensures ∙ c.in-None.is

pub returns-in-None-clause-ok : goal.returns-in-None-clause-ok
returns-in-None-clause-ok c =
    let xs = c.args.items.now.items in
    let none = get_none c.args.f xs
    (ap (position (λ (x : ℕ × Ranks). nat_eq x.0 c.args.f)) (sym c.as_slice.ensures.value) ∙ sym c.index_of.ensures ∙ c.in-None.is) in
    on_ok_weaker c.put_first.result
    (λ is. is ∙ ap (λ o. set (flat xs) c.args.f (Some (set (unwrap_or o empty) c.args.e (Some c.args.rank)))) (sym none)) c.put_first.ensures.ok

pub returns-in-None-clause-err : goal.returns-in-None-clause-err
returns-in-None-clause-err c = on_err_weaker c.put_first.result (λ is. ap flat is) c.put_first.ensures.err
