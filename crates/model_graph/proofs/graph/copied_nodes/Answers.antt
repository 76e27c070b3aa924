use Rattle.std.proofs.Common.{◌≡◌, ◌++◌, ◌∷◌, [], sym, ap, subst, ◌∙◌, take, cond, List}
use Rattle.std.proofs.lemmas.List.{take_more, take_all}
use Rattle.std.specs.Prelude.{None}
use Rattle.std.specs.List.{list_any}
use Rattle.std.specs.Ordering.{eq_by_cmp}
use Rattle.std.specs.FinMap.{get, get-empty}
use Rattle.model_state.specs.Keys.{IdBytes, id_cmp}
use Rattle.model_graph.proofs.Copied.{copied_more, copied_all}
use Rattle.model_graph.proofs.graph.copied_nodes.Goals as goal

pub loop-id-init : goal.loop-id-init
loop-id-init c = λ q. ap (λ m. get m q) c.new-copy.ensures ∙ get-empty id_cmp q

pub loop-id-preserved : goal.loop-id-preserved
loop-id-preserved c =
    let ids = c.args.ids.now in
    let i = c.loop-id.id-index in
    let x = c.id-item.result in
    subst (λ (xs : List IdBytes). (q : IdBytes) → get c.copy_one.new.copy q ≡ cond (list_any (eq_by_cmp id_cmp q) xs) (get c.args.nodes.now q) None)
    (sym (take_more ids i x c.loop-id-test.true ∙ ap (λ y. take i ids ++ y ∷ []) (sym c.id-item.is)))
    (copied_more c.args.nodes.now (take i ids) x c.loop-id.copy c.copy_one.new.copy c.loop-id.invariant c.in_ok-copy_one.ensures)

pub returns : goal.returns
returns c =
    copied_all c.args.nodes.now c.loop-id.copy
    (subst (λ (xs : List IdBytes). (q : IdBytes) → get c.loop-id.copy q ≡ cond (list_any (eq_by_cmp id_cmp q) xs) (get c.args.nodes.now q) None)
    (take_all c.loop-id.id-index c.args.ids.now c.loop-id-test.false ∙ c.requires) c.loop-id.invariant)
