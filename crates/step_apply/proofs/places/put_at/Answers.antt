use Rattle.std.proofs.Common.{◌≡◌, sym, ap, subst, ◌∙◌, false}
use Rattle.std.specs.Prelude.{Some, None}
use Rattle.std.specs.FinMap.{get}
use Rattle.finite_maps.specs.Maps.{set}
use Rattle.finite_maps.proofs.TableLaws.{table_of_updates}
use Rattle.model_state.specs.State.{place_eq}
use Rattle.model_state.proofs.Orders.{id_order}
use Rattle.ranked_lists.specs.Ranks.{stood}
use Rattle.step_apply.specs.Groups.{standing}
use Rattle.step_apply.proofs.Regrouped.{regrouped, same_grouped, into_one, undone}
use Rattle.step_apply.proofs.places.put_at.Goals as goal

-- where the tree takes no element more, the list gives it back
pub returns-in-Err-clause-grouped : goal.returns-in-Err-clause-grouped
returns-in-Err-clause-grouped c = λ is.
    let groups = c.args.groups.now in
    let own = ap (λ s. s.0) c.requires in
    same_grouped c.args.tree.now c.insert.new.self groups c.drop_at.new.self is c.in-Err.ensures.err
    (undone (standing c.drop_at.new.self) (standing c.list_at.new.groups) (standing groups) c.args.spot.now.1 c.args.spot.now.0 c.args.placed.rank
    (ap (get (standing groups c.args.spot.now.1)) own ∙ is c.args.spot.now.1 c.args.e ∙ ap (stood c.args.spot.now.1) c.in-Err.ensures.absent)
    c.in_ok-list_at.ensures.here c.in_ok-list_at.ensures.there c.drop_at.ensures.here c.drop_at.ensures.there)

-- the element is in the list of the place, and in no other
pub returns-clause-grouped : goal.returns-clause-grouped
returns-clause-grouped c = λ is.
    let groups = c.args.groups.now in
    let to = c.args.spot.now.1 in
    let own = c.args.spot.now.0 in
    let same_id : own ≡ c.args.e = ap (λ s. s.0) c.requires in
    let same_place : to ≡ c.args.placed.place = ap (λ s. s.1) c.requires in
    regrouped c.args.tree.now c.insert.new.self groups c.leave_for.new.groups c.args.e (Some c.args.placed) is c.in-Ok.ensures.updates.0
    (into_one (standing c.leave_for.new.groups) (standing groups) c.args.e c.args.placed
    (subst (λ z. standing c.leave_for.new.groups z ≡ set (standing groups z) c.args.e (Some c.args.placed.rank)) same_place
    (c.leave_for.ensures.here ∙ c.in_ok-list_at.ensures.here ∙ ap (λ z. set (standing groups to) z (Some c.args.placed.rank)) same_id))
    (λ p else.
    let else' = subst (λ z. place_eq z p ≡ false) (sym same_place) else in
    c.leave_for.ensures.there
    (λ q apart. ap (λ m. get m own) (c.in_ok-list_at.ensures.there q apart) ∙ ap (get (standing groups q)) same_id ∙ is q c.args.e
    ∙ ap (stood q) (sym c.in-Ok.ensures.old)) p else'
    ∙ (λ i. set (c.in_ok-list_at.ensures.there p else' i) (same_id i) None)))

pub returns-clause-place : goal.returns-clause-place
returns-clause-place c = table_of_updates id_order (λ p. p.place) c.args.tree.now c.insert.new.self c.args.e (Some c.args.placed) c.in-Ok.ensures.updates.0

pub returns-clause-rank : goal.returns-clause-rank
returns-clause-rank c = table_of_updates id_order (λ p. p.rank) c.args.tree.now c.insert.new.self c.args.e (Some c.args.placed) c.in-Ok.ensures.updates.0
