-- all that interfere with it are reached
use Rattle.std.proofs.Common.{ℕ, Bool, List, [], false, sym, ap, subst, ◌∙◌, get_or}
use Rattle.std.specs.List.{Contains}
use Rattle.std.proofs.lemmas.Grind.{get_or_default_zero}
use Rattle.cell_index.specs.Draining.{ListsUnflagged}
use Rattle.cell_index.proofs.Drained.{lists_fewer}
use Rattle.conflict_buckets.proofs.Spreading.{near_linked, passed_one, all_reached}
use Rattle.conflict_buckets.proofs.labelling.Labels.pass.Goals as goal

pub reach_all-requires-clause-there : goal.reach_all-requires-clause-there
reach_all-requires-clause-there c = λ k on. (c.in_ok-near.ensures.met k (subst (λ (l : List ℕ). Contains l k) c.deref-2.ensures.value on)).low

pub reach_all-requires-clause-linked : goal.reach_all-requires-clause-linked
reach_all-requires-clause-linked c = λ k on.
    let order = c.args.self.now.order.items in
    let place = c.index.result.now in
    let place_is = c.index.ensures ∙ get_or_default_zero order c.args.at place c.requires.there in
    near_linked c.args.prints.now c.args.label c.args.at place c.args.self.now.labels.items c.args.self.now.reached.items order
    c.index-prints-place.result c.in_ok-near.near.items c.requires.spread c.requires.there place_is c.index-prints-place.is c.in_ok-near.ensures.met
    k (subst (λ (l : List ℕ). Contains l k) c.deref-2.ensures.value on)

pub returns-clause-spread : goal.returns-clause-spread
returns-clause-spread c =
    let prints = c.args.prints.now in
    let order = c.args.self.now.order.items in
    let place = c.index.result.now in
    let place_is = c.index.ensures ∙ get_or_default_zero order c.args.at place c.requires.there in
    let made = c.in_ok-reach_all.ensures in
    let longer = c.reach_all.new.self.order.items in
    let more = c.reach_all.new.self.reached.items in
    passed_one prints c.args.label c.args.at c.reach_all.new.self.labels.items more longer made.spread (made.further.stands c.args.at c.requires.there).0
    (all_reached prints c.args.label c.args.at place c.args.self.now.labels.items c.args.self.now.reached.items more order longer
    c.index-prints-place.result c.in_ok-near.near.items c.requires.spread c.requires.there place_is c.index-prints-place.is
    (λ k off met. c.in_ok-near.ensures.found k (ap (λ (l : List Bool). get_or l k false) c.deref.ensures.value ∙ off) met)
    (λ k on. made.all k (subst (λ (l : List ℕ). Contains l k) (sym c.deref-2.ensures.value) on))
    made.further)

pub returns-clause-index : goal.returns-clause-index
returns-clause-index c =
    let made = c.in_ok-reach_all.ensures in
    let flags = c.args.self.now.reached.items in
    let more = c.reach_all.new.self.reached.items in
    let taken = c.in_ok-near.near.items in
    lists_fewer c.take_met.new.self c.args.prints.now flags more taken made.further.kept
    (λ k on. made.all k (subst (λ (l : List ℕ). Contains l k) (sym c.deref-2.ensures.value) on))
    (subst (λ (l : List Bool). ListsUnflagged c.take_met.new.self c.args.prints.now l taken) c.deref.ensures.value c.in_ok-near.ensures.index)

pub take_met-requires : goal.take_met-requires
take_met-requires c = record {
  index = subst (λ (l : List Bool). ListsUnflagged c.args.index.now c.args.prints.now l []) (sym c.deref.ensures.value) c.requires.index;
}
