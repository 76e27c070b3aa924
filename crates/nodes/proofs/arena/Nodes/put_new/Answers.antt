-- a new id and its slot
use Rattle.std.proofs.Common.{cond, sym, ap, ◌∙◌}
use Rattle.std.specs.Prelude.{Some}
use Rattle.std.specs.Map.{lookup}
use Rattle.slab.specs.Slab as slab
use Rattle.finite_maps.specs.Equal.{text_eq}
use Rattle.finite_maps.specs.Maps.{set}
use Rattle.nodes.specs.Tied.{named}
use Rattle.nodes.proofs.Named.{updates-text}
use Rattle.nodes.proofs.Slots.{added, added_tied}
use Rattle.nodes.proofs.arena.Nodes.put_new.Goals as goal

pub invariant_of-self-2 : goal.invariant_of-self-2
invariant_of-self-2 g c =
    let a = c.self.inside in
    let e = c.args.e in
    let s = a.slots in
    let t = c.insert_reserved.new.self in
    let kept = c.reserve.ensures.rest_kept in
    let same = c.insert_reserved.ensures.key ∙ sym c.vacant_key-at.ensures.value in
    added_tied (named a.ids.entries) s e c.self.invariant (named c.insert.new.self.entries) t c.insert_reserved.result c.args.value
    (ap (λ s. slab.get s c.insert_reserved.result) (sym kept) ∙ c.insert_reserved.ensures.was_vacant)
    (λ q. updates-text a.ids c.insert.new.self e _ (c.in_ok-text.ensures.ok ∙ c.as_str.ensures.bytes) _ c.in_ok-insert.ensures.updates q
    ∙ ap (λ i. cond (text_eq e q) (Some i) (lookup (text_eq q) (named a.ids.entries))) (sym same))
    c.insert_reserved.ensures.updates.changed
    (λ i differ. c.insert_reserved.ensures.updates.others i differ ∙ ap (λ s. slab.get s i) kept)

pub returns-clause-ok : goal.returns-clause-ok
returns-clause-ok g c =
    let a = c.self.inside in
    let e = c.args.e in
    let s = a.slots in
    let t = c.insert_reserved.new.self in
    let kept = c.reserve.ensures.rest_kept in
    let same = c.insert_reserved.ensures.key ∙ sym c.vacant_key-at.ensures.value in
    added (named a.ids.entries) s e c.self.invariant (named c.insert.new.self.entries) t c.insert_reserved.result c.args.value
    (ap (λ s. slab.get s c.insert_reserved.result) (sym kept) ∙ c.insert_reserved.ensures.was_vacant)
    (λ q. updates-text a.ids c.insert.new.self e _ (c.in_ok-text.ensures.ok ∙ c.as_str.ensures.bytes) _ c.in_ok-insert.ensures.updates q
    ∙ ap (λ i. cond (text_eq e q) (Some i) (lookup (text_eq q) (named a.ids.entries))) (sym same))
    c.insert_reserved.ensures.updates.changed
    (λ i differ. c.insert_reserved.ensures.updates.others i differ ∙ ap (λ s. slab.get s i) kept)
    ∙ ap (λ m. set m e (Some c.args.value)) c.self.view_is
