-- an element made and put into its list, or neither
use Rattle.std.proofs.Common.{◌≡◌, sym, ap, subst, ◌∙◌}
use Rattle.std.specs.Prelude.{None, Some, IsSome}
use Rattle.std.specs.FinMap.{get}
use Rattle.finite_maps.specs.Maps.{set}
use Rattle.model_state.specs.declared.step.Placed.{Placed}
use Rattle.model_state.specs.Keys.{IdBytes}
use Rattle.model_state.specs.State.{State}
use Rattle.graph_parts.specs.declared.element.Node.{Node}
use Rattle.model_state.proofs.Orders.{id_order}
use Rattle.ranked_lists.specs.Ranks.{Ranks}
use Rattle.model_graph.specs.Seen.{Elements, nodes_state}
use Rattle.model_graph.proofs.Changed.{no_node, there}
use Rattle.model_graph.proofs.Stored.{AreKept, place_there, made_state, made_kept}
use Rattle.finite_maps.proofs.MapLaws.{set_back}
use Rattle.model_graph.proofs.Stored.{made_lists, place_after}
use Rattle.model_graph.proofs.write.GraphWrite.make.Goals as goal

-- a node that was put under the key that is the element's id
put_at : (old : Elements) {new : Elements} (n : Node) {key e : IdBytes} → new ≡ set old key (Some n) → key ≡ e → new ≡ set old e (Some n)
put_at old n put is = put ∙ ap (λ k. set old k (Some n)) is

pub put_new-requires : goal.put_new-requires
put_new-requires c = ap (get c.self.inside.nodes) c.in_ok-key.ensures
    ∙ no_node c.self.inside.nodes c.args.e.now (ap (λ (s : State). get s.kind c.args.e.now) c.self.view_is ∙ c.requires.absent)

pub list_in-requires : goal.list_in-requires
list_in-requires c = place_after c.self.inside.nodes c.put_new.new.self c.in_ok-key.key c.bare.result c.args.place.now c.in_ok-put_new.ensures.ok
    (place_there c.self.inside.nodes c.args.self.now c.args.place.now c.self.view_is c.requires.live)

pub invariant_of-self-in-Ok : goal.invariant_of-self-in-Ok
invariant_of-self-in-Ok c =
    made_kept c.self.inside.roots c.self.inside.nodes c.list_in.new.roots c.list_in.new.nodes c.args.self.now c.args.e.now c.bare.result
    c.self.view_is c.self.invariant c.requires.absent c.bare.ensures.attrs c.bare.ensures.out c.bare.ensures.into c.bare.ensures.inside
    (made_lists c.bare.result c.args.e.now c.args.place.now c.args.rank c.in_ok-id.id c.self.inside.roots c.self.inside.nodes c.put_new.new.self
    c.list_in.new.roots c.list_in.new.nodes c.in_ok-id.ensures
    (ap (λ (p : Placed). p.place) c.bare.ensures.placed ∙ c.in_ok-copy.ensures) (ap (λ (p : Placed). p.rank) c.bare.ensures.placed)
    (put_at c.self.inside.nodes c.bare.result c.in_ok-put_new.ensures.ok c.in_ok-key.ensures) c.in-Ok.ensures.ok)

pub drop_at-requires : goal.drop_at-requires
drop_at-requires c =
    subst (λ (t : Elements). IsSome (get t c.args.e.now)) (sym c.in-Err.ensures.nodes)
    (there c.self.inside.nodes c.put_new.new.self c.args.e.now c.bare.result
    (put_at c.self.inside.nodes c.bare.result c.in_ok-put_new.ensures.ok c.in_ok-key.ensures))

pub invariant_of-self-in-Err : goal.invariant_of-self-in-Err
invariant_of-self-in-Err c =
    let none = no_node c.self.inside.nodes c.args.e.now (ap (λ (s : State). get s.kind c.args.e.now) c.self.view_is ∙ c.requires.absent) in
    let back = c.drop_at.ensures.now
    ∙ ap (λ (t : Elements). set t c.args.e.now None)
    (c.in-Err.ensures.nodes ∙ put_at c.self.inside.nodes c.bare.result c.in_ok-put_new.ensures.ok c.in_ok-key.ensures)
    ∙ set_back id_order c.self.inside.nodes c.args.e.now None (Some c.bare.result) none in
    subst (λ (t : Elements). AreKept c.list_in.new.roots t) (sym back)
    (subst (λ (r : Ranks). AreKept r c.self.inside.nodes) (sym c.in-Err.ensures.roots) c.self.invariant)

pub returns-in-Ok-clause-ok : goal.returns-in-Ok-clause-ok
returns-in-Ok-clause-ok c =
    made_state c.self.inside.roots c.self.inside.nodes c.list_in.new.roots c.list_in.new.nodes c.args.self.now c.args.e.now c.bare.result
    c.self.view_is c.self.invariant c.requires.absent c.bare.ensures.attrs c.bare.ensures.out c.bare.ensures.into c.bare.ensures.inside
    (made_lists c.bare.result c.args.e.now c.args.place.now c.args.rank c.in_ok-id.id c.self.inside.roots c.self.inside.nodes c.put_new.new.self
    c.list_in.new.roots c.list_in.new.nodes c.in_ok-id.ensures
    (ap (λ (p : Placed). p.place) c.bare.ensures.placed ∙ c.in_ok-copy.ensures) (ap (λ (p : Placed). p.rank) c.bare.ensures.placed)
    (put_at c.self.inside.nodes c.bare.result c.in_ok-put_new.ensures.ok c.in_ok-key.ensures) c.in-Ok.ensures.ok)
    ∙ (λ i. record c.args.self.now {
      kind = set c.args.self.now.kind c.args.e.now (Some (c.bare.ensures.class i));
      place =
          set c.args.self.now.place c.args.e.now (Some ((ap (λ (p : Placed). p.place) c.bare.ensures.placed ∙ c.in_ok-copy.ensures) i));
      prank =
          set c.args.self.now.prank c.args.e.now (Some (ap (λ (p : Placed). p.rank) c.bare.ensures.placed i));
    })

pub returns-in-Err-clause-err : goal.returns-in-Err-clause-err
returns-in-Err-clause-err c =
    let none = no_node c.self.inside.nodes c.args.e.now (ap (λ (s : State). get s.kind c.args.e.now) c.self.view_is ∙ c.requires.absent) in
    let back = c.drop_at.ensures.now
    ∙ ap (λ (t : Elements). set t c.args.e.now None)
    (c.in-Err.ensures.nodes ∙ put_at c.self.inside.nodes c.bare.result c.in_ok-put_new.ensures.ok c.in_ok-key.ensures)
    ∙ set_back id_order c.self.inside.nodes c.args.e.now None (Some c.bare.result) none in
    ap nodes_state back ∙ c.self.view_is
