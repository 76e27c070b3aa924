use Rattle.std.proofs.Common.{ℕ, List, Option, set, sym, subst, arith, vec_capacity}
use Rattle.page_pool.specs.Frames.{IsGiven}
use Rattle.page_pool.specs.Region.{IsSound}
use Rattle.page_pool.proofs.Steps.{out_within, has_room, given_sound, is_given}
use Rattle.page_pool.proofs.pool.Pool.give.Goals as goal

pub index_mut-requires : goal.index_mut-requires
index_mut-requires c = let w =
    out_within c.args.self.now c.self.inside.slots.items c.args.frame c.frame.inside.number c.self.view_is c.frame.view_is c.requires.out
    in omega (arith, w)

pub push_reserved-requires : goal.push_reserved-requires
push_reserved-requires c = let r =
    has_room c.args.self.now c.self.inside.slots.items c.args.frame c.frame.inside.number c.self.view_is c.frame.view_is c.requires.out
    c.self.inside.free.items (vec_capacity c.self.inside.free) c.self.invariant in omega (arith, r)

pub invariant_of-self : goal.invariant_of-self
invariant_of-self c =
    subst (λ (o : Option (List ℕ)). IsSound (set c.self.inside.slots.items c.frame.inside.number o) c.push_reserved.new.self.items
    (vec_capacity c.push_reserved.new.self)) (sym c.give.ensures)
    (given_sound c.args.self.now c.self.inside.slots.items c.args.frame c.frame.inside.number c.self.view_is c.frame.view_is
    c.requires.out c.self.inside.free.items c.push_reserved.new.self.items (vec_capacity c.self.inside.free)
    (vec_capacity c.push_reserved.new.self) c.self.invariant c.push_reserved.ensures.items c.push_reserved.ensures.capacity)

pub returns : goal.returns
returns c = record {
  given =
      subst (λ (o : Option (List ℕ)). IsGiven c.args.self.now (set c.self.inside.slots.items c.frame.inside.number o) c.args.frame) (sym c.give.ensures)
      (is_given c.args.self.now c.self.inside.slots.items c.args.frame c.frame.inside.number c.self.view_is c.frame.view_is c.requires.out);
}
