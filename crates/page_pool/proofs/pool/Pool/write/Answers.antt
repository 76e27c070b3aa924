use Rattle.std.proofs.Common.{ℕ, List, Option, set, sym, subst, arith, vec_capacity}
use Rattle.std.specs.Prelude.{IfSome}
use Rattle.page_pool.specs.Frames.{IsWritten, frame_at, overwritten}
use Rattle.page_pool.specs.Region.{IsSound}
use Rattle.page_pool.proofs.Steps.{out_within, written_sound, is_changed}
use Rattle.page_pool.proofs.pool.Pool.write.Goals as goal

pub index_mut-requires : goal.index_mut-requires
index_mut-requires c = let w =
    out_within c.args.self.now c.self.inside.slots.items c.args.frame.now c.frame.inside.number c.self.view_is c.frame.view_is c.requires.out
    in omega (arith, w)

pub invariant_of-self : goal.invariant_of-self
invariant_of-self c =
    let changed =
    is_changed c.args.self.now c.self.inside.slots.items c.args.frame.now c.frame.inside.number c.self.view_is c.frame.view_is c.requires.out
    c.index_mut.result.now c.write.new.self c.args.at c.args.bytes.now c.index_mut.ensures.value c.write.ensures in
    subst (λ (o : Option (List ℕ)). IsSound (set c.self.inside.slots.items c.frame.inside.number o) c.self.inside.free.items
    (vec_capacity c.self.inside.free)) (sym changed.1)
    (written_sound c.args.self.now c.self.inside.slots.items c.args.frame.now c.frame.inside.number c.self.view_is c.frame.view_is
    c.requires.out c.self.inside.free.items (vec_capacity c.self.inside.free) changed.0 c.self.invariant)

pub returns : goal.returns
returns c = record {
  written =
      let changed =
      is_changed c.args.self.now c.self.inside.slots.items c.args.frame.now c.frame.inside.number c.self.view_is c.frame.view_is c.requires.out
      c.index_mut.result.now c.write.new.self c.args.at c.args.bytes.now c.index_mut.ensures.value c.write.ensures in
      subst (λ (o : Option (List ℕ)). IfSome (frame_at c.args.self.now c.args.frame.now)
      (λ old. IsWritten c.args.self.now (set c.self.inside.slots.items c.frame.inside.number o) c.args.frame.now (overwritten old c.args.at c.args.bytes.now)))
      (sym changed.1) changed.2;
}
