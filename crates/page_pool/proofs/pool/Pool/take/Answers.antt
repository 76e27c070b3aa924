use Rattle.std.proofs.Common.{ℕ, List, Option, set, refl, sym, subst, vec_capacity}
use Rattle.page_pool.specs.Frames.{IsTaken, zeros}
use Rattle.page_pool.specs.Region.{IsSound}
use Rattle.page_pool.proofs.Steps.{taken_sound, is_taken}
use Rattle.page_pool.proofs.pool.Pool.take.Goals as goal

pub invariant_of-self-2 : goal.invariant_of-self-2
invariant_of-self-2 c =
    subst (λ (o : Option (List ℕ)). IsSound (set c.self.inside.slots.items c.in_ok-number.number o) c.pop.new.self.items (vec_capacity c.pop.new.self))
    (sym c.take.ensures)
    (taken_sound c.self.inside.slots.items c.self.inside.free.items c.pop.new.self.items c.in_ok-number.number (vec_capacity c.self.inside.free)
    (vec_capacity c.pop.new.self) zeros c.self.invariant c.in_ok-number.ensures.items c.pop.ensures.capacity)

pub returns-clause-some : goal.returns-clause-some
returns-clause-some c =
    subst (λ (o : Option (List ℕ)). IsTaken c.args.self.now (set c.self.inside.slots.items c.in_ok-number.number o) c.in_ok-number.number)
    (sym c.take.ensures)
    (is_taken c.args.self.now c.self.inside.slots.items c.self.inside.free.items c.pop.new.self.items c.in_ok-number.number
    (vec_capacity c.self.inside.free) zeros c.self.view_is c.self.invariant c.in_ok-number.ensures.items refl)
