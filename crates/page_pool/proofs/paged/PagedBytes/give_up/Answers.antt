use Rattle.std.proofs.Common.{◌∷◌, [], ℕ, List, subst}
use Rattle.page_pool.specs.Paged.{AreOut}
use Rattle.page_pool.proofs.Among.{out_back}
use Rattle.page_pool.proofs.Giving.{one_given}
use Rattle.page_pool.proofs.paged.PagedBytes.give_up.Goals as goal

pub give-requires : goal.give-requires
give-requires c = record {
  out =
      (out_back c.loop-frame.pool c.pop.new.self.items (c.in-Some.frame ∷ [])
      (subst (λ (l : List ℕ). AreOut c.loop-frame.pool l) c.in-Some.ensures.items c.loop-frame.invariant.out)).0;
}

pub loop-frame-preserved : goal.loop-frame-preserved
loop-frame-preserved c =
    one_given c.args.pool.now c.loop-frame.pool c.give.new.self c.args.self.frames c.loop-frame.frames.items c.pop.new.self.items c.in-Some.frame
    c.loop-frame.invariant c.in-Some.ensures.items c.give.ensures.given
