use Rattle.working_model.proofs.Kept.{still_taken}
use Rattle.working_model.proofs.working.Working.take_in_order.Goals as goal

pub kept_up_to-next-requires : goal.kept_up_to-next-requires
kept_up_to-next-requires c = c.self.invariant.from

pub invariant_of-self-2 : goal.invariant_of-self-2
invariant_of-self-2 c =
    still_taken c.args.meta.now c.self.inside.model c.take_in_order.new.model c.args.steps.now c.self.inside.ws c.self.inside.next c.kept_up_to-next.result
    c.kept_up_to-next.ensures.from c.kept_up_to-next.ensures.below c.kept_up_to-next.ensures.kept c.in_ok-take_in_order.ensures.done c.self.invariant
