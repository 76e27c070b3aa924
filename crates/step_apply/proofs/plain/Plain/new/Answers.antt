-- the empty state is good
use Rattle.std.proofs.Common.{◌≡◌, sym, subst}
use Rattle.model_state.specs.State.{State, nothing}
use Rattle.model_state.specs.Good.{Good}
use Rattle.model_laws.proofs.Start.{starts_good}
use Rattle.step_apply.proofs.plain.Plain.new.Goals as goal

pub returns-clause-good : goal.returns-clause-good
returns-clause-good c =
    let made : State = record { kind = c.new.result; place = c.new-2.result.place; prank = c.new-2.result.rank; attr = c.new-3.result; row = c.new-4.result } in
    let empty : made ≡ nothing =
    λ i. record {
      kind = c.new.ensures i;
      place = c.new-2.ensures.place i;
      prank = c.new-2.ensures.rank i;
      attr = c.new-3.ensures i;
      row =
          c.new-4.ensures i;
    } in
    λ meta. subst (λ m. Good meta m) (sym empty) (starts_good meta)
