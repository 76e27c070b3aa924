use Rattle.std.proofs.Common.{◌<◌, ◌^◌, sym, ap, ◌∙◌, arith}
use Rattle.std.specs.Prelude.{is_some}
use Rattle.model_state.specs.Ident.{is_id}
use Rattle.model_state.specs.State.{is_live}
use Rattle.edits.proofs.Fresh.{first_is_fresh}
use Rattle.working_model.proofs.working.free_from.Goals as goal

pub returns-then-is_none-clause-id : goal.returns-then-is_none-clause-id
returns-then-is_none-clause-id c =
    let m = c.args.model.now in
    let k = c.loop-k.k in
    let small : k < 2 ^ 64 = omega (arith, c.loop-k-test.true) in
    c.in_ok-id.ensures.id ∙ sym (first_is_fresh m c.args.ws k small (record {
      from = c.loop-k.invariant.from;
      free = ap (is_live m) (sym c.in_ok-id.ensures.id) ∙ ap is_some (sym c.class.ensures) ∙ c.if-is_none.ensures;
      before = c.loop-k.invariant.taken;
    }))

pub returns-then-is_none-clause-form : goal.returns-then-is_none-clause-form
returns-then-is_none-clause-form c = ap is_id (sym (returns-then-is_none-clause-id c) ∙ c.in_ok-id.ensures.id) ∙ c.in_ok-id.ensures.form
