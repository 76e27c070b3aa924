use Rattle.std.proofs.Common.{◌≡◌, ap, ◌∙◌, true, arith, inl, inr}
use Rattle.finite_maps.proofs.Cases.{true_false}
use Rattle.model_state.specs.Ident.{is_id}
use Rattle.edits.specs.FreshIds.{numbered}
use Rattle.edits.proofs.Fresh.{numbered_is_id}
use Rattle.edits.proofs.fresh_ids.numbered_id.Goals as goal

pub returns-in-Ok-clause-id : goal.returns-in-Ok-clause-id
unfolding numbered
returns-in-Ok-clause-id c = c.in-Ok.ensures.read ∙ c.as_str.ensures.value ∙ c.in_ok-text.ensures.ok

pub returns-in-Ok-clause-form : goal.returns-in-Ok-clause-form
returns-in-Ok-clause-form c = numbered_is_id c.args.ws c.args.k (omega (arith, c.ranges.ws.fits)) (omega (arith, c.ranges.k.fits))

pub unreachable-requires : goal.unreachable-requires
unfolding numbered
unreachable-requires c =
    let text : c.as_str.result.now ≡ numbered c.args.ws c.args.k = c.as_str.ensures.value ∙ c.in_ok-text.ensures.ok in
    let form : is_id c.as_str.result.now ≡ true =
    ap is_id text ∙ numbered_is_id c.args.ws c.args.k (omega (arith, c.ranges.ws.fits)) (omega (arith, c.ranges.k.fits)) in
    elim c.in-Err-Bad.ensures.refused [ inl memory ↦ cc | inr bad ↦ true_false (is_id c.as_str.result.now) form bad.1 ]
