-- an element that stands somewhere gets the rank there
use Rattle.std.proofs.Common.{◌≡◌, true, refl, sym, ap, ◌∙◌, Bor}
use Rattle.std.proofs.lemmas.Result.{on_ok_weaker}
use Rattle.std.specs.Prelude.{Option, None, Some, is_some}
use Rattle.std.specs.Option.{option_copied, option_map}
use Rattle.std.specs.FinMap.{get}
use Rattle.model_state.specs.declared.step.Placed.{Placed}
use Rattle.step_apply.proofs.write.PlainWrite.rerank.Goals as goal

rank_there : (o : Option (Bor Placed)) → is_some o ≡ is_some (option_map (λ (p : Placed). p.rank) (option_copied o))
rank_there None = refl
rank_there (Some p) = refl

pub returns-then-is_some-clause-ok : goal.returns-then-is_some-clause-ok
returns-then-is_some-clause-ok c =
    let there : is_some (get c.args.self.now.places.rank c.args.e.now) ≡ true =
    ap is_some (sym c.find.ensures.rank) ∙ sym (rank_there c.find.result) ∙ sym c.is_some.ensures ∙ c.if-is_some.true in
    on_ok_weaker c.rerank.result (λ written i. record {
      kind = c.args.self.now.kinds;
      place = c.rerank.ensures.place i;
      prank = written there i;
      attr = c.args.self.now.attrs;
      row = c.args.self.now.rows;
    }) c.rerank.ensures.rank
