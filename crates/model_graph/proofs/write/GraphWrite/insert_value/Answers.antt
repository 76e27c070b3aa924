use Rattle.std.proofs.Common.{ap, ◌∙◌}
use Rattle.std.specs.Prelude.{Some}
use Rattle.std.proofs.lemmas.Result.{on_err_weaker}
use Rattle.finite_maps.specs.Maps.{set}
use Rattle.model_graph.proofs.Values.{same_values}
use Rattle.model_graph.proofs.write.GraphWrite.insert_value.Goals as goal

pub returns-clause-err : goal.returns-clause-err
returns-clause-err c =
    let s = c.args.self.now in
    let e = c.args.e.now in
    let f = c.args.f in
    on_err_weaker c.insert-2.result
    (λ is. ap (λ vs. record s { attr = set s.attr (e, f) (Some vs) }) is ∙ same_values s e f c.values_mut.result.now c.values_mut.ensures.value)
    c.insert-2.ensures.err
