use Rattle.std.proofs.Common.{ap, ◌∙◌}
use Rattle.std.specs.Prelude.{Some}
use Rattle.std.proofs.lemmas.Result.{on_ok_weaker, on_err_weaker}
use Rattle.finite_maps.specs.Maps.{set}
use Rattle.graph_parts.specs.Parts.{AreFilled}
use Rattle.graph_parts.proofs.ListLaws.{list_put, filled_put, filled_alike, list_alike}
use Rattle.graph_parts.proofs.Results.{by_result}
use Rattle.graph_parts.proofs.feature_lists.FeatureLists.put.Goals as goal

pub invariant_of-self : goal.invariant_of-self
invariant_of-self c =
    by_result (AreFilled c.put_of.new.items.items) c.put_of.result c.put_of.ensures.ok c.put_of.ensures.err
    (λ is. filled_put c.self.inside.items.items c.put_of.new.items.items c.args.f c.args.e c.args.rank c.self.invariant is)
    (λ is. filled_alike c.self.inside.items.items c.put_of.new.items.items c.self.invariant is)

pub returns-clause-err : goal.returns-clause-err
returns-clause-err c = on_err_weaker c.put_of.result
    (λ is. list_alike c.self.inside.items.items c.put_of.new.items.items is ∙ c.self.view_is) c.put_of.ensures.err

pub returns-clause-ok : goal.returns-clause-ok
returns-clause-ok c =
    on_ok_weaker c.put_of.result (λ is. list_put c.self.inside.items.items c.put_of.new.items.items c.args.f c.args.e c.args.rank is
    ∙ ap (λ m. set m (c.args.f, c.args.e) (Some c.args.rank)) c.self.view_is) c.put_of.ensures.ok
