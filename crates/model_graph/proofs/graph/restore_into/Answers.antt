use Rattle.std.proofs.Common.{sym, subst}
use Rattle.finite_maps.specs.Maps.{set}
use Rattle.model_graph.specs.Seen.{Rewrites}
use Rattle.model_graph.proofs.graph.restore_into.Goals as goal

pub returns-in-None : goal.returns-in-None
returns-in-None c = subst (λ v. Rewrites c.args.nodes.now c.drop_into.new.nodes c.args.b.now (λ n. record n { into = set n.into c.args.key.now v }))
    (sym c.in-None.is) c.drop_into.ensures

pub returns-in-Some : goal.returns-in-Some
returns-in-Some c = subst
    (λ v. Rewrites c.args.nodes.now c.rewrite_into.new.nodes c.args.b.now (λ n. record n { into = set n.into c.args.key.now v }))
    (sym c.in-Some.is) c.rewrite_into.ensures
