use Rattle.std.proofs.Common.{sym, ap, subst, ◌∙◌}
use Rattle.std.specs.Prelude.{None, Some}
use Rattle.std.proofs.lemmas.Result.{on_ok_weaker}
use Rattle.finite_maps.specs.Maps.{set}
use Rattle.model_graph.specs.Seen.{Elements}
use Rattle.model_graph.proofs.Linked.{live_there}
use Rattle.graph_parts.proofs.Results.{by_result}
use Rattle.model_graph.proofs.Stored.{AreKept, attr_state, attr_kept, entry_none, entry_some}
use Rattle.model_graph.proofs.write.GraphWrite.put_values.Goals as goal

pub drop_attr-requires : goal.drop_attr-requires
drop_attr-requires c = live_there c.self.inside.nodes c.args.self.now c.args.e.now c.self.view_is c.requires

pub invariant_of-self : goal.invariant_of-self
invariant_of-self c = attr_kept c.self.inside.roots c.self.inside.nodes c.drop_attr.new.nodes c.args.self.now c.args.e.now c.args.f None
    c.self.view_is c.drop_attr.ensures c.self.invariant

pub returns-then-len-eq0-clause-ok : goal.returns-then-len-eq0-clause-ok
returns-then-len-eq0-clause-ok c =
    attr_state c.self.inside.roots c.self.inside.nodes c.drop_attr.new.nodes c.args.self.now c.args.e.now c.args.f None c.self.view_is c.drop_attr.ensures
    ∙ ap (λ v. record c.args.self.now { attr = set c.args.self.now.attr (c.args.e.now, c.args.f) v })
    (entry_none c.args.values (sym c.len.ensures ∙ c.if-len-eq0.true))

pub put_attr-requires : goal.put_attr-requires
put_attr-requires c = live_there c.self.inside.nodes c.args.self.now c.args.e.now c.self.view_is c.requires

pub invariant_of-self-2 : goal.invariant_of-self-2
invariant_of-self-2 c =
    by_result (AreKept c.self.inside.roots c.put_attr.new.nodes) c.put_attr.result c.put_attr.ensures.ok c.put_attr.ensures.err
    (λ w. attr_kept c.self.inside.roots c.self.inside.nodes c.put_attr.new.nodes c.args.self.now c.args.e.now c.args.f
    (Some c.args.values) c.self.view_is w c.self.invariant)
    (λ is. subst (λ (t : Elements). AreKept c.self.inside.roots t) (sym is) c.self.invariant)

pub returns-clause-ok : goal.returns-clause-ok
returns-clause-ok c =
    on_ok_weaker c.put_attr.result (λ w.
    attr_state c.self.inside.roots c.self.inside.nodes c.put_attr.new.nodes c.args.self.now c.args.e.now c.args.f (Some c.args.values) c.self.view_is w
    ∙ ap (λ v. record c.args.self.now { attr = set c.args.self.now.attr (c.args.e.now, c.args.f) v })
    (entry_some c.args.values (λ h. c.if-len-eq0.false (c.len.ensures ∙ h)))) c.put_attr.ensures.ok
