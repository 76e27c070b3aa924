use Rattle.std.proofs.Common.{sym, ap, ◌∙◌}
use Rattle.std.specs.Prelude.{None}
use Rattle.finite_maps.specs.Maps.{set}
use Rattle.model_state.specs.Listing.{values_at}
use Rattle.model_graph.proofs.Linked.{live_there}
use Rattle.model_graph.proofs.Stored.{attr_state, attr_kept}
use Rattle.model_graph.proofs.Values.{removed_last}
use Rattle.model_graph.proofs.write.GraphWrite.remove_value.Goals as goal

pub drop_attr-requires : goal.drop_attr-requires
drop_attr-requires c = live_there c.self.inside.nodes c.args.self.now c.args.e.now c.self.view_is c.requires.live

pub invariant_of-self : goal.invariant_of-self
invariant_of-self c = attr_kept c.self.inside.roots c.self.inside.nodes c.drop_attr.new.nodes c.args.self.now c.args.e.now c.args.f None
    c.self.view_is c.drop_attr.ensures c.self.invariant

pub returns-then-attr_len-eq1-clause-ok : goal.returns-then-attr_len-eq1-clause-ok
returns-then-attr_len-eq1-clause-ok c =
    attr_state c.self.inside.roots c.self.inside.nodes c.drop_attr.new.nodes c.args.self.now c.args.e.now c.args.f None c.self.view_is c.drop_attr.ensures
    ∙ ap (λ v. record c.args.self.now { attr = set c.args.self.now.attr (c.args.e.now, c.args.f) v })
    (removed_last (values_at c.args.self.now c.args.e.now c.args.f) c.args.at c.requires.at (sym c.attr_len.ensures ∙ c.if-attr_len-eq1.true))
