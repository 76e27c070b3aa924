use Rattle.std.proofs.Common.{refl, sym, ◌∙◌}
use Rattle.model_graph.proofs.Values.{holder_there, held, held_there, revalued_state, revalued_kept}
use Rattle.model_graph.proofs.graph.Graph.values_mut.Goals as goal

pub find_mut-requires : goal.find_mut-requires
find_mut-requires c = holder_there c.self.inside.nodes c.args.self.now c.args.e.now c.args.f c.self.view_is c.requires

pub find_mut-requires-2 : goal.find_mut-requires-2
find_mut-requires-2 c =
    held_there c.self.inside.nodes c.args.self.now c.args.e.now c.args.f c.self.view_is c.find_mut.result.now c.find_mut.ensures.value c.requires

pub invariant_of-self-lent : goal.invariant_of-self-lent
invariant_of-self-lent c w =
    revalued_kept c.self.inside.nodes c.args.self.now c.args.e.now c.args.f c.self.view_is c.self.inside.roots c.find_mut.result.now w
    c.find_mut.ensures.value c.self.invariant

pub returns : goal.returns
returns c = (
  (
    refl,
    λ w. revalued_state c.self.inside.nodes c.args.self.now c.args.e.now c.args.f c.self.view_is c.self.inside.roots c.find_mut.result.now w
        c.find_mut.ensures.value,
  ),
  record {
    writes_back = tt;
    value = sym (held c.self.inside.nodes c.args.self.now c.args.e.now c.args.f c.self.view_is c.find_mut.result.now c.find_mut.ensures.value)
        ∙ c.find_mut-2.ensures.value;
  },
)
