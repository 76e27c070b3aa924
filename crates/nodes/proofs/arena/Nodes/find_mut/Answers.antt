-- the value of the slot, and the table once another stands there
use Rattle.std.proofs.Common.{◌≡◌, refl, sym, ap, subst, ◌∙◌}
use Rattle.std.specs.Prelude.{Some, IsSome}
use Rattle.std.specs.Option.{option_map, option_copied}
use Rattle.std.specs.Map.{lookup}
use Rattle.std.specs.FinMap.{get}
use Rattle.slab.specs.Slab as slab
use Rattle.finite_maps.specs.Equal.{text_eq}
use Rattle.finite_maps.specs.Maps.{set}
use Rattle.nodes.specs.Tied.{named}
use Rattle.nodes.proofs.Named.{lookup-text}
use Rattle.nodes.proofs.Slots.{found, present, written, written_tied, contains}
use Rattle.nodes.proofs.arena.Nodes.find_mut.Goals as goal

pub unreachable-requires : goal.unreachable-requires
unreachable-requires g c =
    let a = c.self.inside in
    let es = named a.ids.entries in
    let e = c.args.e.now in
    present es a.slots c.self.invariant e (subst (λ m. IsSome (get m e)) (sym c.self.view_is) c.requires)
    (lookup-text a.ids.entries e c.as_str.result.now c.as_str.ensures.bytes _ c.get.ensures.value ∙ ap option_copied c.in-None.is)

pub index_mut-requires : goal.index_mut-requires
index_mut-requires g c =
    let a = c.self.inside in
    let es = named a.ids.entries in
    let e = c.args.e.now in
    let at = c.in-Some.at.now in
    let is : lookup (text_eq e) es ≡ Some at =
    lookup-text a.ids.entries e c.as_str.result.now c.as_str.ensures.bytes _ c.get.ensures.value ∙ ap option_copied c.in-Some.is in
    let p = c.self.invariant e at is in
    contains (slab.get a.slots at) (e, p.0) p.1

pub invariant_of-self-lent : goal.invariant_of-self-lent
invariant_of-self-lent g c w =
    let a = c.self.inside in
    let es = named a.ids.entries in
    let e = c.args.e.now in
    let at = c.in-Some.at.now in
    let is : lookup (text_eq e) es ≡ Some at =
    lookup-text a.ids.entries e c.as_str.result.now c.as_str.ensures.bytes _ c.get.ensures.value ∙ ap option_copied c.in-Some.is in
    written_tied es a.slots e c.self.invariant at c.index_mut.result.now w is c.index_mut.ensures.value

pub returns : goal.returns
returns g c =
    let a = c.self.inside in
    let es = named a.ids.entries in
    let e = c.args.e.now in
    let at = c.in-Some.at.now in
    let slot = c.index_mut.result.now in
    let is : lookup (text_eq e) es ≡ Some at =
    lookup-text a.ids.entries e c.as_str.result.now c.as_str.ensures.bytes _ c.get.ensures.value ∙ ap option_copied c.in-Some.is in (
      (refl, λ w. written es a.slots e c.self.invariant at slot w is c.index_mut.ensures.value ∙ ap (λ m. set m e (Some w)) c.self.view_is),
      record {
        writes_back = tt;
        value = ap (λ m. get m e) (sym c.self.view_is) ∙ found es a.slots e (Some at) is ∙ ap (option_map (λ x. x.1)) c.index_mut.ensures.value;
      },
    )
