-- an id taken out with its slot
use Rattle.std.proofs.Common.{◌≡◌, sym, ap, subst, ◌∙◌}
use Rattle.std.specs.Prelude.{None, Some, IsSome}
use Rattle.std.specs.Option.{option_map}
use Rattle.std.specs.Map.{lookup}
use Rattle.std.specs.FinMap.{get}
use Rattle.slab.specs.Slab as slab
use Rattle.finite_maps.specs.Equal.{text_eq}
use Rattle.finite_maps.specs.Maps.{set}
use Rattle.nodes.specs.Tied.{named}
use Rattle.nodes.proofs.Named.{lookup-text, updates-text}
use Rattle.nodes.proofs.Slots.{found, present, removed, removed_tied, contains}
use Rattle.nodes.proofs.arena.Nodes.drop_at.Goals as goal

pub unreachable-requires : goal.unreachable-requires
unreachable-requires g c =
    let a = c.self.inside in
    let es = named a.ids.entries in
    present es a.slots c.self.invariant c.args.e.now (subst (λ m. IsSome (get m c.args.e.now)) (sym c.self.view_is) c.requires)
    (lookup-text a.ids.entries c.args.e.now c.as_str.result.now c.as_str.ensures.bytes _ c.swap_remove.ensures.value ∙ c.in-None.is)

pub remove-value-requires : goal.remove-value-requires
remove-value-requires g c =
    let a = c.self.inside in
    let es = named a.ids.entries in
    let is : lookup (text_eq c.args.e.now) es ≡ Some c.in-Some.at =
    lookup-text a.ids.entries c.args.e.now c.as_str.result.now c.as_str.ensures.bytes _ c.swap_remove.ensures.value ∙ c.in-Some.is in
    let p = c.self.invariant c.args.e.now c.in-Some.at is in
    contains (slab.get a.slots c.in-Some.at) (c.args.e.now, p.0) p.1

pub invariant_of-self : goal.invariant_of-self
invariant_of-self g c =
    let a = c.self.inside in
    let es = named a.ids.entries in
    let e = c.args.e.now in
    let at = c.in-Some.at in
    let is : lookup (text_eq e) es ≡ Some at =
    lookup-text a.ids.entries c.args.e.now c.as_str.result.now c.as_str.ensures.bytes _ c.swap_remove.ensures.value ∙ c.in-Some.is in
    removed_tied es a.slots e c.self.invariant (named c.swap_remove.new.self.entries) c.remove-value.new.self at is
    (updates-text a.ids c.swap_remove.new.self e c.as_str.result.now c.as_str.ensures.bytes None c.swap_remove.ensures.updates)
    c.remove-value.ensures.updates.others

pub returns-clause-was : goal.returns-clause-was
returns-clause-was g c =
    let a = c.self.inside in
    let es = named a.ids.entries in
    let is : lookup (text_eq c.args.e.now) es ≡ Some c.in-Some.at =
    lookup-text a.ids.entries c.args.e.now c.as_str.result.now c.as_str.ensures.bytes _ c.swap_remove.ensures.value ∙ c.in-Some.is in
    ap (λ m. get m c.args.e.now) (sym c.self.view_is) ∙ found es a.slots c.args.e.now (Some c.in-Some.at) is
    ∙ ap (option_map (λ x. x.1)) c.remove-value.ensures.value

pub returns-clause-now : goal.returns-clause-now
returns-clause-now g c =
    let a = c.self.inside in
    let es = named a.ids.entries in
    let e = c.args.e.now in
    let at = c.in-Some.at in
    let is : lookup (text_eq e) es ≡ Some at =
    lookup-text a.ids.entries c.args.e.now c.as_str.result.now c.as_str.ensures.bytes _ c.swap_remove.ensures.value ∙ c.in-Some.is in
    removed es a.slots e c.self.invariant (named c.swap_remove.new.self.entries) c.remove-value.new.self at is
    (updates-text a.ids c.swap_remove.new.self e c.as_str.result.now c.as_str.ensures.bytes None c.swap_remove.ensures.updates)
    c.remove-value.ensures.updates.others
    ∙ ap (λ m. set m e None) c.self.view_is
