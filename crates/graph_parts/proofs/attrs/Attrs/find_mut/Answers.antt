use Rattle.std.proofs.Common.{◌≡◌, ℕ, List, nat_eq, refl, sym, ap, ◌∙◌}
use Rattle.std.specs.Prelude.{None, Some, position}
use Rattle.std.specs.FinMap.{get}
use Rattle.finite_maps.specs.Maps.{set}
use Rattle.ecore_meta.specs.declared.meta.Value.{Value}
use Rattle.graph_parts.proofs.Flat.{get_none, written_at}
use Rattle.graph_parts.proofs.Results.{none_some}
use Rattle.graph_parts.proofs.attrs.Attrs.find_mut.Goals as goal

pub unreachable-requires : goal.unreachable-requires
unreachable-requires c =
    let xs = c.self.inside.items.items in
    let f = c.args.f in
    let at : position (λ (e : ℕ × List Value). nat_eq e.0 f) xs ≡ None =
    ap (position (λ (e : ℕ × List Value). nat_eq e.0 f)) (sym c.as_slice.ensures.value) ∙ sym c.index_of.ensures ∙ c.in-None.is in
    none_some (get c.args.self.now f) c.requires (ap (λ m. get m f) (sym c.self.view_is) ∙ get_none f xs at)

pub returns : goal.returns
returns c =
    let xs = c.self.inside.items.items in
    let f = c.args.f in
    let at : position (λ (e : ℕ × List Value). nat_eq e.0 f) xs ≡ Some c.in-Some.at =
    ap (position (λ (e : ℕ × List Value). nat_eq e.0 f)) (sym c.as_slice.ensures.value) ∙ sym c.index_of.ensures ∙ c.in-Some.is in
    let w = written_at f xs c.in-Some.at c.index_mut.result.now c.index_mut.ensures.value at in (
      (refl, λ v. w.1 v ∙ ap (λ m. set m f (Some v)) c.self.view_is),
      record { writes_back = tt; value = ap (λ m. get m f) (sym c.self.view_is) ∙ w.0 },
    )
