use Rattle.std.proofs.Common.{ℕ, List, nat_eq, sym, ap, ◌∙◌}
use Rattle.std.specs.Prelude.{Some, slice_index_or}
use Rattle.std.specs.Option.{option_map}
use Rattle.std.specs.FinMap.{get}
use Rattle.ecore_meta.specs.declared.meta.Value.{Value}
use Rattle.ranked_lists.proofs.Places.{position_some, position_none, index_is}
use Rattle.graph_parts.specs.Parts.{flat}
use Rattle.graph_parts.proofs.Flat.{get-flat, feature_found}
use Rattle.graph_parts.proofs.attrs.Attrs.find.Goals as goal

pub returns-in-None : goal.returns-in-None
returns-in-None c =
    let f = c.args.f in
    let xs = c.as_slice.result.now in
    let none = feature_found xs f
    ∙ ap (option_map (λ (e : ℕ × List Value). e.1))
    (position_none (λ (e : ℕ × List Value). nat_eq e.0 f) xs (sym c.index_of.ensures ∙ c.in-None.is)) in
    sym none ∙ sym (get-flat xs f) ∙ ap (λ es. get (flat es) f) c.as_slice.ensures.value ∙ ap (λ m. get m f) c.self.view_is

pub returns-in-Some : goal.returns-in-Some
returns-in-Some c =
    let f = c.args.f in
    let xs = c.as_slice.result.now in
    let at = position_some (λ (e : ℕ × List Value). nat_eq e.0 f) xs c.in-Some.at (sym c.index_of.ensures ∙ c.in-Some.is) in
    let some = feature_found xs f ∙ ap (option_map (λ (e : ℕ × List Value). e.1)) at.3 in
    let index = c.index.ensures ∙ ap (λ es. slice_index_or es c.in-Some.at c.index.result.now) (sym c.as_slice.ensures.value)
    ∙ index_is xs c.in-Some.at c.index.result.now at.0 at.1 in
    ap (λ (e : ℕ × List Value). Some e.1) index
    ∙ sym some ∙ sym (get-flat xs f) ∙ ap (λ es. get (flat es) f) c.as_slice.ensures.value ∙ ap (λ m. get m f) c.self.view_is
