use Rattle.std.proofs.Common.{sym, ap, ◌∙◌, map, false}
use Rattle.std.specs.Option.{option_map_or}
use Rattle.ecore_meta.specs.declared.meta.Kind.TheVariants.{Skip}
use Rattle.emfjson_values.specs.Values.{data_of}
use Rattle.emfjson_text.specs.Frames.{text_if}
use Rattle.model_texts.specs.Tree.{content, listed}
use Rattle.emfjson_text.proofs.part.content_at.Goals as goal

pub returns-in_ok-many_values-in-AttrMany : goal.returns-in_ok-many_values-in-AttrMany
returns-in_ok-many_values-in-AttrMany g c = λ below.
    let meta = c.args.meta.now in
    let m = g.L.Look.state c.args.look.now in
    c.leaf_if-in-AttrMany.ensures below
    ∙ c.in_ok-many_values-in-AttrMany.ensures
    ∙ ap (λ vs. text_if (listed false (map (data_of meta c.in-AttrMany.scalar) vs))) (c.as_slice.ensures ∙ c.in_ok-values-in-AttrMany.ensures)
    ∙ ap (λ k. text_if (content meta m below c.args.id.now c.args.f k)) (sym c.in-AttrMany.is ∙ ap (λ o. option_map_or (λ x. x.kind) o Skip) c.in-Some.ensures)
