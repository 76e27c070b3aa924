use Rattle.std.proofs.Common.{◌<◌, ◌∙◌, ap, cond, length, arith}
use Rattle.std.specs.Prelude.{None, Some, []}
use Rattle.std.specs.Option.{option_map_or}
use Rattle.std.specs.Str.{bytes_eq}
use Rattle.std.proofs.lemmas.Option.{slice_get-get_or}
use Rattle.ecore_meta.specs.Values.{or_else}
use Rattle.ecore_meta.specs.declared.meta.Enum.{Enum}
use Rattle.ecore_meta.proofs.IndexLaws.{entered_more}
use Rattle.metamodel_growth.proofs.found.enum_index.Goals as goal

pub loop-e-preserved : goal.loop-e-preserved
loop-e-preserved c = λ q.
    let d : Enum = record { name = []; literals = [] } in
    let lt : c.loop-e.e < length c.args.meta.now.enums = omega (arith, c.loop-e-test.true, c.enum_count-e-end.ensures) in
    c.in_ok-enter.ensures q
    ∙ ap (λ o. or_else o (cond (bytes_eq q c.enum_name.result.now) (Some c.loop-e.e) None)) (c.loop-e.invariant q)
    ∙ entered_more (λ (x : Enum). x.name) c.args.meta.now.enums c.loop-e.e d lt None q c.enum_name.result.now (c.enum_name.ensures
    ∙ ap (λ o. option_map_or (λ (x : Enum). x.name) o []) (slice_get-get_or c.args.meta.now.enums c.loop-e.e d lt))
