use Rattle.std.proofs.Common.{◌∙◌, ap, arith, length}
use Rattle.ecore_meta.specs.Values.{literal_in}
use Rattle.ecore_meta.specs.declared.meta.Enum.{Enum}
use Rattle.ecore_meta.proofs.IndexLaws.{known_more}
use Rattle.ecore_meta.proofs.ParseLaws.{short_in}
use Rattle.ecore_meta.proofs.indexes.literal_indexes.Goals as goal

pub loop-found-preserved : goal.loop-found-preserved
loop-found-preserved c =
    known_more c.args.enums.now c.loop-found.found-index c.found-item.result c.loop-found.indexes.items c.in_ok-literal_index.field-0
    c.push.new.self.items c.in_ok-push.ensures.items c.loop-found-test.true c.loop-found.invariant
    (λ q. c.in_ok-literal_index.ensures q ∙ ap (λ ls. literal_in ls q) (c.as_slice.ensures ∙ ap (λ (x : Enum). x.literals) c.found-item.is))

pub literal_index-requires : goal.literal_index-requires
literal_index-requires c =
    omega (
      arith,
      ap length (c.as_slice.ensures ∙ ap (λ (x : Enum). x.literals) c.found-item.is),
      short_in c.args.enums.now c.loop-found.found-index c.found-item.result c.requires c.loop-found-test.true,
    )
