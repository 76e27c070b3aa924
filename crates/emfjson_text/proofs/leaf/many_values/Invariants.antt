use Rattle.std.proofs.Common.{◌≡◌, ◌++◌, ◌∷◌, drop, false, true}
use Rattle.std.specs.String.{string_bytes}
use Rattle.std.specs.List.{list_all}
use Rattle.ecore_meta.specs.Typing.{fits}
use Rattle.emfjson_text.specs.Frames.{values_text}
use Rattle.emfjson_text.proofs.leaf.many_values.Given as goal

abbrev pub invariant-loop-value : goal.invariant-loop-value
invariant-loop-value l =
    record {
      text : string_bytes l.out ++ values_text l.meta l.scalar l.later (drop l.value-index l.values) ≡ 91 ∷ values_text l.meta l.scalar false l.values;
      fit : list_all (fits l.meta l.scalar) (drop l.value-index l.values) ≡ true;
    }
