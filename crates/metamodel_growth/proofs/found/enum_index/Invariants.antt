use Rattle.std.proofs.Common.{◌≡◌, map, take}
use Rattle.std.specs.BTreeMap.{get_by_text}
use Rattle.ecore_meta.specs.Names.{Name, number_of}
use Rattle.metamodel_growth.proofs.found.enum_index.Given as goal

abbrev pub invariant-loop-e : goal.invariant-loop-e
invariant-loop-e l = (q : Name) → get_by_text l.index q ≡ number_of q (map (λ x. x.name) (take l.e l.meta.enums))
