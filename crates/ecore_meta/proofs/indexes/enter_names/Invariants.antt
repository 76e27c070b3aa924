use Rattle.std.proofs.Common.{◌≡◌, map, take}
use Rattle.std.specs.BTreeMap.{get_by_text}
use Rattle.ecore_meta.specs.Names.{Name, number_of}
use Rattle.ecore_meta.specs.Values.{or_else}
use Rattle.ecore_meta.proofs.indexes.enter_names.Given as goal

abbrev pub invariant-loop-n : goal.invariant-loop-n
invariant-loop-n l =
    (q : Name) → get_by_text l.index q ≡ or_else (number_of q (map (λ x. x.text) l.literals)) (number_of q (map (λ x. x.name) (take l.n l.literals)))
