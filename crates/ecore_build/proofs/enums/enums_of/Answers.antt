use Rattle.std.proofs.Common.{List, ap, subst, sym, arith, length}
use Rattle.ecore_meta.specs.Values.{AreShort}
use Rattle.ecore_meta.specs.declared.meta.Enum.{Enum}
use Rattle.ecore_build.proofs.BuildLaws.{enums_count, enums_short}
use Rattle.ecore_build.proofs.enums.enums_of.Goals as goal

pub new-requires-clause-few : goal.new-requires-clause-few
new-requires-clause-few c = omega (arith, ap length c.in_ok-items.ensures, enums_count c.args.rows.now, c.requires.classifiers)

pub new-requires-clause-short : goal.new-requires-clause-short
new-requires-clause-short c =
    let P : List Enum → Type 0 = λ ls. AreShort ls in
    subst P (sym c.in_ok-items.ensures) (enums_short c.args.rows.now c.requires.parts)
