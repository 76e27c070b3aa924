use Rattle.std.proofs.Common.{arith}
use Rattle.ecore_meta.proofs.ParseLaws.{short_at}
use Rattle.ecore_meta.proofs.enums.count.Goals as goal

pub overflow_cast-result : goal.overflow_cast-result
overflow_cast-result c =
    let h = short_at c.args.enums.now c.args.e c.in-Some.found.now c.requires.short c.in-Some.ensures in
    omega (arith, h, c.len.ensures)
