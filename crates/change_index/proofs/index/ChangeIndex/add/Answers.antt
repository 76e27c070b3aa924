-- the count is that of the versions
use Rattle.std.proofs.Common.{◌≡◌, length, arith, ap, sym, ◌∙◌}
use Rattle.change_index.proofs.Sets.{length-pairs_below}
use Rattle.change_index.proofs.index.ChangeIndex.add.Goals as goal

pub overflow_add-self : goal.overflow_add-self
overflow_add-self c =
    let size : length c.args.self.now ≡ c.self.inside.count = ap length (sym c.self.view_is) ∙ length-pairs_below c.self.inside.table c.self.inside.count in
    omega (arith, size, c.requires)
