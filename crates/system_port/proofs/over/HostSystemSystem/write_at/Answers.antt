use Rattle.std.proofs.Common.{◌∙◌, ◌+◌, ◌≡◌, ℕ, ap, arith}
use Rattle.system_port.specs.Writes.{begun}
use Rattle.system_port.proofs.Begun.{is_begun}
use Rattle.system_port.proofs.over.HostSystemSystem.write_at.Goals as goal

pub returns-then-done-gt0-clause-some : goal.returns-then-done-gt0-clause-some
returns-then-done-gt0-clause-some g c = λ told first is.
    let none : c.args.done ≡ c.args.done + 0 = omega arith in
    is ∙ is_begun first c.args.at c.args.bytes.now c.args.done c.if-done-gt0.true ∙ ap (λ (n : ℕ). begun first c.args.at c.args.bytes.now n) none
