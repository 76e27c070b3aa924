use Rattle.std.proofs.Common.{◌≡◌, List, ℕ, Option, sym, subst, arith}
use Rattle.std.specs.Prelude.{IfOk}
use Rattle.repo_answers.proofs.Loaded.{line_and_rest, no_line}
use Rattle.repo_answers.proofs.deciding.loading.bytes_of_block.Goals as goal

pub returns-in-None : goal.returns-in-None
returns-in-None c = sym (no_line c.args.block.now (c.in-None.ensures.byte (omega arith) (λ w o h. h)))

pub returns-in-Some-split_once : goal.returns-in-Some-split_once
returns-in-Some-split_once c =
    let cut = c.in-Some-split_once.ensures.byte (omega arith) (λ w o h. h) in
    subst (λ (y : Option (List ℕ)). IfOk c.bytes_of_only_line.result (λ bytes. bytes ≡ y))
    (line_and_rest c.args.block.now c.in-Some-split_once.line.now c.in-Some-split_once.rest.now cut.0 cut.1 cut.2) c.bytes_of_only_line.ensures
