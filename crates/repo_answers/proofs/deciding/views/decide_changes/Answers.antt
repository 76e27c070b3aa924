use Rattle.std.proofs.Common.{subst, sym}
use Rattle.shown_lines.specs.Typed.{IsTypedPackage}
use Rattle.repo_state.specs.Keeping.{plain_of}
use Rattle.repo_state.proofs.Ordered.{is_there}
use Rattle.plain_repository.proofs.Typed.{open_typed, operations_typed}
use Rattle.repo_answers.proofs.Typed.{seen_typed}
use Rattle.repo_answers.proofs.deciding.views.decide_changes.Goals as goal

pub operation_lines-requires : goal.operation_lines-requires
operation_lines-requires c =
    let w = c.in-Some.workspace.now in
    let there = is_there c.args.repo.now c.args.begun.now.meta c.args.ws (plain_of w) c.recall_order.ensures c.requires.meta (sym c.in-Some.ensures.found) in
    record {
      typed = subst (IsTypedPackage c.args.begun.now.meta) (sym c.operations.ensures)
          (operations_typed c.args.repo.now c.args.begun.now.meta (plain_of w) c.recall_soundness.ensures there);
    }

pub push_open_lines-requires : goal.push_open_lines-requires
push_open_lines-requires c =
    let w = c.in-Some.workspace.now in
    let there = is_there c.args.repo.now c.args.begun.now.meta c.args.ws (plain_of w) c.recall_order.ensures c.requires.meta (sym c.in-Some.ensures.found) in
    record {
      typed = seen_typed c.args.begun.now.meta w c.composite.result
          (open_typed c.args.repo.now c.args.begun.now.meta (plain_of w) c.recall_soundness.ensures there) c.composite.ensures;
    }
