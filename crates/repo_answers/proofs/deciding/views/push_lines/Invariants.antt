use Rattle.std.proofs.Common.{◌≡◌, ◌++◌, take}
use Rattle.repo_answers.proofs.deciding.views.push_lines.Given as goal

abbrev pub invariant-loop-line : goal.invariant-loop-line
invariant-loop-line l = record {
  more : l.lines ≡ l.fn.lines ++ take l.line-index l.line-items;
}
