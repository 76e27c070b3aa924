use Rattle.std.proofs.Common.{◌≡◌, ◌++◌, drop}
use Rattle.script_lang.specs.Reply.{printed_lines}
use Rattle.script_lang.proofs.reply.print_lines.Given as goal

abbrev pub invariant-loop-line : goal.invariant-loop-line
invariant-loop-line l = l.out.items ++ printed_lines (drop l.line-index l.lines) ≡ l.initial.out.items ++ printed_lines l.lines
