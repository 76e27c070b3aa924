use Rattle.std.proofs.Common.{◌≡◌, ◌++◌, drop}
use Rattle.shown_lines.specs.Versions.{after_commas}
use Rattle.data_lines.proofs.versions.push_after_commas.Given as goal

abbrev pub invariant-loop-word : goal.invariant-loop-word
invariant-loop-word l = l.line ++ after_commas (drop l.word-index l.words) ≡ l.initial.line ++ after_commas l.words
