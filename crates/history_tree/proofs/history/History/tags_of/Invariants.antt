-- the names of the version's tags among those so far
use Rattle.std.proofs.Common.{◌≡◌, take, nat_eq}
use Rattle.std.specs.Prelude.{map}
use Rattle.std.specs.List.{filter}
use Rattle.history_tree.specs.declared.version.Tag.{Tag}
use Rattle.history_tree.proofs.history.History.tags_of.Given as goal

abbrev pub invariant-loop-tag : goal.invariant-loop-tag
invariant-loop-tag l = l.names ≡ map (λ (t : Tag). t.name) (filter (λ (t : Tag). nat_eq t.version l.v) (take l.tag-index l.tag-items))
