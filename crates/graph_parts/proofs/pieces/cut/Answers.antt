use Rattle.std.proofs.Common.{rules, ◌≡◌, ◌+◌, suc, sym, ap, ◌∙◌, arith}
use Rattle.std.specs.Prelude.{slice_set}
use Rattle.std.specs.List.{insert}
use Rattle.graph_parts.specs.Pieces.{joined}
use Rattle.graph_parts.proofs.JoinLaws.{Many, parted}
use Rattle.graph_parts.proofs.pieces.cut.Goals as goal

pub returns-clause-same : goal.returns-clause-same
returns-clause-same c =
    let ps : Many = c.args.pieces.now.items in
    let k = c.args.piece in
    let made : c.insert.new.self.items ≡ insert (slice_set ps k c.split_off.new.self) (k + 1) c.in-Ok.rest = search rules in
    let next : k + 1 ≡ suc k = omega arith in
    ap joined made
    ∙ ap (λ n. joined (insert (slice_set ps k c.split_off.new.self) n c.in-Ok.rest)) next
    ∙ parted ps k c.index_mut.result.now c.requires.piece (search rules) c.args.at c.split_off.new.self c.in-Ok.rest c.in-Ok.ensures.kept c.in-Ok.ensures.rest
