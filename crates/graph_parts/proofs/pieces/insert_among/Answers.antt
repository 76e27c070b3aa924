use Rattle.std.proofs.Common.{rules, ◌≡◌, ◌<◌, ◌≤◌, ◌+◌, [], subst, ◌∙◌, length, take, get_or}
use Rattle.std.specs.Prelude.{slice_set}
use Rattle.std.specs.List.{insert}
use Rattle.graph_parts.specs.Pieces.{joined}
use Rattle.graph_parts.proofs.JoinLaws.{Many, before, inserted}
use Rattle.graph_parts.proofs.pieces.insert_among.Goals as goal

pub returns-else-len-ge-MOST_IN_PIECE-clause-ok : goal.returns-else-len-ge-MOST_IN_PIECE-clause-ok
returns-else-len-ge-MOST_IN_PIECE-clause-ok c =
    let ps : Many = c.args.pieces.now.items in
    let k = c.find_gap-piece.result.0 in
    let i = c.find_gap-piece.result.1 in
    let h : k < length ps = subst (λ (qs : Many). k < length qs) c.as_slice.ensures.value c.find_gap-piece.ensures.piece in
    let w : i ≤ length (get_or ps k []) = subst (λ (qs : Many). i ≤ length (get_or qs k [])) c.as_slice.ensures.value c.find_gap-piece.ensures.within in
    let e : before ps k + i ≡ c.args.at = subst (λ (qs : Many). before qs k + i ≡ c.args.at) c.as_slice.ensures.value c.find_gap-piece.ensures.index in
    inserted ps k c.index_mut.result.now h (search rules) i c.args.at c.args.v c.insert.new.self c.in_ok-insert.ensures.ok w e

pub returns-then-len-ge-MOST_IN_PIECE-clause-ok : goal.returns-then-len-ge-MOST_IN_PIECE-clause-ok
returns-then-len-ge-MOST_IN_PIECE-clause-ok c =
    let ps : Many = c.args.pieces.now.items in
    let k = c.find_gap-piece.result.0 in
    let i = c.find_gap-piece.result.1 in
    let h : k < length ps = subst (λ (qs : Many). k < length qs) c.as_slice.ensures.value c.find_gap-piece.ensures.piece in
    let w : i ≤ length (get_or ps k []) = subst (λ (qs : Many). i ≤ length (get_or qs k [])) c.as_slice.ensures.value c.find_gap-piece.ensures.within in
    let e : before ps k + i ≡ c.args.at = subst (λ (qs : Many). before qs k + i ≡ c.args.at) c.as_slice.ensures.value c.find_gap-piece.ensures.index in
    c.cut.ensures.same
    ∙ inserted ps k c.index_mut.result.now h (search rules) i c.args.at c.args.v c.insert.new.self c.in_ok-insert.ensures.ok w e
