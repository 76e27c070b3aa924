use Rattle.std.proofs.Common.{rules, ◌≡◌, ◌<◌, ◌+◌, [], sym, ap, subst, ◌∙◌, length, get_or}
use Rattle.std.specs.Prelude.{slice_set}
use Rattle.std.specs.List.{remove}
use Rattle.graph_parts.specs.Pieces.{joined}
use Rattle.graph_parts.proofs.JoinLaws.{Many, before, removed, let_go}
use Rattle.graph_parts.proofs.pieces.remove_among.Goals as goal

pub returns-else-len-eq0-clause-values : goal.returns-else-len-eq0-clause-values
returns-else-len-eq0-clause-values c =
    let ps : Many = c.args.pieces.now.items in
    let k = c.find-piece.result.0 in
    let i = c.find-piece.result.1 in
    let h : k < length ps = subst (λ (qs : Many). k < length qs) c.as_slice.ensures.value c.find-piece.ensures.piece in
    let w : i < length (get_or ps k []) = subst (λ (qs : Many). i < length (get_or qs k [])) c.as_slice.ensures.value c.find-piece.ensures.within in
    let e : before ps k + i ≡ c.args.at = subst (λ (qs : Many). before qs k + i ≡ c.args.at) c.as_slice.ensures.value c.find-piece.ensures.index in
    removed ps k c.index_mut.result.now h (search rules) i c.args.at c.remove.new.self c.remove.ensures.items w e

pub returns-then-len-gt1-clause-values : goal.returns-then-len-gt1-clause-values
returns-then-len-gt1-clause-values c =
    let ps : Many = c.args.pieces.now.items in
    let k = c.find-piece.result.0 in
    let i = c.find-piece.result.1 in
    let h : k < length ps = subst (λ (qs : Many). k < length qs) c.as_slice.ensures.value c.find-piece.ensures.piece in
    let w : i < length (get_or ps k []) = subst (λ (qs : Many). i < length (get_or qs k [])) c.as_slice.ensures.value c.find-piece.ensures.within in
    let e : before ps k + i ≡ c.args.at = subst (λ (qs : Many). before qs k + i ≡ c.args.at) c.as_slice.ensures.value c.find-piece.ensures.index in
    let rest : Many = slice_set ps k c.remove.new.self in
    let there : k < length rest = search rules in
    let none : length c.index.result.now ≡ 0 = sym c.len.ensures ∙ c.if-len-eq0.true in
    ap joined c.remove-then-len-gt1.ensures.items
    ∙ let_go rest k c.index.result.now there c.index.ensures none
    ∙ removed ps k c.index_mut.result.now h (search rules) i c.args.at c.remove.new.self c.remove.ensures.items w e
