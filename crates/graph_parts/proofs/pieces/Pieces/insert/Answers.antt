use Rattle.std.proofs.Common.{◌≡◌, ◌≤◌, sym, ap, subst, ◌∙◌, length, List}
use Rattle.std.specs.List.{insert, remove}
use Rattle.ecore_meta.specs.declared.meta.Value.{Value}
use Rattle.value_counts.specs.Counts.{Counts}
use Rattle.graph_parts.specs.Pieces.{joined}
use Rattle.graph_parts.proofs.JoinLaws.{Many, removed_again}
use Rattle.graph_parts.proofs.pieces.Pieces.insert.Goals as goal

pub add_at-requires-clause-counts : goal.add_at-requires-clause-counts
add_at-requires-clause-counts c =
    let old : Many = c.self.inside.pieces.items in
    let at = c.args.at in
    let le : at ≤ length (joined old) = subst (λ (l : List Value). at ≤ length l) (sym c.self.view_is) c.requires in
    let same : remove (joined c.as_slice.result.now) at ≡ joined old =
    ap (λ (ps : Many). remove (joined ps) at) c.as_slice.ensures.value ∙ ap (λ (l : List Value). remove l at) c.in_ok-insert_among.ensures.ok
    ∙ removed_again (joined old) at c.args.v le in
    subst (λ (l : List Value). Counts c.self.inside.counts l) (sym same) c.self.invariant.2

pub returns-then-is_err-clause-err : goal.returns-then-is_err-clause-err
returns-then-is_err-clause-err c =
    let old : Many = c.self.inside.pieces.items in
    let at = c.args.at in
    let le : at ≤ length (joined old) = subst (λ (l : List Value). at ≤ length l) (sym c.self.view_is) c.requires in
    c.remove_among.ensures.values ∙ ap (λ (l : List Value). remove l at) c.in_ok-insert_among.ensures.ok
    ∙ removed_again (joined old) at c.args.v le ∙ c.self.view_is
