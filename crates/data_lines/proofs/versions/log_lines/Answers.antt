use Rattle.std.proofs.Common.{◌≡◌, ◌<◌, ◌+◌, ◌∷◌, [], ◌++◌, ap, drop, sym, subst, ◌∙◌}
use Rattle.std.proofs.lemmas.Option.{get_or_from_slice_get}
use Rattle.history_tree.specs.Found.{tags_of}
use Rattle.shown_lines.specs.Versions.{version_lines, version_line}
use Rattle.data_lines.proofs.VersionLines.{next_line}
use Rattle.data_lines.proofs.versions.log_lines.Goals as goal

-- the names are those of the version's tags
pub version_line-requires-clause-tags : goal.version_line-requires-clause-tags
version_line-requires-clause-tags c =
    let h = c.args.history.now.history in
    let n = c.loop-n.n in
    let names = c.index.result.now in
    c.as_slice-names.ensures ∙ c.index.ensures
    ∙ get_or_from_slice_get c.in_ok-tags.tags.items n (tags_of h n) names
    (c.in_ok-tags.ensures.names n (subst (λ m. n < m) c.version_count-n-end.ensures.count c.loop-n-test.true))

pub loop-n-preserved : goal.loop-n-preserved
loop-n-preserved c =
    let h = c.args.history.now.history in
    let n = c.loop-n.n in
    let v = c.version.result.now in
    let pushed : c.push.new.self ≡ c.loop-n.lines ++ version_line h n v ∷ [] =
    c.in_ok-push.ensures.ok ∙ ap (λ t. c.loop-n.lines ++ t ∷ []) c.in_ok-version_line.ensures in
    subst (λ l. l ++ version_lines h (n + 1) (drop (n + 1) h.versions) ≡ version_lines h 0 h.versions) (sym pushed)
    (next_line h n v c.loop-n.lines c.version.ensures.version c.loop-n.invariant)
