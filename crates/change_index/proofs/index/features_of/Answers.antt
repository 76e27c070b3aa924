-- the features with a version on the path
use Rattle.std.proofs.Common.{◌≡◌, map, rules, subst, sym, ap, ◌∙◌, false}
use Rattle.std.specs.List.{filter, list_any}
use Rattle.std.specs.Map.Iter.{deref}
use Rattle.std.specs.BTreeMap as tree
use Rattle.std.proofs.lemmas.Map.Iter.{iter_end}
use Rattle.history_tree.specs.Laws.{Rises}
use Rattle.history_tree.specs.MergeBase.{is_among}
use Rattle.change_index.specs.Table.{row}
use Rattle.change_index.proofs.Picking.{picked_more, picked_rises, picked_those}
use Rattle.change_index.proofs.index.features_of.Goals as goal

pub loop-feature-preserved : goal.loop-feature-preserved
loop-feature-preserved c =
    picked_more (λ f. list_any (is_among (row c.args.rows.now f)) c.args.path.now) c.loop-feature.yielded c.in-Some.feature c.loop-feature.features
    c.loop-feature.invariant false (sym c.if-is_written.false ∙ c.is_written.ensures)

pub returns-clause-rise : goal.returns-clause-rise
returns-clause-rise c =
    let whole : map deref c.loop-feature.yielded ≡ tree.keys c.args.rows.now = search (rules, iter_end) in
    subst Rises (sym (c.loop-feature.invariant ∙ ap (filter (λ f. list_any (is_among (row c.args.rows.now f)) c.args.path.now)) whole))
    (picked_rises (λ f. list_any (is_among (row c.args.rows.now f)) c.args.path.now) (tree.keys c.args.rows.now) c.keys-feature-items.ensures.ordered)

pub returns-clause-those : goal.returns-clause-those
returns-clause-those c f =
    let whole : map deref c.loop-feature.yielded ≡ tree.keys c.args.rows.now = search (rules, iter_end) in
    ap (λ l. is_among l f) (c.loop-feature.invariant ∙ ap (filter (λ f. list_any (is_among (row c.args.rows.now f)) c.args.path.now)) whole)
    ∙ picked_those c.args.rows.now c.args.path.now f
