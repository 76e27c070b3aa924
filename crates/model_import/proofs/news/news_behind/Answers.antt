use Rattle.std.proofs.Common.{◌∙◌, ◌+◌, ◌++◌, ap, drop, add-one, arith, take}
use Rattle.import_laws.specs.Names.{name_at}
use Rattle.import_laws.specs.News.{news_from}
use Rattle.model_import.proofs.PlaceCounts.{counts_more, few, same_element}
use Rattle.model_import.proofs.Rows.{next, news_on}
use Rattle.model_import.proofs.news.news_behind.Goals as goal

pub add_row-requires-clause-few : goal.add_row-requires-clause-few
add_row-requires-clause-few c =
    let most = few c.loop-n.counts c.args.rows.now c.loop-n.n c.index-rows-n.result.parent c.loop-n-test.true c.loop-n.invariant.counts in
    omega (arith, most)

pub loop-n-preserved : goal.loop-n-preserved
loop-n-preserved c =
    let names = c.args.names.now in
    let rows = c.args.rows.now in
    let n = c.loop-n.n in
    let r = c.index-rows-n.result in
    record {
      so_far =
          c.loop-n.invariant.so_far
          ∙ ap (news_from names rows c.loop-n.steps n c.loop-n.roots) (next rows n r c.loop-n-test.true c.index-rows-n.is)
          ∙ news_on names rows c.loop-n.steps n c.loop-n.roots r (drop (n + 1) rows) c.add_row.new.steps
          (n + 1) c.add_row.new.roots c.in-Ok.ensures.room c.in-Ok.ensures.roots
          (c.in-Ok.ensures.steps
          ∙ ap (λ ss. c.loop-n.steps ++ ss)
          (same_element c.loop-n.counts names (take n rows) c.loop-n.roots (name_at names n) r.class r.parent c.loop-n.invariant.counts))
          (add-one n);
      counts = counts_more c.loop-n.counts c.add_row.new.counts rows n r c.loop-n-test.true c.index-rows-n.is c.loop-n.invariant.counts c.in-Ok.ensures.counts;
    }
