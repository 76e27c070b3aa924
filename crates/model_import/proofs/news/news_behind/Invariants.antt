use Rattle.std.proofs.Common.{◌≡◌, [], drop, take}
use Rattle.model_import.specs.Counts.{Counts}
use Rattle.import_laws.specs.News.{news_from}
use Rattle.model_import.proofs.news.news_behind.Given as goal

abbrev pub invariant-loop-n : goal.invariant-loop-n
invariant-loop-n l = record {
  so_far : news_from l.names l.rows [] 0 l.fn.roots l.rows ≡ news_from l.names l.rows l.steps l.n l.roots (drop l.n l.rows);
  counts : Counts l.counts (take l.n l.rows);
}
