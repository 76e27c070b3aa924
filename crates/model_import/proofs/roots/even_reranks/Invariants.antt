use Rattle.std.proofs.Common.{◌≡◌, ◌++◌, ◌+◌, drop}
use Rattle.edit_steps.specs.Places.{rerank_places}
use Rattle.edit_steps.specs.Spot.{evened}
use Rattle.model_import.proofs.roots.even_reranks.Given as goal

abbrev pub invariant-loop-x : goal.invariant-loop-x
invariant-loop-x l = record {
  so_far : l.steps ++ rerank_places (drop l.x-index l.list) (evened l.n (drop l.x-index l.list)) ≡ l.initial.steps ++ rerank_places l.list (evened 1 l.list);
  count : l.n ≡ l.x-index + 1;
}
