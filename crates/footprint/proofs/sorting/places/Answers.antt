-- by one position more
use Rattle.std.proofs.Common.{sym, ap, ◌∙◌, ◌++◌, ◌∷◌, []}
use Rattle.footprint.proofs.Sorted.{next_place}
use Rattle.footprint.proofs.sorting.places.Goals as goal

pub loop-place-preserved : goal.loop-place-preserved
loop-place-preserved c = c.in_ok-push.ensures.items ∙ ap (λ l. l ++ c.loop-place.place ∷ []) c.loop-place.invariant ∙ sym (next_place c.loop-place.place)
