use Rattle.std.proofs.Common.{[], sym, ap, subst, ◌∙◌}
use Rattle.std.specs.Option.{option_map}
use Rattle.std.specs.Map.{lookup}
use Rattle.std.specs.FinMap.{get}
use Rattle.finite_maps.specs.Equal.{text_eq}
use Rattle.ranked_lists.specs.Ranked.{AreRanked, rank_map, named, entry_with}
use Rattle.ranked_lists.proofs.Held.{none_ranked, get-ranks}
use Rattle.ranked_lists.proofs.many.Many.new.Goals as goal

pub invariant_of-result : goal.invariant_of-result
invariant_of-result c = (
  subst AreRanked (sym c.new-2.ensures.empty) none_ranked,
  λ q.
      ap (λ es. lookup (text_eq q) (named es)) c.new.ensures.empty
      ∙ ap (option_map (entry_with q)) (sym (ap (λ ks. get (rank_map ks) q) c.new-2.ensures.empty ∙ get-ranks [] q)),
)
