use Rattle.std.proofs.Common.{◌≡◌, sym, ap, ◌∙◌}
use Rattle.std.specs.Prelude.{Option, None, IsSome, is_some}
use Rattle.finite_maps.proofs.Cases.{true_false}
use Rattle.model_state.specs.Listing.{last_rank}
use Rattle.ranked_lists.specs.Ranks.{entries_by_rank}
use Rattle.ranked_lists.proofs.Ends.{last_entry, no_items}
use Rattle.ranked_lists.proofs.many.Many.last.Goals as goal

none_some : {A : Type 0} (o : Option A) → o ≡ None → IsSome o → ⊥
none_some o none some = true_false (is_some o) some (ap is_some none)

pub returns-in-None : goal.returns-in-None
returns-in-None c =
    let keys = c.self.inside.by_rank.keys in
    let gone = no_items keys (λ more. none_some _ c.in-None.is (c.last.ensures.variant.1 more)) in
    sym (ap last_rank (sym (c.self.invariant.0 ∙ ap entries_by_rank c.self.view_is) ∙ gone))

pub returns-in-Some : goal.returns-in-Some
returns-in-Some c =
    sym (last_entry c.self.inside.by_rank.keys c.in-Some.entry.now c.in-Some.ensures.last)
    ∙ ap last_rank (c.self.invariant.0 ∙ ap entries_by_rank c.self.view_is)
