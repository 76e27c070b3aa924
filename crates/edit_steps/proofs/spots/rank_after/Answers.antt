use Rattle.std.proofs.Common.{◌≡◌, ℕ, List, sym, ap, ◌∙◌}
use Rattle.std.specs.Prelude.{Option, None, unwrap_or, length}
use Rattle.model_state.specs.declared.entry.Entry.{Entry}
use Rattle.model_state.specs.Listing.{children, last_rank}
use Rattle.model_state.specs.Ranks.{rank_between}
use Rattle.edit_steps.specs.Spot.{rank_for, ranks_of}
use Rattle.edit_steps.proofs.SpotOrder.{end_rank}
use Rattle.edit_steps.proofs.spots.rank_after.Goals as goal

behind : (xs : List Entry) (last : Option ℕ) (n : ℕ) (r : Option ℕ) → last ≡ last_rank xs → n ≡ unwrap_or last 0 → r ≡ rank_between n None
    → r ≡ rank_for (ranks_of xs) (length xs)
behind xs last n r last_is n_is is = is ∙ ap (λ k. rank_between k None) (n_is ∙ ap (λ o. unwrap_or o 0) last_is) ∙ sym (end_rank xs)

pub returns : goal.returns
returns g c =
    let m = g.L.Look.state c.args.look.now in
    behind (children m.place m.prank c.args.place.now) c.last_child.result c.unwrap_or.result c.rank_between.result c.last_child.ensures
    c.unwrap_or.ensures c.rank_between.ensures.rank
