-- an element with another rank
use Rattle.std.proofs.Common.{◌≡◌, Bool, cond, true, false, refl, sym, ap, subst, ◌∙◌}
use Rattle.std.specs.Prelude.{Some, IsSome}
use Rattle.std.specs.BTreeMap.{is_at}
use Rattle.std.specs.Set.{remove_key}
use Rattle.std.specs.FinMap.{get}
use Rattle.finite_maps.specs.Maps.{set}
use Rattle.finite_maps.proofs.MapLaws.{set_here}
use Rattle.model_state.specs.Keys.{IdBytes}
use Rattle.model_state.specs.Listing.{entry_cmp}
use Rattle.model_state.proofs.Orders.{id_order}
use Rattle.ranked_lists.specs.Ranked.{rank_map, named, entry_with, IsTableOf}
use Rattle.ranked_lists.proofs.Held.{holds}
use Rattle.ranked_lists.proofs.Keyed.{set_moved, is_in}
use Rattle.ranked_lists.proofs.many.Many.rerank.Goals as goal

still_in : (b c : Bool) → c ≡ true → cond b true c ≡ true
still_in true c h = refl
still_in false c h = h

pub returns-then-old-rank-clause-ok : goal.returns-then-old-rank-clause-ok
returns-then-old-rank-clause-ok c = sym (set_here id_order c.args.self.now c.args.e (Some c.args.rank) (c.requires ∙ ap Some c.if-old-rank.true))

pub invariant_of-self-2 : goal.invariant_of-self-2
invariant_of-self-2 c =
    let a = c.self.inside in
    let e = c.args.e in
    let keys = a.by_rank.keys in
    let os = c.insert.new.self.keys in
    let some = ap (λ m. get m e) c.self.view_is ∙ c.requires in
    let after = set_moved keys c.self.invariant.0 e os c.remove.new.self.keys c.args.old c.args.rank some c.if-old-rank.false c.in_ok-insert.ensures.keys
    (c.in_ok-insert.ensures.updates.0 (entry_with e c.args.old)
    ∙ still_in _ _ (is_in keys (rank_map keys) (holds keys (rank_map keys) c.self.invariant.0) e c.args.old some))
    (c.remove.ensures.keys ∙ ap (λ (z : IdBytes). remove_key (is_at (entry_cmp (entry_with z c.args.old))) os) c.in_ok-copy.ensures) c.remove.ensures.ordered in
    let m = rank_map keys in
    let fs = named c.write_rank.new.by_id.entries in
    let there = subst (λ (z : IdBytes). IsSome (get m z)) (sym c.in_ok-copy.ensures) (subst (λ o. IsSome o) (sym some) refl) in
    let wrote = subst (λ (z : IdBytes). IsTableOf fs (set m z (Some c.args.rank))) c.in_ok-copy.ensures (c.write_rank.ensures m c.self.invariant.1 there) in
    (after.0, subst (IsTableOf fs) (sym after.1) wrote)

pub returns-clause-ok : goal.returns-clause-ok
returns-clause-ok c =
    let a = c.self.inside in
    let e = c.args.e in
    let keys = a.by_rank.keys in
    let os = c.insert.new.self.keys in
    let some = ap (λ m. get m e) c.self.view_is ∙ c.requires in
    let after = set_moved keys c.self.invariant.0 e os c.remove.new.self.keys c.args.old c.args.rank some c.if-old-rank.false c.in_ok-insert.ensures.keys
    (c.in_ok-insert.ensures.updates.0 (entry_with e c.args.old)
    ∙ still_in _ _ (is_in keys (rank_map keys) (holds keys (rank_map keys) c.self.invariant.0) e c.args.old some))
    (c.remove.ensures.keys ∙ ap (λ (z : IdBytes). remove_key (is_at (entry_cmp (entry_with z c.args.old))) os) c.in_ok-copy.ensures) c.remove.ensures.ordered in
    after.1 ∙ ap (λ m. set m e (Some c.args.rank)) c.self.view_is
